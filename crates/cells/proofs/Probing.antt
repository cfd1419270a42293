-- A probe's steps and ends. A step has one of four ways (`Step`), and what a probe's end tells follows by going through them.
use mathlib.Core.Path.{◌≡◌, sym, ap, ◌∙◌}
use mathlib.Core.List.{List}
use mathlib.Core.Logic.{◌⊎◌, inl, inr, ⊎_elim}
use Prim.Native.Nat.{ℕ, zero, suc, ◌+◌, ◌-◌, ◌*◌, ◌/◌, ◌%◌, ◌≤◌, ◌<◌}
use native.Mathlib.Nat.{mod-lt, mul-lt-mul_of_pos_right, div-lt_iff_lt-mul}
use native.Mathlib.Decide.{ℕ_discrete, dec_le, dec_lt}
use native.Mathlib.Omega.{arith}
use lib.Dec.{lit<}
use borrow.Author.Tests.{lt-ltb, le-ltb, le-leb, lt-leb, eq-eqb, ne_eqb}
use Rattle.cells.specs.declared.Probe.{Probe}
use Rattle.cells.specs.declared.Probe.TheVariants.{At, Free, Full}
use Rattle.cells.specs.Cells.{key_at, cell_count, cell_at, cell_after, home_of}
use Rattle.cells.specs.Probe.{first_of, probe_from, probe}
use Rattle.cells.specs.Index.{Reach, here, there}

-- ---- the cells' order
pub home_lt : (n k : ℕ) → home_of n k < cell_count n
unfolding home_of
home_lt n k = (div-lt_iff_lt-mul (lit< tt)).1 (omega (arith, mul-lt-mul_of_pos_right {k = cell_count n} (mod-lt (k % 4294967296 * 1640531527 + k / 4294967296 * 1540483477) {m = 4294967296} (lit< tt)) (omega arith)))

module _ (n p : ℕ) where
  after_in : p + 1 < cell_count n → cell_after n p ≡ p + 1
  unfolding cell_after
  after_in h = rw (lt-ltb (p + 1) (cell_count n) h)

  after_out : cell_count n ≤ p + 1 → cell_after n p ≡ 0
  unfolding cell_after
  after_out h = rw (le-ltb (p + 1) (cell_count n) h)

  pub after_lt : p < cell_count n → cell_after n p < cell_count n
  after_lt h = go (dec_lt (p + 1) (cell_count n))
    where
      go : Dec (p + 1 < cell_count n) → cell_after n p < cell_count n
      go (yes l) = omega (arith, after_in l)
      go (no l) = omega (arith, after_out (omega arith))

  module _ (b : ℕ) where
    first_had : b < cell_count n → first_of n b p ≡ b
    first_had h = rw (lt-ltb b (cell_count n) h)

    first_new : cell_count n ≤ b → first_of n b p ≡ p
    first_new h = rw (le-ltb b (cell_count n) h)

-- ---- the steps
module _ (ws : List ℕ) (n k p b : ℕ) where
  end_had : b < cell_count n → probe_from ws n k 0 p b ≡ Free b
  unfolding probe_from
  end_had h = rw (lt-ltb b (cell_count n) h)

  end_full : cell_count n ≤ b → probe_from ws n k 0 p b ≡ Full
  unfolding probe_from
  end_full h = rw (le-ltb b (cell_count n) h)

  module _ (f : ℕ) where
    at_free : cell_at ws n p ≡ 0 → probe_from ws n k (suc f) p b ≡ Free (first_of n b p)
    unfolding probe_from
    at_free e = rw (eq-eqb _ _ e)

    at_mine : (cell_at ws n p ≡ 0 → ⊥) → cell_at ws n p ≤ n → key_at ws (cell_at ws n p - 1) ≡ k → probe_from ws n k (suc f) p b ≡ At p (cell_at ws n p - 1)
    unfolding probe_from
    at_mine z l e = rw (ne_eqb _ _ z, le-leb _ _ l, eq-eqb _ _ e)

    at_other : (cell_at ws n p ≡ 0 → ⊥) → cell_at ws n p ≤ n → (key_at ws (cell_at ws n p - 1) ≡ k → ⊥) → probe_from ws n k (suc f) p b ≡ probe_from ws n k f (cell_after n p) b
    unfolding probe_from
    at_other z l e = rw (ne_eqb _ _ z, le-leb _ _ l, ne_eqb _ _ e)

    at_tomb : (cell_at ws n p ≡ 0 → ⊥) → n < cell_at ws n p → probe_from ws n k (suc f) p b ≡ probe_from ws n k f (cell_after n p) (first_of n b p)
    unfolding probe_from
    at_tomb z l = rw (ne_eqb _ _ z, lt-leb _ _ l)

-- ---- the steps as the code makes them: f cells are left, and then f - 1
pub from_home : (ws : List ℕ) (n k r : ℕ) → r ≡ home_of n k → probe_from ws n k (cell_count n) r (cell_count n) ≡ probe ws n k
unfolding probe
from_home ws n k r e = ap (λ (x : ℕ). probe_from ws n k (cell_count n) x (cell_count n)) e

module _ (ws : List ℕ) (n k f p b : ℕ) where
  refuel : {g : ℕ} → f ≡ g → probe_from ws n k f p b ≡ probe_from ws n k g p b
  refuel e = ap (λ (x : ℕ). probe_from ws n k x p b) e

  module _ (h : f ≤ 0) where
    pub out_had : b < cell_count n → Free b ≡ probe_from ws n k f p b
    out_had l = sym (refuel (omega arith) ∙ end_had ws n k p b l)

    pub out_full : cell_count n ≤ b → Full ≡ probe_from ws n k f p b
    out_full l = sym (refuel (omega arith) ∙ end_full ws n k p b l)

  module _ (h : 0 < f) where
    one_less : probe_from ws n k f p b ≡ probe_from ws n k (suc (f - 1)) p b
    one_less = refuel (omega arith)

    pub on_had : cell_at ws n p ≡ 0 → b < cell_count n → probe_from ws n k f p b ≡ Free b
    on_had e l = one_less ∙ at_free ws n k p b (f - 1) e ∙ ap Free (first_had n p b l)

    pub on_new : cell_at ws n p ≡ 0 → cell_count n ≤ b → probe_from ws n k f p b ≡ Free p
    on_new e l = one_less ∙ at_free ws n k p b (f - 1) e ∙ ap Free (first_new n p b l)

    pub on_mine : (cell_at ws n p ≡ 0 → ⊥) → cell_at ws n p ≤ n → key_at ws (cell_at ws n p - 1) ≡ k → probe_from ws n k f p b ≡ At p (cell_at ws n p - 1)
    on_mine z l e = one_less ∙ at_mine ws n k p b (f - 1) z l e

    -- a turn: the code's next cell is q, and its free cell b'
    module _ (q b' : ℕ) (r : Probe) (nx : q ≡ cell_after n p) (inv : probe_from ws n k f p b ≡ r) where
      turn : (x : ℕ) → b' ≡ x → probe_from ws n k (suc (f - 1)) p b ≡ probe_from ws n k (f - 1) (cell_after n p) x → probe_from ws n k (f - 1) q b' ≡ r
      turn x e w = rw (nx, e) (sym w ∙ sym one_less ∙ inv)

      pub turn_miss : b' ≡ b → (cell_at ws n p ≡ 0 → ⊥) → cell_at ws n p ≤ n → (key_at ws (cell_at ws n p - 1) ≡ k → ⊥) → probe_from ws n k (f - 1) q b' ≡ r
      turn_miss e z l d = turn b e (at_other ws n k p b (f - 1) z l d)

      pub turn_had : b' ≡ b → (cell_at ws n p ≡ 0 → ⊥) → n < cell_at ws n p → b < cell_count n → probe_from ws n k (f - 1) q b' ≡ r
      turn_had e z l d = turn (first_of n b p) (e ∙ sym (first_had n p b d)) (at_tomb ws n k p b (f - 1) z l)

      pub turn_new : b' ≡ p → (cell_at ws n p ≡ 0 → ⊥) → n < cell_at ws n p → cell_count n ≤ b → probe_from ws n k (f - 1) q b' ≡ r
      turn_new e z l d = turn (first_of n b p) (e ∙ sym (first_new n p b d)) (at_tomb ws n k p b (f - 1) z l)

-- ---- a step's ways, and the end's
data Step (ws : List ℕ) (n k f p b : ℕ) : Type 0 where
  free : cell_at ws n p ≡ 0 → probe_from ws n k (suc f) p b ≡ Free (first_of n b p) → Step ws n k f p b
  mine : (s : ℕ) → cell_at ws n p ≡ s + 1 → s < n → key_at ws s ≡ k → probe_from ws n k (suc f) p b ≡ At p s → Step ws n k f p b
  other : (s : ℕ) → cell_at ws n p ≡ s + 1 → s < n → (key_at ws s ≡ k → ⊥) → probe_from ws n k (suc f) p b ≡ probe_from ws n k f (cell_after n p) b → Step ws n k f p b
  tomb : n < cell_at ws n p → probe_from ws n k (suc f) p b ≡ probe_from ws n k f (cell_after n p) (first_of n b p) → Step ws n k f p b

step : (ws : List ℕ) (n k f p b : ℕ) → Step ws n k f p b
step ws n k f p b = go (ℕ_discrete (cell_at ws n p) 0) (dec_le (cell_at ws n p) n) (ℕ_discrete (key_at ws (cell_at ws n p - 1)) k)
  where
    go : Dec (cell_at ws n p ≡ 0) → Dec (cell_at ws n p ≤ n) → Dec (key_at ws (cell_at ws n p - 1) ≡ k) → Step ws n k f p b
    go (yes z) l e = free z (at_free ws n k p b f z)
    go (no z) (yes l) (yes e) = mine (cell_at ws n p - 1) (omega arith) (omega arith) e (at_mine ws n k p b f z l e)
    go (no z) (yes l) (no e) = other (cell_at ws n p - 1) (omega arith) (omega arith) e (at_other ws n k p b f z l e)
    go (no z) (no l) e = tomb (omega arith) (at_tomb ws n k p b f z (omega arith))

data End (ws : List ℕ) (n k p b : ℕ) : Type 0 where
  had : b < cell_count n → probe_from ws n k 0 p b ≡ Free b → End ws n k p b
  full : cell_count n ≤ b → probe_from ws n k 0 p b ≡ Full → End ws n k p b

end : (ws : List ℕ) (n k p b : ℕ) → End ws n k p b
end ws n k p b = go (dec_lt b (cell_count n))
  where
    go : Dec (b < cell_count n) → End ws n k p b
    go (yes l) = had l (end_had ws n k p b l)
    go (no l) = full (omega arith) (end_full ws n k p b (omega arith))

module _ {r : Probe} {c : ℕ} where
  at_not_free : {s d : ℕ} → r ≡ At c s → r ≡ Free d → ⊥
  at_not_free e q = let z : ◌≡◌ {A = ℕ} 0 1 = cc in omega arith

  at_not_full : {s : ℕ} → r ≡ At c s → r ≡ Full → ⊥
  at_not_full e q = let z : ◌≡◌ {A = ℕ} 0 1 = cc in omega arith

  free_not_full : r ≡ Free c → r ≡ Full → ⊥
  free_not_full e q = let z : ◌≡◌ {A = ℕ} 0 1 = cc in omega arith

-- ---- what an end tells, of any words
-- cell c holds record s, which has the key, and the way goes there
pub record Found (ws : List ℕ) (n k f p c s : ℕ) : Type 0 where
  pub cell : c < cell_count n
  pub small : s < n
  pub key : key_at ws s ≡ k
  pub holds : cell_at ws n c ≡ s + 1
  pub way : Reach ws n (s + 1) f p

-- cell c holds no record, and the way goes there once something stands in it
pub record Vacant (ws : List ℕ) (n f p c : ℕ) : Type 0 where
  pub cell : c < cell_count n
  pub bare : (x : ℕ) → x < n → cell_at ws n c ≡ x + 1 → ⊥
  pub way : (ws' : List ℕ) (v : ℕ) → ((j : ℕ) → (cell_at ws n j ≡ 0 → ⊥) → cell_at ws' n j ≡ 0 → ⊥) → cell_at ws' n c ≡ v → Reach ws' n v f p

-- cell j is one of f from p on, round the end
abbrev Within : ℕ → ℕ → ℕ → ℕ → Type 0
Within n p f j = ((p ≤ j) × (j < p + f)) ⊎ (j + cell_count n < p + f)

-- cell j holds a record
abbrev pub Holds : List ℕ → ℕ → ℕ → Type 0
Holds ws n j = (1 ≤ cell_at ws n j) × (cell_at ws n j ≤ n)

module _ (ws : List ℕ) (n k : ℕ) where
  from_at : (f p b c s : ℕ) → p < cell_count n → probe_from ws n k f p b ≡ At c s → Found ws n k f p c s
  from_at zero p b c s h e = go (end ws n k p b)
    where
      go : End ws n k p b → Found ws n k zero p c s
      go (had l w) = absurd (at_not_free e w)
      go (full l w) = absurd (at_not_full e w)
  from_at (suc f) p b c s h e = go (step ws n k f p b) (λ x q. from_at f (cell_after n p) x c s (after_lt n p h) q)
    where
      later : (cell_at ws n p ≡ 0 → ⊥) → Found ws n k f (cell_after n p) c s → Found ws n k (suc f) p c s
      later z o = record { cell = o.cell; small = o.small; key = o.key; holds = o.holds; way = there z o.way }

      go : Step ws n k f p b → ((x : ℕ) → probe_from ws n k f (cell_after n p) x ≡ At c s → Found ws n k f (cell_after n p) c s) → Found ws n k (suc f) p c s
      go (free z w) ih = absurd (at_not_free e w)
      go (mine r a i d w) ih =
          let ec : p ≡ c = cc in
          let es : r ≡ s = cc in
          let hp : cell_at ws n p ≡ s + 1 = cc in
          record { cell = omega arith; small = omega arith; key = cc; holds = cc; way = here hp }
      go (other r a i d w) ih = later (λ z. omega arith) (ih b (sym w ∙ e))
      go (tomb a w) ih = later (λ z. omega arith) (ih (first_of n b p) (sym w ∙ e))

  -- the cell that a probe offers is the one that it had, or vacant
  from_free : (f p b c : ℕ) → p < cell_count n → probe_from ws n k f p b ≡ Free c → ((b < cell_count n) × (c ≡ b)) ⊎ Vacant ws n f p c
  from_free zero p b c h e = go (end ws n k p b)
    where
      go : End ws n k p b → ((b < cell_count n) × (c ≡ b)) ⊎ Vacant ws n zero p c
      go (had l w) = inl (l, cc)
      go (full l w) = absurd (free_not_full e w)
  from_free (suc f) p b c h e = go (step ws n k f p b) (λ x q. from_free f (cell_after n p) x c (after_lt n p h) q) (dec_lt b (cell_count n))
    where
      Goal : Type 0
      Goal = ((b < cell_count n) × (c ≡ b)) ⊎ Vacant ws n (suc f) p c

      now : ((x : ℕ) → x < n → cell_at ws n p ≡ x + 1 → ⊥) → c ≡ p → Vacant ws n (suc f) p c
      now bare q = record {
        cell = omega arith;
        bare = λ x i a. bare x i (cc);
        way = λ ws' v keep a. here {p = p} (ap (cell_at ws' n) (sym q) ∙ a);
      }

      later : (cell_at ws n p ≡ 0 → ⊥) → Vacant ws n f (cell_after n p) c → Vacant ws n (suc f) p c
      later z o = record { cell = o.cell; bare = o.bare; way = λ ws' v keep a. there (keep p z) (o.way ws' v keep a) }

      go : Step ws n k f p b → ((x : ℕ) → probe_from ws n k f (cell_after n p) x ≡ Free c → ((x < cell_count n) × (c ≡ x)) ⊎ Vacant ws n f (cell_after n p) c) → Dec (b < cell_count n) → Goal
      go (free z w) ih (yes l) = let u = first_had n p b l in inl (l, cc)
      go (free z w) ih (no l) = let u = first_new n p b (omega arith) in inr (now (λ x i a. omega arith) (cc))
      go (mine r a i d w) ih l = absurd (at_not_free w e)
      go (other r a i d w) ih l = ⊎_elim inl (λ o. inr (later (λ z. omega arith) o)) (ih b (sym w ∙ e))
      go (tomb a w) ih (yes l) = ⊎_elim (λ m. inl (l, m.1 ∙ first_had n p b l)) (λ o. inr (later (λ z. omega arith) o)) (ih (first_of n b p) (sym w ∙ e))
      go (tomb a w) ih (no l) = ⊎_elim (λ m. inr (now (λ x i q. omega arith) (m.1 ∙ first_new n p b (omega arith)))) (λ o. inr (later (λ z. omega arith) o)) (ih (first_of n b p) (sym w ∙ e))

  -- a probe that ends full passed a record in every cell
  from_full : (f p b : ℕ) → p < cell_count n → probe_from ws n k f p b ≡ Full → (cell_count n ≤ b) × ((j : ℕ) → j < cell_count n → Within n p f j → Holds ws n j)
  from_full zero p b h e = go (end ws n k p b)
    where
      go : End ws n k p b → (cell_count n ≤ b) × ((j : ℕ) → j < cell_count n → Within n p zero j → Holds ws n j)
      go (had l w) = absurd (free_not_full w e)
      go (full l w) = (l, λ j i m. absurd (⊎_elim (λ a. omega arith) (λ a. omega arith) m))
  from_full (suc f) p b h e = go (step ws n k f p b) (λ x a. from_full f (cell_after n p) x (after_lt n p h) a)
    where
      All : ℕ → ℕ → Type 0
      All x y = (j : ℕ) → j < cell_count n → Within n x y j → Holds ws n j

      rest : (j : ℕ) → j < cell_count n → (j ≡ p → ⊥) → Within n p (suc f) j → Dec (p + 1 < cell_count n) → Within n (cell_after n p) f j
      rest j i d m (yes l) = let x = after_in n p l in ⊎_elim (λ a. inl (omega arith, omega arith)) (λ a. inr (omega arith)) m
      rest j i d m (no l) = let x = after_out n p (omega arith) in ⊎_elim (λ a. absurd (omega arith)) (λ a. inl (omega arith, omega arith)) m

      go : Step ws n k f p b → ((x : ℕ) → probe_from ws n k f (cell_after n p) x ≡ Full → (cell_count n ≤ x) × All (cell_after n p) f) → (cell_count n ≤ b) × All p (suc f)
      go (free z w) ih = absurd (free_not_full w e)
      go (mine r a i d w) ih = absurd (at_not_full w e)
      go (other r a i d w) ih =
          let o = ih b (sym w ∙ e) in
          (o.0, λ j l m. at j l m (ℕ_discrete j p) o.1)
        where
          at : (j : ℕ) → j < cell_count n → Within n p (suc f) j → Dec (j ≡ p) → All (cell_after n p) f → Holds ws n j
          at j l m (yes q) o = let c : cell_at ws n j ≡ r + 1 = cc in (omega arith, omega arith)
          at j l m (no x) o = o j l (rest j l x m (dec_lt (p + 1) (cell_count n)))
      go (tomb a w) ih = absurd (low (dec_lt b (cell_count n)) (ih (first_of n b p) (sym w ∙ e)).0)
        where
          low : Dec (b < cell_count n) → cell_count n ≤ first_of n b p → ⊥
          low (yes l) q = omega (arith, first_had n p b l)
          low (no l) q = omega (arith, first_new n p b (omega arith))

  -- a record that is reached is found, where no other in the cells has its key
  from_reach : (s : ℕ) → s < n → key_at ws s ≡ k → ((c r : ℕ) → c < cell_count n → r < n → cell_at ws n c ≡ r + 1 → key_at ws r ≡ k → r ≡ s)
      → {f p : ℕ} (b : ℕ) → p < cell_count n → Reach ws n (s + 1) f p → (c : ℕ) × (probe_from ws n k f p b ≡ At c s)
  from_reach s l d only {f = zero} b h r = elim r [ ]
  from_reach s l d only {f = suc f} {p = p} b h (here e) = go (step ws n k f p b)
    where
      go : Step ws n k f p b → (c : ℕ) × (probe_from ws n k (suc f) p b ≡ At c s)
      go (free z w) = absurd (omega arith)
      go (mine r a i q w) = (p, w ∙ ap (At p) (omega arith))
      go (other r a i q w) = absurd (q (ap (key_at ws) (omega arith) ∙ d))
      go (tomb a w) = absurd (omega arith)
  from_reach s l d only {f = suc f} {p = p} b h (there z r) = go (step ws n k f p b) (λ x. from_reach s l d only x (after_lt n p h) r)
    where
      go : Step ws n k f p b → ((x : ℕ) → (c : ℕ) × (probe_from ws n k f (cell_after n p) x ≡ At c s)) → (c : ℕ) × (probe_from ws n k (suc f) p b ≡ At c s)
      go (free y w) ih = absurd (z y)
      go (mine r a i q w) ih = (p, w ∙ ap (At p) (only p r h i a q))
      go (other r a i q w) ih = ((ih b).0, w ∙ (ih b).1)
      go (tomb a w) ih = ((ih (first_of n b p)).0, w ∙ (ih (first_of n b p)).1)

  pub at_found : (c s : ℕ) → probe ws n k ≡ At c s → Found ws n k (cell_count n) (home_of n k) c s
  unfolding probe
  at_found c s e = from_at (cell_count n) (home_of n k) (cell_count n) c s (home_lt n k) e

  pub free_vacant : (c : ℕ) → probe ws n k ≡ Free c → Vacant ws n (cell_count n) (home_of n k) c
  unfolding probe
  free_vacant c e = ⊎_elim (λ m. absurd (omega arith)) (λ o. o) (from_free (cell_count n) (home_of n k) (cell_count n) c (home_lt n k) e)

  pub full_holds : probe ws n k ≡ Full → (j : ℕ) → j < cell_count n → Holds ws n j
  unfolding probe
  full_holds e j l = (from_full (cell_count n) (home_of n k) (cell_count n) (home_lt n k) e).1 j l (go (dec_lt j (home_of n k)))
    where
      go : Dec (j < home_of n k) → Within n (home_of n k) (cell_count n) j
      go (yes y) = inr (omega arith)
      go (no y) = inl (omega arith, omega arith)

  pub reach_found : (s : ℕ) → s < n → key_at ws s ≡ k → ((c r : ℕ) → c < cell_count n → r < n → cell_at ws n c ≡ r + 1 → key_at ws r ≡ k → r ≡ s)
      → Reach ws n (s + 1) (cell_count n) (home_of n k) → (c : ℕ) × (probe ws n k ≡ At c s)
  unfolding probe
  reach_found s l d only w = from_reach s l d only (cell_count n) (home_lt n k) w
