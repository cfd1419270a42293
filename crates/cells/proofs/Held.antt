-- The records that the first cells hold. A cell holds one record or none (`Cell`), so that no record is held twice if and
-- only if the list of those held has no repetition; and more cells than records cannot all hold one.
use mathlib.Core.Path.{◌≡◌, refl, sym, ap, ◌∙◌}
use mathlib.Core.List.Memᴰ
use mathlib.Core.List.{List, [], ◌∷◌, Memᴰ}
use mathlib.Core.Logic.{⊎_elim}
use Prim.Native.Nat.{ℕ, zero, suc, ◌+◌, ◌-◌, ◌≤◌, ◌<◌}
use native.Mathlib.Decide.{ℕ_discrete, dec_le}
use native.Mathlib.Numerals.{add-one}
use native.Mathlib.Omega.{arith}
use lib.ListN.{length}
use borrow.Author.Tests.{le-leb, lt-leb}
use Rattle.cells.specs.Cells.{cell_at}
use Rattle.cells.specs.Index.{held_in}
use Rattle.cells.proofs.Lists.{Distinct, covered}
use Rattle.cells.proofs.Probing.{Holds}

-- no record is in two of the first p cells
abbrev pub Once : List ℕ → ℕ → ℕ → Type 0
Once ws n p = (c d s : ℕ) → c < p → d < p → s < n → cell_at ws n c ≡ s + 1 → cell_at ws n d ≡ s + 1 → c ≡ d

-- what a cell adds to the records held
data Cell (ws : List ℕ) (n p : ℕ) : Type 0 where
  holds : (s : ℕ) → cell_at ws n p ≡ s + 1 → s < n → held_in ws n (suc p) ≡ s ∷ held_in ws n p → Cell ws n p
  bare : ((s : ℕ) → cell_at ws n p ≡ s + 1 → s < n → ⊥) → held_in ws n (suc p) ≡ held_in ws n p → Cell ws n p

module _ (ws : List ℕ) (n p : ℕ) where
  held_one : 1 ≤ cell_at ws n p → cell_at ws n p ≤ n → held_in ws n (suc p) ≡ (cell_at ws n p - 1) ∷ held_in ws n p
  unfolding held_in
  held_one h l = rw (le-leb 1 (cell_at ws n p) h, le-leb (cell_at ws n p) n l)

  held_free : cell_at ws n p < 1 → held_in ws n (suc p) ≡ held_in ws n p
  unfolding held_in
  held_free h = rw (lt-leb 1 (cell_at ws n p) h)

  held_tomb : 1 ≤ cell_at ws n p → n < cell_at ws n p → held_in ws n (suc p) ≡ held_in ws n p
  unfolding held_in
  held_tomb h l = rw (le-leb 1 (cell_at ws n p) h, lt-leb (cell_at ws n p) n l)

  cell : Cell ws n p
  cell = go (dec_le 1 (cell_at ws n p)) (dec_le (cell_at ws n p) n)
    where
      go : Dec (1 ≤ cell_at ws n p) → Dec (cell_at ws n p ≤ n) → Cell ws n p
      go (yes h) (yes l) = holds (cell_at ws n p - 1) (omega arith) (omega arith) (held_one h l)
      go (yes h) (no l) = bare (λ s a i. omega arith) (held_tomb h (omega arith))
      go (no h) l = bare (λ s a i. omega arith) (held_free (omega arith))

  -- the turns of a loop that counts
  pub count_one : 1 ≤ cell_at ws n p → cell_at ws n p ≤ n → length (held_in ws n (p + 1)) ≡ length (held_in ws n p) + 1
  count_one h l = rw (add-one p) (ap length (held_one h l) ∙ sym (add-one (length (held_in ws n p))))

  pub count_free : cell_at ws n p < 1 → length (held_in ws n (p + 1)) ≡ length (held_in ws n p)
  count_free h = rw (add-one p) (ap length (held_free h))

  pub count_tomb : 1 ≤ cell_at ws n p → n < cell_at ws n p → length (held_in ws n (p + 1)) ≡ length (held_in ws n p)
  count_tomb h l = rw (add-one p) (ap length (held_tomb h l))

pub count_none : (ws : List ℕ) (n : ℕ) → length (held_in ws n 0) ≡ 0
unfolding held_in
count_none ws n = refl

-- the numbers below n
below : ℕ → List ℕ
below zero = []
below (suc n) = n ∷ below n

length_below : (n : ℕ) → length (below n) ≡ n
unfolding below
length_below zero = refl
length_below (suc n) = ap suc (length_below n)

mem_below : (n x : ℕ) → x < n → Memᴰ x (below n)
unfolding below
mem_below zero x h = absurd (omega arith)
mem_below (suc n) x h = go (ℕ_discrete x n) (λ l. mem_below n x l)
  where
    go : Dec (x ≡ n) → (x < n → Memᴰ x (below n)) → Memᴰ x (n ∷ below n)
    go (yes q) ih = Memᴰ.head q
    go (no d) ih = Memᴰ.tail (ih (omega arith))

module _ (ws : List ℕ) (n : ℕ) where
  pub held_in_lem : (p s : ℕ) → Memᴰ s (held_in ws n p) → (c : ℕ) × (c < p) × (s < n) × (cell_at ws n c ≡ s + 1)
  unfolding held_in
  held_in_lem zero s m = absurd (Memᴰ.not-nil m)
  held_in_lem (suc p) s m = go (cell ws n p) (λ i. held_in_lem p s i)
    where
      Goal : ℕ → Type 0
      Goal q = (c : ℕ) × (c < q) × (s < n) × (cell_at ws n c ≡ s + 1)

      older : Goal p → Goal (suc p)
      older o = (o.0, omega (arith, o.1), o.2, o.3)

      go : Cell ws n p → (Memᴰ s (held_in ws n p) → Goal p) → Goal (suc p)
      go (holds r a i e) ih = ⊎_elim (λ q. (p, omega arith, omega arith, omega arith)) (λ j. older (ih j)) (Memᴰ.cases_cons (rw e at m))
      go (bare d e) ih = older (ih (rw e at m))

  pub in_held : (p c s : ℕ) → c < p → s < n → cell_at ws n c ≡ s + 1 → Memᴰ s (held_in ws n p)
  in_held zero c s h l a = absurd (omega arith)
  in_held (suc p) c s h l a = go (cell ws n p) (ℕ_discrete c p) (λ i. in_held p c s i l a)
    where
      go : Cell ws n p → Dec (c ≡ p) → (c < p → Memᴰ s (held_in ws n p)) → Memᴰ s (held_in ws n (suc p))
      go (holds r b i e) (yes q) ih = let w : cell_at ws n c ≡ r + 1 = cc in let u : s ≡ r = omega arith in rw e (Memᴰ.head u)
      go (holds r b i e) (no d) ih = rw e (Memᴰ.tail (ih (omega arith)))
      go (bare x e) (yes q) ih = absurd (x s (cc) l)
      go (bare x e) (no d) ih = rw e (ih (omega arith))

  pub once_distinct : (p : ℕ) → Once ws n p → Distinct (held_in ws n p)
  unfolding held_in
  once_distinct zero once = tt
  once_distinct (suc p) once = go (cell ws n p) (once_distinct p (λ c d s h g. once c d s (omega arith) (omega arith)))
    where
      go : Cell ws n p → Distinct (held_in ws n p) → Distinct (held_in ws n (suc p))
      go (holds s a i e) ih = rw e (λ m. let o = held_in_lem p s m in omega (arith, once o.0 p s (omega (arith, o.1)) (omega arith) i o.3 a, o.1), ih)
      go (bare d e) ih = rw e ih

  pub distinct_once : (p : ℕ) → Distinct (held_in ws n p) → Once ws n p
  distinct_once zero x c d s h g l a b = absurd (omega arith)
  distinct_once (suc p) x c d s h g l a b = go (cell ws n p) (λ y i j. distinct_once p y c d s i j l a b) (ℕ_discrete c p) (ℕ_discrete d p)
    where
      older : Cell ws n p → Distinct (held_in ws n p)
      older (holds r i j e) = (rw e at x).1
      older (bare z e) = rw e at x

      -- what the last cell holds no cell before it does
      new : Cell ws n p → (j : ℕ) → j < p → cell_at ws n p ≡ s + 1 → cell_at ws n j ≡ s + 1 → ⊥
      new (holds r i k e) j o u w = let q : s ≡ r = omega arith in (rw e at x).0 (in_held p j r o k (w ∙ ap (λ (y : ℕ). y + 1) q))
      new (bare z e) j o u w = z s u l

      go : Cell ws n p → (Distinct (held_in ws n p) → c < p → d < p → c ≡ d) → Dec (c ≡ p) → Dec (d ≡ p) → c ≡ d
      go v ih (yes q) (yes r) = omega arith
      go v ih (yes q) (no r) = absurd (new v d (omega arith) (ap (cell_at ws n) (sym q) ∙ a) b)
      go v ih (no q) (yes r) = absurd (new v c (omega arith) (ap (cell_at ws n) (sym r) ∙ b) a)
      go v ih (no q) (no r) = ih (older v) (omega arith) (omega arith)

  all_held : (p : ℕ) → ((j : ℕ) → j < p → Holds ws n j) → length (held_in ws n p) ≡ p
  all_held zero all = count_none ws n
  all_held (suc p) all = ap length (held_one ws n p (all p (omega arith)).0 (all p (omega arith)).1) ∙ ap suc (all_held p (λ j h. all j (omega arith)))

  -- records below n, each in one cell, are not in more than n cells
  pub some_bare : (p : ℕ) → Once ws n p → ((j : ℕ) → j < p → Holds ws n j) → p ≤ n
  some_bare p once all =
      let o = covered (held_in ws n p) (below n) (once_distinct p once) (λ x m. mem_below n x (held_in_lem p x m).2) in
      omega (arith, o.short, all_held p all, length_below n)
