-- What keeps an index, adds a record to it and takes one out. A record's way to its cell survives where no cell on it
-- becomes one that was never used: entering writes a record, and erasing clears a cell only where the way of no other
-- record goes on from it.
use mathlib.Core.Path.{◌≡◌, refl, sym, ap, ◌∙◌}
use mathlib.Core.List.Memᴰ
use mathlib.Core.List.{List, [], ◌∷◌, Memᴰ}
use mathlib.Core.Bool.{cond}
use mathlib.Core.Logic.{◌⊎◌, inl, inr, ⊎_elim}
use Prim.Native.Nat.{ℕ, ◌+◌, ◌*◌, ◌/◌, ◌%◌, ◌≤◌, ◌<◌}
use native.Mathlib.Decide.{ℕ_discrete}
use native.Mathlib.Omega.{arith}
use lib.Dec.{eqb}
use lib.ListN.{length, get_or}
use borrow.Author.Tests.{eq-eqb, ne_eqb}
use Rattle.cells.specs.declared.Probe.{Probe}
use Rattle.cells.specs.declared.Probe.TheVariants.{At, Free, Full}
use Rattle.cells.specs.Cells.{key_at, cells_from, cell_words, cell_count, cell_word, weight, cell_at, set_cell, zeroed, cell_after, home_of, erased, tombstone}
use Rattle.cells.specs.Probe.{probe, taken_by, entered, entered_all}
use Rattle.cells.specs.Index.{Reach, here, there, Indexed, IndexOf}
use Rattle.cells.proofs.Packing.{Outside, set_length, set_outside, set_cell_same, set_cell_other}
use Rattle.cells.proofs.Clearing.{zero_length, zero_outside, zero_cell}
use Rattle.cells.proofs.Probing.{home_lt, after_lt, Found, Vacant, at_found, free_vacant, full_holds, reach_found}
use Rattle.cells.proofs.Lists.{Distinct}
use Rattle.cells.proofs.Held.{some_bare}

-- what is reached in ws is reached in ws'
reach_keep : {ws ws' : List ℕ} {n v f p : ℕ} → ((j : ℕ) → j < cell_count n → cell_at ws n j ≡ v → cell_at ws' n j ≡ v)
    → ((j g : ℕ) → j < cell_count n → (cell_at ws n j ≡ 0 → ⊥) → Reach ws n v g (cell_after n j) → cell_at ws' n j ≡ 0 → ⊥)
    → p < cell_count n → Reach ws n v f p → Reach ws' n v f p
reach_keep {p = p} same used h (here e) = here (same p h e)
reach_keep {n = n} {p = p} same used h (there {f = g} z r) = there (used p g h z r) (reach_keep same used (after_lt n p h) r)

pub relabel : {ws : List ℕ} {n : ℕ} {L M : ℕ → Type 0} → ((x : ℕ) → L x → M x) → ((x : ℕ) → M x → L x) → Indexed ws n L → Indexed ws n M
relabel to from ix = record {
  small = λ s m. ix.small s (from s m);
  reach = λ s m. ix.reach s (from s m);
  owned = λ c s h b e. to s (ix.owned c s h b e);
  once = ix.once;
  apart = λ r s m₁ m₂ e. ix.apart r s (from r m₁) (from s m₂) e;
}

-- words that hold neither a cell nor an indexed record's key do not matter
pub frame : {ws ws' : List ℕ} {n : ℕ} {L : ℕ → Type 0} → ((j : ℕ) → j < cell_count n → cell_at ws' n j ≡ cell_at ws n j)
    → ((s : ℕ) → L s → key_at ws' s ≡ key_at ws s) → Indexed ws n L → Indexed ws' n L
frame {ws} {ws'} {n} cells keys ix = record {
  small = ix.small;
  reach = λ s l. rw (keys s l) (reach_keep (λ j h e. cells j h ∙ e) (λ j g h z r q. z (sym (cells j h) ∙ q)) (home_lt n (key_at ws s)) (ix.reach s l));
  owned = λ c s h b e. ix.owned c s h b (sym (cells c h) ∙ e);
  once = λ c d s h i b e q. ix.once c d s h i b (sym (cells c h) ∙ e) (sym (cells d i) ∙ q);
  apart = λ r s l m e. ix.apart r s l m (sym (keys r l) ∙ e ∙ keys s m);
}

pub frame_words : {ws ws' : List ℕ} {n : ℕ} {L : ℕ → Type 0} → ((j : ℕ) → 5 * n + 10 ≤ j → j < 8 * n + 58 → get_or ws' j 0 ≡ get_or ws j 0)
    → ((s : ℕ) → L s → key_at ws' s ≡ key_at ws s) → Indexed ws n L → Indexed ws' n L
unfolding cell_at
frame_words {n = n} words keys = frame (λ j h. ap (λ (w : ℕ). w / weight j % 65536) (words (cell_word n j) (omega arith) (omega arith))) keys

-- ---- the probe of an index
module _ {ws : List ℕ} {n : ℕ} {L : ℕ → Type 0} (ix : Indexed ws n L) where
  pub found_live : (k c s : ℕ) → probe ws n k ≡ At c s → L s × (key_at ws s ≡ k) × (c < cell_count n) × (cell_at ws n c ≡ s + 1)
  found_live k c s e =
      let o = at_found ws n k c s e in
      (ix.owned c s o.cell o.small o.holds, o.key, o.cell, o.holds)

  pub live_found : (k s : ℕ) → L s → key_at ws s ≡ k → (c : ℕ) × (probe ws n k ≡ At c s)
  live_found k s l e = reach_found ws n k s (ix.small s l) e (λ c r h i a q. ix.apart r s (ix.owned c r h i a) l (q ∙ sym e)) (rw e at (ix.reach s l))

  pub never_full : (k : ℕ) → probe ws n k ≡ Full → ⊥
  never_full k e = omega (arith, some_bare ws n (cell_count n) ix.once (full_holds ws n k e))

  -- the probe of a key that no record of the index has
  pub absent_free : (k : ℕ) → ((x : ℕ) → L x → key_at ws x ≡ k → ⊥) → (c : ℕ) × (probe ws n k ≡ Free c)
  absent_free k clash = go (probe ws n k) refl
    where
      go : (r : Probe) → probe ws n k ≡ r → (c : ℕ) × (probe ws n k ≡ Free c)
      go (At c s) e = let o = found_live k c s e in absurd (clash s o.0 o.1)
      go (Free c) e = (c, e)
      go Full e = absurd (never_full k e)

-- ---- one cell is written: the index loses the record that it held, and gains the one that is written
-- a record s with v for s + 1 is reached once v is in cell c, and no indexed record has its key
abbrev Reached : List ℕ → ℕ → (ℕ → Type 0) → ℕ → ℕ → Type 0
Reached ws n L c v = (s : ℕ) → s < n → v ≡ s + 1 → Reach (set_cell ws n c v) n (s + 1) (cell_count n) (home_of n (key_at ws s)) × ((x : ℕ) → L x → key_at ws x ≡ key_at ws s → ⊥)

-- no way goes on from cell c if v clears it
abbrev Uncut : List ℕ → ℕ → ℕ → ℕ → Type 0
Uncut ws n c v = v ≡ 0 → (x f : ℕ) → Reach ws n (x + 1) f (cell_after n c) → ⊥

module _ {ws : List ℕ} {n : ℕ} {L : ℕ → Type 0} (ix : Indexed ws n L) (fits : 8 * n + 58 ≤ length ws) (c v : ℕ) (h : c < cell_count n) (g : v < 65536) where
  written : Reached ws n L c v → Uncut ws n c v → Indexed (set_cell ws n c v) n (λ x. ((x < n) × (v ≡ x + 1)) ⊎ (L x × (cell_at ws n c ≡ x + 1 → ⊥)))
  written new uncut = record { small = small; reach = reach; owned = owned; once = once; apart = apart }
    where
      ws' : List ℕ
      ws' = set_cell ws n c v

      M : ℕ → Type 0
      M x = ((x < n) × (v ≡ x + 1)) ⊎ (L x × (cell_at ws n c ≡ x + 1 → ⊥))

      at : cell_at ws' n c ≡ v
      at = set_cell_same ws n c v fits h g

      rest : (j : ℕ) → (j ≡ c → ⊥) → cell_at ws' n j ≡ cell_at ws n j
      rest = set_cell_other ws n c v fits h g

      key : (s : ℕ) → s < n → key_at ws' s ≡ key_at ws s
      key s l = set_outside ws n c v h (5 * s) (inl (omega arith))

      small : (x : ℕ) → M x → x < n
      small x m = ⊎_elim (λ a. a.0) (λ l. ix.small x l.0) m

      same : (x : ℕ) → (cell_at ws n c ≡ x + 1 → ⊥) → (j : ℕ) → cell_at ws n j ≡ x + 1 → Dec (j ≡ c) → cell_at ws' n j ≡ x + 1
      same x d j a (yes q) = absurd (d (ap (cell_at ws n) (sym q) ∙ a))
      same x d j a (no q) = rest j q ∙ a

      used : (x j f : ℕ) → (cell_at ws n j ≡ 0 → ⊥) → Reach ws n (x + 1) f (cell_after n j) → cell_at ws' n j ≡ 0 → Dec (j ≡ c) → ⊥
      used x j f z r e (yes q) = uncut (sym at ∙ ap (cell_at ws' n) (sym q) ∙ e) x f (rw q at r)
      used x j f z r e (no q) = z (sym (rest j q) ∙ e)

      reach : (x : ℕ) → M x → Reach ws' n (x + 1) (cell_count n) (home_of n (key_at ws' x))
      reach x m =
          rw (key x (small x m))
          (⊎_elim
          (λ a. (new x a.0 a.1).0)
          (λ l. reach_keep (λ j i a. same x l.1 j a (ℕ_discrete j c)) (λ j f i z r e. used x j f z r e (ℕ_discrete j c)) (home_lt n (key_at ws x)) (ix.reach x l.0))
          m)

      owned : (d x : ℕ) → d < cell_count n → x < n → cell_at ws' n d ≡ x + 1 → M x
      owned d x i l a = go (ℕ_discrete d c)
        where
          go : Dec (d ≡ c) → M x
          go (yes q) = inl (l, sym at ∙ ap (cell_at ws' n) (sym q) ∙ a)
          go (no q) = let b = sym (rest d q) ∙ a in inr (ix.owned d x i l b, λ e. q (ix.once d c x i h l b e))

      once : (d₁ d₂ x : ℕ) → d₁ < cell_count n → d₂ < cell_count n → x < n → cell_at ws' n d₁ ≡ x + 1 → cell_at ws' n d₂ ≡ x + 1 → d₁ ≡ d₂
      once d₁ d₂ x i₁ i₂ l a₁ a₂ = go (ℕ_discrete d₁ c) (ℕ_discrete d₂ c)
        where
          -- what is written was in no other cell
          only : (d j : ℕ) → d ≡ c → (j ≡ c → ⊥) → j < cell_count n → cell_at ws' n d ≡ x + 1 → cell_at ws' n j ≡ x + 1 → ⊥
          only d j q o i a b = (new x l (sym at ∙ ap (cell_at ws' n) (sym q) ∙ a)).1 x (ix.owned j x i l (sym (rest j o) ∙ b)) refl

          go : Dec (d₁ ≡ c) → Dec (d₂ ≡ c) → d₁ ≡ d₂
          go (yes q) (yes r) = q ∙ sym r
          go (yes q) (no r) = absurd (only d₁ d₂ q r i₂ a₁ a₂)
          go (no q) (yes r) = absurd (only d₂ d₁ r q i₁ a₂ a₁)
          go (no q) (no r) = ix.once d₁ d₂ x i₁ i₂ l (sym (rest d₁ q) ∙ a₁) (sym (rest d₂ r) ∙ a₂)

      apart : (r x : ℕ) → M r → M x → key_at ws' r ≡ key_at ws' x → r ≡ x
      apart r x m₁ m₂ e = go m₁ m₂
        where
          old : key_at ws r ≡ key_at ws x
          old = sym (key r (small r m₁)) ∙ e ∙ key x (small x m₂)

          go : M r → M x → r ≡ x
          go (inl a) (inl b) = omega arith
          go (inl a) (inr b) = absurd ((new r a.0 a.1).1 x b.0 (sym old))
          go (inr a) (inl b) = absurd ((new x b.0 b.1).1 r a.0 old)
          go (inr a) (inr b) = ix.apart r x a.0 b.0 old

-- ---- a record is entered
module _ (ws : List ℕ) (n s : ℕ) where
  pub entered_is : (c : ℕ) → probe ws n (key_at ws s) ≡ Free c → entered ws n s ≡ set_cell ws n c (s + 1)
  unfolding entered
  entered_is c e = ap (taken_by ws n s) e

  pub entered_length : length (entered ws n s) ≡ length ws
  unfolding entered
  entered_length = go (probe ws n (key_at ws s))
    where
      go : (r : Probe) → length (taken_by ws n s r) ≡ length ws
      go (At c x) = refl
      go (Free c) = set_length ws n c (s + 1)
      go Full = refl

  pub entered_outside : (j : ℕ) → Outside n j → get_or (entered ws n s) j 0 ≡ get_or ws j 0
  unfolding entered
  entered_outside j o = go (probe ws n (key_at ws s)) refl
    where
      go : (r : Probe) → probe ws n (key_at ws s) ≡ r → get_or (taken_by ws n s r) j 0 ≡ get_or ws j 0
      go (At c x) e = refl
      go (Free c) e = set_outside ws n c (s + 1) (free_vacant ws n (key_at ws s) c e).cell j o
      go Full e = refl

entered_key : (ws : List ℕ) (n s x : ℕ) → x < n → key_at (entered ws n s) x ≡ key_at ws x
entered_key ws n s x h = entered_outside ws n s (5 * x) (inl (omega arith))

enter_any : {ws : List ℕ} {n : ℕ} {L : ℕ → Type 0} → Indexed ws n L → 8 * n + 58 ≤ length ws → n ≤ 4096 → (s : ℕ) → s < n
    → ((x : ℕ) → L x → key_at ws x ≡ key_at ws s → ⊥) → Indexed (entered ws n s) n (λ x. (x ≡ s) ⊎ L x)
enter_any {ws} {n} {L} ix fits few s b alone = go (absent_free ix (key_at ws s) alone)
  where
    go : (c : ℕ) × (probe ws n (key_at ws s) ≡ Free c) → Indexed (entered ws n s) n (λ x. (x ≡ s) ⊎ L x)
    go (c, e) =
        rw (entered_is ws n s c e)
        (relabel
        (λ x m. ⊎_elim (λ a. inl (omega arith)) (λ l. inr l.0) m)
        (λ x m. ⊎_elim (λ q. inl (omega arith, omega arith)) (λ l. inr (l, o.bare x (ix.small x l))) m)
        (written ix fits c (s + 1) o.cell (omega arith) new (λ z. absurd (omega arith))))
      where
        o : Vacant ws n (cell_count n) (home_of n (key_at ws s)) c
        o = free_vacant ws n (key_at ws s) c e

        at : cell_at (set_cell ws n c (s + 1)) n c ≡ s + 1
        at = set_cell_same ws n c (s + 1) fits o.cell (omega arith)

        keep : (j : ℕ) → Dec (j ≡ c) → (cell_at ws n j ≡ 0 → ⊥) → cell_at (set_cell ws n c (s + 1)) n j ≡ 0 → ⊥
        keep j (yes q) z y = omega (arith, at, ap (cell_at (set_cell ws n c (s + 1)) n) q)
        keep j (no d) z y = z (sym (set_cell_other ws n c (s + 1) fits o.cell (omega arith) j d) ∙ y)

        new : Reached ws n L c (s + 1)
        new x l q = let i : x ≡ s = omega arith in rw i (o.way (set_cell ws n c (s + 1)) (s + 1) (λ j. keep j (ℕ_discrete j c)) at, alone)

pub entered_index : {ws : List ℕ} {n : ℕ} {live : List ℕ} → IndexOf ws n live → 8 * n + 58 ≤ length ws → n ≤ 4096 → (s : ℕ) → s < n
    → ((x : ℕ) → Memᴰ x live → key_at ws x ≡ key_at ws s → ⊥) → IndexOf (entered ws n s) n (s ∷ live)
entered_index ix fits few s b alone = relabel (λ x m. ⊎_elim (λ q. Memᴰ.head q) (λ i. Memᴰ.tail i) m) (λ x m. Memᴰ.cases_cons m) (enter_any ix fits few s b alone)

-- ---- a record is erased
module _ (ws : List ℕ) (n c : ℕ) where
  pub erased_length : length (erased ws n c) ≡ length ws
  unfolding erased
  erased_length = set_length ws n c (cond (eqb (cell_at ws n (cell_after n c)) 0) 0 tombstone)

  pub erased_outside : c < cell_count n → (j : ℕ) → Outside n j → get_or (erased ws n c) j 0 ≡ get_or ws j 0
  unfolding erased
  erased_outside h j o = set_outside ws n c (cond (eqb (cell_at ws n (cell_after n c)) 0) 0 tombstone) h j o

  erased_free : cell_at ws n (cell_after n c) ≡ 0 → erased ws n c ≡ set_cell ws n c 0
  unfolding erased
  erased_free e = rw (eq-eqb (cell_at ws n (cell_after n c)) 0 e)

  erased_tomb : (cell_at ws n (cell_after n c) ≡ 0 → ⊥) → erased ws n c ≡ set_cell ws n c tombstone
  unfolding erased
  erased_tomb e = rw (ne_eqb (cell_at ws n (cell_after n c)) 0 e)

  free_unreached : (x : ℕ) {f p : ℕ} → cell_at ws n p ≡ 0 → Reach ws n (x + 1) f p → ⊥
  free_unreached x z (here e) = omega arith
  free_unreached x z (there d r) = d z

pub erased_index : {ws : List ℕ} {n : ℕ} {L : ℕ → Type 0} → Indexed ws n L → 8 * n + 58 ≤ length ws → n ≤ 4096 → (c s : ℕ)
    → probe ws n (key_at ws s) ≡ At c s → Indexed (erased ws n c) n (λ x. L x × (x ≡ s → ⊥))
erased_index {ws} {n} {L} ix fits few c s e = go (ℕ_discrete (cell_at ws n (cell_after n c)) 0)
  where
    o : Found ws n (key_at ws s) (cell_count n) (home_of n (key_at ws s)) c s
    o = at_found ws n (key_at ws s) c s e

    -- with v in the cell, which is no record's value
    drop : (v : ℕ) → v < 65536 → ((x : ℕ) → x < n → v ≡ x + 1 → ⊥) → Uncut ws n c v → Indexed (set_cell ws n c v) n (λ x. L x × (x ≡ s → ⊥))
    drop v g none uncut =
        relabel
        (λ x m. ⊎_elim (λ a. absurd (none x a.0 a.1)) (λ l. (l.0, λ q. l.1 (o.holds ∙ ap (λ (y : ℕ). y + 1) (sym q)))) m)
        (λ x m. inr (m.0, λ a. m.1 (omega (arith, o.holds))))
        (written ix fits c v o.cell g (λ x h q. absurd (none x h q)) uncut)

    go : Dec (cell_at ws n (cell_after n c) ≡ 0) → Indexed (erased ws n c) n (λ x. L x × (x ≡ s → ⊥))
    go (yes z) = rw (erased_free ws n c z) (drop 0 (omega arith) (λ x h q. omega arith) (λ y x f r. free_unreached ws n c x z r))
    go (no z) = rw (erased_tomb ws n c z) (drop tombstone (omega arith) (λ x h q. omega arith) (λ y. absurd (omega arith)))

-- ---- the cells are cleared, and filled anew
module _ (ws : List ℕ) (n : ℕ) where
  pub zeroed_outside : (j : ℕ) → Outside n j → get_or (zeroed ws (cells_from n) (cell_words n)) j 0 ≡ get_or ws j 0
  zeroed_outside j o = zero_outside ws (cells_from n) (cell_words n) j (⊎_elim inl (λ h. inr (omega arith)) o)

  pub zeroed_index : 8 * n + 58 ≤ length ws → IndexOf (zeroed ws (cells_from n) (cell_words n)) n []
  zeroed_index fits = record {
    small = λ s m. absurd (Memᴰ.not-nil m);
    reach = λ s m. absurd (Memᴰ.not-nil m);
    owned = λ c s h b e. absurd (omega (arith, zero_cell ws n c fits h));
    once = λ c d s h i b e q. absurd (omega (arith, zero_cell ws n c fits h));
    apart = λ r s m k e. absurd (Memᴰ.not-nil m);
  }

pub entered_all_length : (n : ℕ) (l : List ℕ) (ws : List ℕ) → length (entered_all ws n l) ≡ length ws
unfolding entered_all
entered_all_length n [] ws = refl
entered_all_length n (s ∷ l) ws = entered_all_length n l (entered ws n s) ∙ entered_length ws n s

pub entered_all_outside : (n j : ℕ) → Outside n j → (l : List ℕ) (ws : List ℕ) → get_or (entered_all ws n l) j 0 ≡ get_or ws j 0
unfolding entered_all
entered_all_outside n j o [] ws = refl
entered_all_outside n j o (s ∷ l) ws = entered_all_outside n j o l (entered ws n s) ∙ entered_outside ws n s j o

enter_all : (n : ℕ) → n ≤ 4096 → (l : List ℕ) {ws : List ℕ} {L : ℕ → Type 0} → Indexed ws n L → 8 * n + 58 ≤ length ws → ((x : ℕ) → Memᴰ x l → x < n) → Distinct l
    → ((x : ℕ) → Memᴰ x l → L x → ⊥) → ((r s : ℕ) → Memᴰ r l ⊎ L r → Memᴰ s l ⊎ L s → key_at ws r ≡ key_at ws s → r ≡ s)
    → Indexed (entered_all ws n l) n (λ x. Memᴰ x l ⊎ L x)
unfolding entered_all
enter_all n few [] ix fits low d new apart = relabel (λ x m. inr m) (λ x m. ⊎_elim (λ i. absurd (Memᴰ.not-nil i)) (λ i. i) m) ix
enter_all n few (s ∷ l) {ws} {L} ix fits low d new apart =
    relabel out back
    (enter_all n few l
    (enter_any ix fits few s (low s (Memᴰ.head refl)) (λ x i q. new s (Memᴰ.head refl) (is (apart x s (inr i) (inl (Memᴰ.head refl)) q) i)))
    (omega (arith, entered_length ws n s))
    (λ x i. low x (Memᴰ.tail i))
    d.1
    (λ x i m. ⊎_elim (λ q. d.0 (Memᴰ.cast (sym q) i)) (new x (Memᴰ.tail i)) m)
    (λ r x i j q. apart r x (out r i) (out x j) (sym (entered_key ws n s r (small r i)) ∙ q ∙ entered_key ws n s x (small x j))))
  where
    M : ℕ → Type 0
    M x = Memᴰ x l ⊎ ((x ≡ s) ⊎ L x)

    is : {x : ℕ} → x ≡ s → L x → L s
    is q i = rw q at i

    out : (x : ℕ) → M x → Memᴰ x (s ∷ l) ⊎ L x
    out x m = ⊎_elim (λ i. inl (Memᴰ.tail i)) (λ o. ⊎_elim (λ q. inl (Memᴰ.head q)) inr o) m

    back : (x : ℕ) → Memᴰ x (s ∷ l) ⊎ L x → M x
    back x m = ⊎_elim (λ i. ⊎_elim (λ q. inr (inl q)) inl (Memᴰ.cases_cons i)) (λ i. inr (inr i)) m

    small : (x : ℕ) → M x → x < n
    small x m = ⊎_elim (low x) (ix.small x) (out x m)

pub refilled_index : (ws : List ℕ) (n : ℕ) (l : List ℕ) → 8 * n + 58 ≤ length ws → n ≤ 4096 → ((x : ℕ) → Memᴰ x l → x < n) → Distinct l
    → ((r s : ℕ) → Memᴰ r l → Memᴰ s l → key_at ws r ≡ key_at ws s → r ≡ s)
    → IndexOf (entered_all (zeroed ws (cells_from n) (cell_words n)) n l) n l
refilled_index ws n l fits few low d apart =
    relabel only (λ x m. inl m)
    (enter_all n few l (zeroed_index ws n fits) (omega (arith, zero_length ws (cells_from n) (cell_words n))) low d (λ x i m. Memᴰ.not-nil m)
    (λ r s i j q. apart r s (only r i) (only s j) (sym (key r (only r i)) ∙ q ∙ key s (only s j))))
  where
    only : (x : ℕ) → Memᴰ x l ⊎ Memᴰ x [] → Memᴰ x l
    only x m = ⊎_elim (λ i. i) (λ i. absurd (Memᴰ.not-nil i)) m

    key : (x : ℕ) → Memᴰ x l → key_at (zeroed ws (cells_from n) (cell_words n)) x ≡ key_at ws x
    key x i = let h = low x i in zeroed_outside ws n (5 * x) (inl (omega arith))
