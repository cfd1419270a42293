-- How the model's parts go together: places, ranks, keys, and lists with an item more, less or moved.
use mathlib.Core.Path.{◌≡◌, refl, sym, ap, ◌∙◌}
use mathlib.Core.Bool.{Bool, true, false, true≢false, cond, ◌||◌}
use mathlib.Core.List.{[], ◌∷◌}
use Prim.Native.Nat.{ℕ, zero, suc, ◌+◌, ◌-◌, ◌<◌, ◌≤◌}
use native.Mathlib.Omega.{arith}
use lib.Dec.{eqb}
use lib.ListN.{length}
use borrow.Author.Tests.{eq-eqb, ne_eqb, eqb-true, lt-ltb, le-ltb}
use Rattle.std.specs.Prelude.{Option, Some, None, slice_get}
use Rattle.fast_lru_model.specs.Model.{Item, Items, lookup, has, without, last, less, value_of, victim, evicted, with_room, inserted, rank_from, Distinct}

-- ---- places
pub last_nth : (l : Items) → last l ≡ slice_get l (length l - 1)
unfolding last
last_nth [] = refl
last_nth (x ∷ []) = refl
last_nth (x ∷ (y ∷ l)) =
    let e : length (x ∷ (y ∷ l)) - 1 ≡ suc (length (y ∷ l) - 1) = omega arith in
    last_nth (y ∷ l) ∙ ap (λ (n : ℕ). slice_get (x ∷ (y ∷ l)) n) (sym e)

pub nth_has : (i : ℕ) (l : Items) (x : Item) → slice_get l i ≡ Some x → has x.key l ≡ true
unfolding has
nth_has i [] x e = cc
nth_has zero (y ∷ l) x e = let s : y ≡ x = cc in rw (eq-eqb y.key x.key (ap (λ (z : Item). z.key) s))
nth_has (suc i) (y ∷ l) x e = rw (nth_has i l x e) (any (eqb y.key x.key))
  where
    any : (b : Bool) → (b || true) ≡ true
    any true = refl
    any false = refl

-- ---- ranks
-- no two items have one key, so where it stands is its rank
pub rank_there : (n m k i : ℕ) (l : Items) (x : Item) → m ≡ n + i → Distinct l → slice_get l i ≡ Some x → x.key ≡ k → rank_from n k l ≡ Some m
unfolding rank_from
rank_there n m k i [] x q d e h = cc
rank_there n m k zero (y ∷ l) x q d e h =
    let s : y ≡ x = cc in
    let here : n ≡ m = omega arith in
    rw (eq-eqb y.key k (ap (λ (z : Item). z.key) s ∙ h)) (ap Some here)
rank_there n m k (suc i) (y ∷ l) x q (new, d) e h =
    let other : y.key ≡ k → ⊥ = λ p. true≢false (sym (nth_has i l x e) ∙ ap (λ (j : ℕ). has j l) (h ∙ sym p) ∙ new) in
    rw (ne_eqb y.key k other) (rank_there (n + 1) m k i l x (omega arith) d e h)

-- wherever an item of a key stands, its place is one of these
abbrev pub Within : ℕ → Items → (ℕ → Type 0) → Type 0
Within k l P = (i : ℕ) (x : Item) → i < length l → slice_get l i ≡ Some x → x.key ≡ k → P i

pub rank_nowhere : (n k : ℕ) (l : Items) → Within k l (λ i. ⊥) → rank_from n k l ≡ None
unfolding rank_from
rank_nowhere n k [] bare = refl
rank_nowhere n k (x ∷ l) bare = rw (ne_eqb x.key k (bare 0 x (omega arith) refl)) (rank_nowhere (n + 1) k l (λ i y h. bare (suc i) y (omega arith)))

-- ---- keys
-- a key has an item, a value and a place exactly where it is stored
pub data Keyed (k : ℕ) (l : Items) : Type 0 where
  stored : (i : Item) → i.key ≡ k → lookup k l ≡ Some i → value_of k l ≡ Some i.value → has k l ≡ true → Keyed k l
  missing : lookup k l ≡ None → value_of k l ≡ None → has k l ≡ false → Keyed k l

pub keyed : (k : ℕ) (l : Items) → Keyed k l
unfolding lookup has value_of
keyed k [] = missing refl refl refl
keyed k (x ∷ l) = go (eqb x.key k) refl (keyed k l)
  where
    go : (b : Bool) → eqb x.key k ≡ b → Keyed k l → Keyed k (x ∷ l)
    go true e rest = stored x (eqb-true _ _ e) (rw e) (rw e) (rw e)
    go false e (stored i q a b c) = stored i q (rw e a) (rw e b) (rw e c)
    go false e (missing a b c) = missing (rw e a) (rw e b) (rw e c)

-- ---- an item taken out
module _ (k : ℕ) where
  -- a removed key is gone, and taking out a missing key changes nothing
  pub has_without : (l : Items) → has k (without k l) ≡ false
  unfolding has without
  has_without [] = refl
  has_without (x ∷ l) = go (eqb x.key k) refl (has_without l)
    where
      go : (b : Bool) → eqb x.key k ≡ b → has k (without k l) ≡ false → has k (cond b (without k l) (x ∷ without k l)) ≡ false
      go true e ih = ih
      go false e ih = rw e ih

  pub without_missing : (l : Items) → has k l ≡ false → without k l ≡ l
  unfolding has without
  without_missing [] h = refl
  without_missing (x ∷ l) h = go (eqb x.key k) h (without_missing l)
    where
      go : (b : Bool) → (b || has k l) ≡ false → (has k l ≡ false → without k l ≡ l) → cond b (without k l) (x ∷ without k l) ≡ x ∷ l
      go true q ih = absurd (true≢false q)
      go false q ih = ap (λ (m : Items). x ∷ m) (ih q)

  -- a stored key's item is one of the list's
  pub length_without : (l : Items) → Distinct l → has k l ≡ true → suc (length (without k l)) ≡ length l
  unfolding has without
  length_without [] d h = absurd (true≢false (sym h))
  length_without (x ∷ l) (new, d) h = go (eqb x.key k) refl h (length_without l d)
    where
      go : (b : Bool) → eqb x.key k ≡ b → (b || has k l) ≡ true → (has k l ≡ true → suc (length (without k l)) ≡ length l) → suc (length (cond b (without k l) (x ∷ without k l))) ≡ suc (length l)
      go true e q ih = ap (λ (m : Items). suc (length m)) (without_missing l (ap (λ (j : ℕ). has j l) (sym (eqb-true x.key k e)) ∙ new))
      go false e q ih = ap suc (ih q)

  -- what is done to another key leaves this one as it was
  module _ (j : ℕ) (other : j ≡ k → ⊥) where
    pub lookup_without_other : (l : Items) → lookup k (without j l) ≡ lookup k l
    unfolding lookup without
    lookup_without_other [] = refl
    lookup_without_other (x ∷ l) = go (eqb x.key j) refl (lookup_without_other l)
      where
        go : (b : Bool) → eqb x.key j ≡ b → lookup k (without j l) ≡ lookup k l → lookup k (cond b (without j l) (x ∷ without j l)) ≡ cond (eqb x.key k) (Some x) (lookup k l)
        go true e ih = rw (ne_eqb x.key k (λ q. other (sym (eqb-true x.key j e) ∙ q))) ih
        go false e ih = ap (λ (o : Option Item). cond (eqb x.key k) (Some x) o) ih

pub has_without_any : (k j : ℕ) (l : Items) → has k l ≡ false → has k (without j l) ≡ false
unfolding has without
has_without_any k j [] h = h
has_without_any k j (x ∷ l) h = go (eqb x.key k) refl h (eqb x.key j) (has_without_any k j l)
  where
    go : (b : Bool) → eqb x.key k ≡ b → (b || has k l) ≡ false → (d : Bool) → (has k l ≡ false → has k (without j l) ≡ false) → has k (cond d (without j l) (x ∷ without j l)) ≡ false
    go true e q d ih = absurd (true≢false q)
    go false e q true ih = ih q
    go false e q false ih = rw e (ih q)

-- a list with the key is longer than the list without it
length_at_most : (k : ℕ) (l : Items) → length (without k l) ≤ length l
unfolding without
length_at_most k [] = omega arith
length_at_most k (x ∷ l) = go (eqb x.key k) (length_at_most k l)
  where
    go : (b : Bool) → length (without k l) ≤ length l → length (cond b (without k l) (x ∷ without k l)) ≤ suc (length l)
    go true ih = omega arith
    go false ih = omega arith

pub shorter_without : (k : ℕ) (l : Items) → has k l ≡ true → length (without k l) < length l
unfolding has without
shorter_without k [] h = absurd (true≢false (sym h))
shorter_without k (x ∷ l) h = go (eqb x.key k) h (shorter_without k l) (length_at_most k l)
  where
    go : (b : Bool) → (b || has k l) ≡ true → (has k l ≡ true → length (without k l) < length l) → length (without k l) ≤ length l → length (cond b (without k l) (x ∷ without k l)) < suc (length l)
    go true q ih le = omega arith
    go false q ih le = omega (arith, ih q)

-- the last item is stored
pub last_has : (l : Items) (i : Item) → last l ≡ Some i → has i.key l ≡ true
last_has l i e = nth_has (length l - 1) l i (sym (last_nth l) ∙ e)

-- a list with no last item is empty
last_none : (l : Items) → last l ≡ None → length l ≡ 0
unfolding last
last_none [] e = refl
last_none (x ∷ []) e = cc
last_none (x ∷ (y ∷ l)) e = absurd (omega (arith, last_none (y ∷ l) e))

-- ---- an item pushed out
pub victim_none : (l : Items) → victim l ≡ None → length l ≡ 0
unfolding victim
victim_none = last_none

pub has_evicted : (k : ℕ) (l : Items) → has k l ≡ false → has k (evicted l) ≡ false
unfolding evicted
has_evicted k l h = go (victim l)
  where
    go : (o : Option Item) → has k (less o l) ≡ false
    go None = h
    go (Some i) = has_without_any k i.key l h

-- the item that makes room is one of the list's
pub victim_stored : (l : Items) (i : Item) → victim l ≡ Some i → has i.key l ≡ true
unfolding victim
victim_stored = last_has

-- ---- an item put in
module _ (c : ℕ) (i : Item) (l : Items) where
  pub inserted_none : c ≡ 0 → inserted c i l ≡ l
  unfolding inserted
  inserted_none h = rw (eq-eqb c 0 h)

  pub inserted_over : 0 < c → has i.key l ≡ true → inserted c i l ≡ i ∷ without i.key l
  unfolding inserted with_room
  inserted_over h e = rw (ne_eqb c 0 (λ z. omega arith), e)

  pub inserted_new : has i.key l ≡ false → length l < c → inserted c i l ≡ i ∷ without i.key l
  unfolding inserted with_room
  inserted_new e h = rw (ne_eqb c 0 (λ z. omega arith), e, lt-ltb (length l) c h)

  pub inserted_full : 0 < c → has i.key l ≡ false → c ≤ length l → inserted c i l ≡ i ∷ without i.key (evicted l)
  unfolding inserted with_room
  inserted_full z e h = rw (ne_eqb c 0 (λ q. omega arith), e, le-ltb (length l) c h)
