-- How often a node stands in a list: what `without` takes away, and that a list which holds no node twice is no longer than
-- there are nodes, so that one of that length holds them all.
use mathlib.Core.Path.{◌≡◌, refl, sym, ap, ◌∙◌}
use mathlib.Core.Logic.{◌≢◌, ◌↔◌}
use mathlib.Core.Bool.{Bool, true, false}
use mathlib.Core.List.{List, [], ◌∷◌, ◌++◌, Memᴰ}
use Prim.Native.Nat.{ℕ, zero, suc, ◌+◌, ◌<◌, ◌≤◌}
use native.Mathlib.Omega.{arith}
use native.Mathlib.Decide.{dec_lt, ℕ_discrete}
use borrow.Author.Tests.{eq-eqb, ne_eqb, lt-ltb, le-ltb}
use lib.Dec.{ltb, eqb}
use lib.ListN.{length}
use Rattle.rings.specs.Ring.{bit, count, without}

-- ---- cases, and bits

pub by_eq : {A : Type 0} (x y : ℕ) → (x ≡ y → A) → (x ≢ y → A) → A
by_eq {A} x y same other = go (ℕ_discrete x y)
  where
    go : Dec (x ≡ y) → A
    go (yes e) = same e
    go (no e) = other e

pub by_lt : {A : Type 0} (i n : ℕ) → (i < n → A) → (n ≤ i → A) → A
by_lt {A} i n below past = go (dec_lt i n)
  where
    go : Dec (i < n) → A
    go (yes h) = below h
    go (no h) = past (omega arith)

pub bit_le : (b : Bool) → bit b ≤ 1
bit_le true = omega arith
bit_le false = omega arith

pub bit_eq : (x y : ℕ) → x ≡ y → bit (eqb x y) ≡ 1
bit_eq x y e = ap bit (eq-eqb x y e)

pub bit_ne : (x y : ℕ) → x ≢ y → bit (eqb x y) ≡ 0
bit_ne x y h = ap bit (ne_eqb x y h)

pub bit_lt : (i n : ℕ) → i < n → bit (ltb i n) ≡ 1
bit_lt i n h = ap bit (lt-ltb i n h)

pub bit_ge : (i n : ℕ) → n ≤ i → bit (ltb i n) ≡ 0
bit_ge i n h = ap bit (le-ltb i n h)

pub bit_suc : (i k : ℕ) → bit (eqb k i) + bit (ltb i k) ≡ bit (ltb i (suc k))
bit_suc i k = by_lt i k
    (λ h. omega (arith, bit_ne k i (omega arith), bit_lt i k h, bit_lt i (suc k) (omega arith)))
    (λ h. by_eq k i (λ e. omega (arith, bit_eq k i e, bit_ge i k h, bit_lt i (suc k) (omega arith))) (λ e. omega (arith, bit_ne k i e, bit_ge i k h, bit_ge i (suc k) (omega arith))))

-- ---- counts

pub count_append : (x : ℕ) (p q : List ℕ) → count x (p ++ q) ≡ count x p + count x q
count_append x [] q = omega arith
count_append x (y ∷ p) q = omega (arith, count_append x p q)

pub apart : (x y : ℕ) (l : List ℕ) → count x (y ∷ l) ≡ 0 → y ≢ x
apart x y l h e = omega (arith, bit_eq y x e)

pub count_of_mem : {x : ℕ} {l : List ℕ} → Memᴰ x l → 1 ≤ count x l
count_of_mem {x} (Memᴰ.head {x = y} e) = omega (arith, bit_eq y x (sym e))
count_of_mem (Memᴰ.tail m) = omega (arith, count_of_mem m)

pub mem_of_count : (x : ℕ) (l : List ℕ) → 1 ≤ count x l → Memᴰ x l
mem_of_count x [] h = absurd (omega arith)
mem_of_count x (y ∷ l) h = by_eq y x (λ e. Memᴰ.head (sym e)) (λ e. Memᴰ.tail (mem_of_count x l (omega (arith, bit_ne y x e))))

-- ---- `without`

module _ (x : ℕ) where
  pub without_nil : without x [] ≡ []
  unfolding without
  without_nil = refl

  pub without_same : (y : ℕ) (l : List ℕ) → y ≡ x → without x (y ∷ l) ≡ without x l
  unfolding without
  without_same y l e = rw (eq-eqb y x e)

  pub without_other : (y : ℕ) (l : List ℕ) → y ≢ x → without x (y ∷ l) ≡ y ∷ without x l
  unfolding without
  without_other y l h = rw (ne_eqb y x h)

  pub length_without : (l : List ℕ) → length (without x l) + count x l ≡ length l
  length_without [] = rw without_nil (omega arith)
  length_without (y ∷ l) = by_eq y x
      (λ e. rw (without_same y l e) (omega (arith, length_without l, bit_eq y x e)))
      (λ e. rw (without_other y l e) (omega (arith, length_without l, bit_ne y x e)))

  pub without_none : (l : List ℕ) → count x l ≡ 0 → without x l ≡ l
  without_none [] h = without_nil
  without_none (y ∷ l) h = without_other y l (apart x y l h) ∙ ap (λ (k : List ℕ). y ∷ k) (without_none l (omega arith))

  pub count_without_same : (l : List ℕ) → count x (without x l) ≡ 0
  count_without_same [] = rw without_nil refl
  count_without_same (y ∷ l) = by_eq y x
      (λ e. rw (without_same y l e) (count_without_same l))
      (λ e. rw (without_other y l e) (omega (arith, count_without_same l, bit_ne y x e)))

  pub count_without_other : (i : ℕ) (l : List ℕ) → i ≢ x → count i (without x l) ≡ count i l
  count_without_other i [] h = rw without_nil refl
  count_without_other i (y ∷ l) h = by_eq y x
      (λ e. rw (without_same y l e) (omega (arith, count_without_other i l h, bit_ne y i (omega arith))))
      (λ e. rw (without_other y l e) (omega (arith, count_without_other i l h)))

  -- x taken out of where it stands and put in front
  pub count_front : (i : ℕ) (l : List ℕ) → count x l ≡ 1 → count i (x ∷ without x l) ≡ count i l
  count_front i l h = by_eq i x
      (λ e. omega (arith, bit_eq x i (sym e), ap (λ (j : ℕ). count j (without x l)) e, ap (λ (j : ℕ). count j l) e, count_without_same l))
      (λ e. omega (arith, count_without_other i l e, bit_ne x i (omega arith)))

  pub mem_without : (y : ℕ) (l : List ℕ) → Memᴰ y (without x l) ↔ (Memᴰ y l × (y ≢ x))
  mem_without y l = (
    λ m.
        let ne : y ≢ x = λ e. omega (arith, count_of_mem m, ap (λ (i : ℕ). count i (without x l)) e, count_without_same l) in
        (mem_of_count y l (omega (arith, count_of_mem m, count_without_other y l ne)), ne),
    λ m. mem_of_count y (without x l) (omega (arith, count_of_mem m.0, count_without_other y l m.1)),
  )

-- ---- no more than there are

without_below : (k : ℕ) (l : List ℕ) → ((i : ℕ) → count i l ≤ bit (ltb i (suc k))) → (i : ℕ) → count i (without k l) ≤ bit (ltb i k)
without_below k l h i = by_eq i k
    (λ e. rw e (omega (arith, count_without_same k l)))
    (λ e. omega (arith, count_without_other k i l e, h i, bit_suc i k, bit_ne k i (omega arith)))

length_le : (n : ℕ) (l : List ℕ) → ((i : ℕ) → count i l ≤ bit (ltb i n)) → length l ≤ n
length_le zero [] h = omega arith
length_le zero (x ∷ l) h = absurd (omega (arith, h x, bit_eq x x refl, bit_ge x 0 (omega arith)))
length_le (suc k) l h = omega (arith, length_le k (without k l) (without_below k l h), length_without k l, h k, bit_le (ltb k (suc k)))

pub count_cons_le : (f : ℕ → ℕ) (x : ℕ) (l : List ℕ) → ((i : ℕ) → count i l ≤ f i) → count x l + 1 ≤ f x → (i : ℕ) → count i (x ∷ l) ≤ f i
count_cons_le f x l h k i = by_eq x i (λ e. omega (arith, k, bit_le (eqb x i), ap f e, ap (λ (j : ℕ). count j l) e)) (λ e. omega (arith, h i, bit_ne x i e))

pub count_full : (n : ℕ) (l : List ℕ) → ((i : ℕ) → count i l ≤ bit (ltb i n)) → length l ≡ n → (i : ℕ) → count i l ≡ bit (ltb i n)
count_full n l h e i = by_lt (count i l) (bit (ltb i n))
    (λ q. absurd (omega (arith, length_le n (i ∷ l) (count_cons_le (λ j. bit (ltb j n)) i l h (omega arith)))))
    (λ q. omega (arith, h i))
