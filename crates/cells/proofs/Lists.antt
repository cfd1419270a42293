-- Lists without repetition. One whose members are all in another is no longer than it, and where it is no shorter either,
-- the other has no more members and no repetition: take each member out of the other in turn.
use mathlib.Core.Path.{◌≡◌, refl, sym, ap, ◌∙◌}
use mathlib.Core.List.Memᴰ
use mathlib.Core.List.{List, [], ◌∷◌, Memᴰ}
use mathlib.Core.Logic.{◌⊎◌, inl, inr, ⊎_elim}
use Prim.Native.Nat.{ℕ, suc, ◌+◌, ◌≤◌}
use native.Mathlib.Omega.{arith}
use lib.ListN.{length}

abbrev pub Distinct : List ℕ → Type 0
Distinct [] = Unit
Distinct (x ∷ l) = (Memᴰ x l → ⊥) × Distinct l

-- a list in which nothing is counted twice has no repetition
pub distinct_by_count : (count : ℕ → List ℕ → ℕ) → ((x : ℕ) (l : List ℕ) → count x (x ∷ l) ≡ 1 + count x l)
    → ((x y : ℕ) (l : List ℕ) → count x l ≤ count x (y ∷ l)) → (l : List ℕ) → ((x : ℕ) → count x l ≤ 1) → Distinct l
distinct_by_count count same more [] h = tt
distinct_by_count count same more (x ∷ l) h = (λ m. omega (arith, h x, same x l, counted l m), distinct_by_count count same more l (λ y. omega (arith, h y, more y x l)))
  where
    counted : (k : List ℕ) → Memᴰ x k → 1 ≤ count x k
    counted [] m = elim m [ ]
    counted (y ∷ k) (Memᴰ.head e) = rw (sym e) (omega (arith, same x k))
    counted (y ∷ k) (Memᴰ.tail m) = omega (arith, more x y k, counted k m)

-- m with one x taken out
data Taken (x : ℕ) : List ℕ → List ℕ → Type 0 where
  now : {y : ℕ} {m : List ℕ} → x ≡ y → Taken x (y ∷ m) m
  later : {y : ℕ} {m m' : List ℕ} → Taken x m m' → Taken x (y ∷ m) (y ∷ m')

module _ {x : ℕ} where
  taken : {m : List ℕ} → Memᴰ x m → (m' : List ℕ) × Taken x m m'
  taken (Memᴰ.head {xs = l} e) = (l, now e)
  taken (Memᴰ.tail {x = y} m) = let o = taken m in (y ∷ o.0, later o.1)

  taken_length : {m m' : List ℕ} → Taken x m m' → length m ≡ suc (length m')
  taken_length (now e) = refl
  taken_length (later t) = ap suc (taken_length t)

  taken_mem : {m m' : List ℕ} {y : ℕ} → Taken x m m' → Memᴰ y m → (y ≡ x) ⊎ Memᴰ y m'
  taken_mem (now e) i = ⊎_elim (λ q. inl (q ∙ sym e)) inr (Memᴰ.cases_cons i)
  taken_mem (later t) i = ⊎_elim (λ q. inr (Memᴰ.head q)) (λ j. ⊎_elim inl (λ k. inr (Memᴰ.tail k)) (taken_mem t j)) (Memᴰ.cases_cons i)

  taken_distinct : {m m' : List ℕ} → Taken x m m' → (Memᴰ x m' → ⊥) → Distinct m' → Distinct m
  taken_distinct (now e) out d = (λ i. out (Memᴰ.cast e i), d)
  taken_distinct (later t) out d =
      (λ i. ⊎_elim (λ q. out (Memᴰ.head (sym q))) d.0 (taken_mem t i), taken_distinct t (λ i. out (Memᴰ.tail i)) d.1)

pub record Covered (l m : List ℕ) : Type 0 where
  pub short : length l ≤ length m
  pub none_twice : length m ≤ length l → Distinct m
  pub none_more : length m ≤ length l → (x : ℕ) → Memᴰ x m → Memᴰ x l

pub covered : (l m : List ℕ) → Distinct l → ((x : ℕ) → Memᴰ x l → Memᴰ x m) → Covered l m
covered [] [] d sub = record { short = omega arith; none_twice = λ h. tt; none_more = λ h x i. i }
covered [] (y ∷ m) d sub = record { short = omega arith; none_twice = λ h. absurd (omega arith); none_more = λ h. absurd (omega arith) }
covered (x ∷ l) m d sub = go (taken (sub x (Memᴰ.head refl))) (λ m' s. covered l m' d.1 s)
  where
    go : (m' : List ℕ) × Taken x m m' → ((m' : List ℕ) → ((y : ℕ) → Memᴰ y l → Memᴰ y m') → Covered l m') → Covered (x ∷ l) m
    go (m', t) ih =
        let o : Covered l m' = ih m' (λ y i. ⊎_elim (λ q. absurd (d.0 (Memᴰ.cast (sym q) i))) (λ j. j) (taken_mem t (sub y (Memᴰ.tail i)))) in
        let e : length m ≡ suc (length m') = taken_length t in
        record {
          short = omega arith;
          none_twice = λ h. taken_distinct t (λ i. d.0 (o.none_more (omega arith) x i)) (o.none_twice (omega arith));
          none_more = λ h y i. ⊎_elim (λ q. Memᴰ.head q) (λ j. Memᴰ.tail (o.none_more (omega arith) y j)) (taken_mem t i);
        }
