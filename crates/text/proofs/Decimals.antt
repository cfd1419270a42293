-- Numbers in base ten, from the last digit on.
use mathlib.Core.Path.{◌≡◌, refl, sym, ap, ◌∙◌}
use mathlib.Core.Bool.{Bool, true, false}
use mathlib.Core.List.{List, [], ◌∷◌, ◌++◌}
use Prim.Native.Nat.{ℕ, zero, suc, ◌+◌, ◌*◌, ◌/◌, ◌%◌, ◌^◌, ◌<◌, ◌≤◌}
use native.Mathlib.Nat.{pow-suc, mod-eq_of_lt}
use native.Mathlib.Numerals.{add-one}
use native.Mathlib.Omega.{arith}
use borrow.Author.Tests.{ltb-true, ltb-false}
use lib.Dec.{ltb}
use lib.ListN.{length, length-append}
use Rattle.text.specs.Text.{digit, decimal_in, decimal}
use Rattle.text.specs.Writing.{last_digits}

-- ---- one digit, or a last digit after others
pub data Last (k n : ℕ) : Type 0 where
  only : n < 10 → decimal_in (suc k) n ≡ digit n ∷ [] → Last k n
  after : 10 ≤ n → decimal_in (suc k) n ≡ decimal_in k (n / 10) ++ (digit (n % 10) ∷ []) → Last k n

pub last : (k n : ℕ) → Last k n
unfolding decimal_in
last k n = go (ltb n 10) refl
  where
    go : (b : Bool) → ltb n 10 ≡ b → Last k n
    go true h = only (ltb-true n 10 h) (simp h)
    go false h = after (ltb-false n 10 h) (simp h)

pub one_digit : (n : ℕ) → n < 10 → decimal n ≡ digit n ∷ []
one_digit n small = go (last 19 n)
  where
    go : Last 19 n → decimal n ≡ digit n ∷ []
    go (only h e) = e
    go (after h e) = absurd (omega arith)

-- ---- how many
pub size_le : (k n : ℕ) → length (decimal_in k n) ≤ k
unfolding decimal_in
size_le zero n = omega arith
size_le (suc k) n = go (last k n) (size_le k (n / 10))
  where
    go : Last k n → length (decimal_in k (n / 10)) ≤ k → length (decimal_in (suc k) n) ≤ suc k
    go (only h e) ih = rw e (omega arith)
    go (after h e) ih = rw e (simp length-append (omega arith))

pub size_pos : (k n : ℕ) → 0 < length (decimal_in (suc k) n)
size_pos k n = go (last k n)
  where
    go : Last k n → 0 < length (decimal_in (suc k) n)
    go (only h e) = rw e (omega arith)
    go (after h e) = rw e (simp length-append (omega arith))

length_snoc : (l : List ℕ) (d : ℕ) → length (l ++ (d ∷ [])) ≡ suc (length l)
length_snoc l d = length-append l (d ∷ []) ∙ add-one (length l)

-- ---- they are the last digits, as many as there are
pub all_digits : (k n : ℕ) → last_digits (length (decimal_in k n)) n ≡ decimal_in k n
unfolding decimal_in last_digits
all_digits zero n = refl
all_digits (suc k) n = go (last k n) (all_digits k (n / 10))
  where
    go : Last k n → last_digits (length (decimal_in k (n / 10))) (n / 10) ≡ decimal_in k (n / 10) → last_digits (length (decimal_in (suc k) n)) n ≡ decimal_in (suc k) n
    go (only h e) ih = rw e (ap (λ (m : ℕ). digit m ∷ []) (mod-eq_of_lt h))
    go (after h e) ih = rw e (rw length_snoc (ap (λ (l : List ℕ). l ++ (digit (n % 10) ∷ [])) ih))

pub length_last : (k n : ℕ) → length (last_digits k n) ≡ k
unfolding last_digits
length_last zero n = refl
length_last (suc k) n = simp (length-append, length_last k (n / 10)) (omega arith)

-- ---- room for one more digit than there are changes nothing
pub same_digits : (k n : ℕ) → n < 10 ^ suc k → decimal_in (suc (suc k)) n ≡ decimal_in (suc k) n
same_digits zero n f = go (last 1 n) (last 0 n)
  where
    go : Last 1 n → Last 0 n → decimal_in 2 n ≡ decimal_in 1 n
    go (only h e) (only g d) = e ∙ sym d
    go (after h e) (only g d) = absurd (omega arith)
    go (after h e) (after g d) = absurd (omega arith)
    go (only h e) (after g d) = absurd (omega arith)
same_digits (suc k) n f = go (last (suc (suc k)) n) (last (suc k) n) (same_digits k (n / 10) (omega (arith, rw pow-suc at f)))
  where
    go : Last (suc (suc k)) n → Last (suc k) n → decimal_in (suc (suc k)) (n / 10) ≡ decimal_in (suc k) (n / 10) → decimal_in (suc (suc (suc k))) n ≡ decimal_in (suc (suc k)) n
    go (only h e) (only g d) ih = e ∙ sym d
    go (only h e) (after g d) ih = absurd (omega arith)
    go (after h e) (only g d) ih = absurd (omega arith)
    go (after h e) (after g d) ih = e ∙ ap (λ (l : List ℕ). l ++ (digit (n % 10) ∷ [])) ih ∙ sym d

ten_pos : (k : ℕ) → 0 < 10 ^ k
ten_pos zero = omega arith
ten_pos (suc k) = rw pow-suc (omega (arith, ten_pos k))

-- ---- a number from 10^k on and below 10^(k+1) has k + 1
pub size_is : (m k n : ℕ) → k < m → 10 ^ k ≤ n → n < 10 * 10 ^ k → length (decimal_in m n) ≡ k + 1
size_is zero k n h lo hi = absurd (omega arith)
size_is (suc m) zero n h lo hi = go (last m n)
  where
    go : Last m n → length (decimal_in (suc m) n) ≡ 1
    go (only l e) = rw e refl
    go (after l e) = absurd (omega arith)
size_is (suc m) (suc k) n h lo hi = go (last m n) (size_is m k (n / 10) (omega arith) (omega (arith, rw pow-suc at lo)) (omega (arith, rw pow-suc at hi)))
  where
    go : Last m n → length (decimal_in m (n / 10)) ≡ k + 1 → length (decimal_in (suc m) n) ≡ suc k + 1
    go (only l e) ih = absurd (omega (arith, rw pow-suc at lo, ten_pos k))
    go (after l e) ih = rw e (simp length-append (omega (arith, ih)))
