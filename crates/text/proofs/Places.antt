-- Reading digits from a place of a line on, one at a time.
use mathlib.Core.Path.{◌≡◌, sym, ap, ◌∙◌}
use mathlib.Core.Bool.{true, false}
use mathlib.Core.List.{List, []}
use Rattle.std.specs.Prelude.{Option, None, Some}
use Prim.Native.Nat.{ℕ, ◌+◌, ◌-◌, ◌*◌, ◌^◌, ◌<◌, ◌≤◌}
use native.Mathlib.Numerals.{add-one}
use native.Mathlib.Omega.{arith}
use borrow.Author.Tests.{lt-ltb, le-ltb, le-leb}
use lib.ListN.{length, get_or, take, drop, drop_of_length-le}
use lib.Seq.{drop-cons}
use Rattle.std.proofs.lemmas.List.{take_rest}
use Rattle.text.specs.Reading.{is_digit, read_on}

-- ---- which bytes are digits
pub is_digit_lem : (c : ℕ) → 48 ≤ c → c ≤ 57 → is_digit c ≡ true
is_digit_lem c lo hi = simp (le-leb 48 c lo, le-leb c 57 hi)

-- ---- digits that go on with a number
module _ (v : ℕ) (line : List ℕ) (i : ℕ) where
  pub on_end : length line ≤ i → read_on v (drop i line) ≡ Some (v, drop i line)
  unfolding read_on
  on_end h = rw (drop_of_length-le line h)

  module _ (more : i < length line) where
    pub on_other : is_digit (get_or line i 0) ≡ false → read_on v (drop i line) ≡ Some (v, drop i line)
    unfolding read_on
    on_other h = rw (drop-cons line i 0 more) (simp h)

    module _ (digit : is_digit (get_or line i 0) ≡ true) where
      pub on_over : 2 ^ 64 ≤ v * 10 + (get_or line i 0 - 48) → read_on v (drop i line) ≡ None
      unfolding read_on
      on_over h = rw (drop-cons line i 0 more) (simp (digit, le-ltb (v * 10 + (get_or line i 0 - 48)) (2 ^ 64) h))

      pub on_digit : v * 10 + (get_or line i 0 - 48) < 2 ^ 64 → read_on v (drop i line) ≡ read_on (v * 10 + (get_or line i 0 - 48)) (drop (i + 1) line)
      unfolding read_on
      on_digit h = rw (add-one i) (rw (drop-cons line i 0 more) (simp (digit, lt-ltb (v * 10 + (get_or line i 0 - 48)) (2 ^ 64) h)))

-- ---- what the digits of a line come to, where it is known what those from a place on do
module _ (v : ℕ) (line : List ℕ) (i : ℕ) {whole : Option (ℕ × List ℕ)} (e : read_on v (drop i line) ≡ whole) where
  pub digits_end : length line ≤ i → Some (v, []) ≡ whole
  digits_end all = sym (ap (λ (l : List ℕ). Some (v, l)) (drop_of_length-le line all)) ∙ sym (on_end v line i all) ∙ e

  module _ (more : i < length line) where
    pub digits_until : is_digit (get_or line i 0) ≡ false → Some (v, take (length line - i) (drop i line)) ≡ whole
    digits_until other = rw (take_rest line i) (sym (on_other v line i more other) ∙ e)

    pub digits_over : is_digit (get_or line i 0) ≡ true → (v * 10 + (get_or line i 0 - 48) < 2 ^ 64 → ⊥) → None ≡ whole
    digits_over digit over = sym (on_over v line i more digit (omega arith)) ∙ e

    pub digit_more : is_digit (get_or line i 0) ≡ true → v * 10 + (get_or line i 0 - 48) < 2 ^ 64 → read_on (v * 10 + (get_or line i 0 - 48)) (drop (i + 1) line) ≡ whole
    digit_more digit fits = sym (on_digit v line i more digit fits) ∙ e
