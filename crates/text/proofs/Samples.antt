-- Worked examples: the definitions give every answer, by computation.
use mathlib.Core.Path.{◌≡◌, refl}
use mathlib.Core.List.{List, [], ◌∷◌, map}
use Rattle.std.specs.Prelude.{Option, None, Some}
use Prim.Native.Nat.{ℕ}
use Prim.Native.String.{String}
use Rattle.text.specs.Text.{bytes, decimal_in, fill}
use Rattle.text.specs.Reading.{read_on, read_number, read_from, read_in}

pub data Question : Type 0 where
  reading : String → String → Question
  writing : String → List ℕ → Question

pub data Answer : Type 0 where
  nothing : Answer
  numbers : List ℕ → List ℕ → Answer
  text : List ℕ → Answer

abbrev answer_of : Option (List ℕ × List ℕ) → Answer
answer_of None = nothing
answer_of (Some r) = numbers r.0 r.1

abbrev answered : Question → Answer
answered (reading f s) = answer_of (read_in (bytes f) (bytes s))
answered (writing f ns) = text (fill (bytes f) ns)

pub record Sample : Type 0 where
  pub question : Question
  pub answer : Answer

abbrev reads : String → String → List ℕ → String → Sample
reads f s ns rest = record { question = reading f s; answer = numbers ns (bytes rest) }

abbrev refuses : String → String → Sample
refuses f s = record { question = reading f s; answer = nothing }

abbrev writes : String → List ℕ → String → Sample
writes f ns s = record { question = writing f ns; answer = text (bytes s) }

abbrev pub samples : List Sample
samples =
    -- a text, there and back, and what stands after it
    writes "(ttl 0 0)" (2 ∷ 500000000 ∷ []) "(ttl 2 500000000)"
    ∷ reads "(ttl 0 0)" "(ttl 2 500000000)" (2 ∷ 500000000 ∷ 0 ∷ 0 ∷ 0 ∷ []) ""
    ∷ reads "(at 0 " "(at 1000 (due))" (1000 ∷ 0 ∷ 0 ∷ 0 ∷ 0 ∷ []) "(due))"
    -- the largest number, and one more
    ∷ writes "0" (18446744073709551615 ∷ []) "18446744073709551615"
    ∷ reads "0)" "18446744073709551615)" (18446744073709551615 ∷ 0 ∷ 0 ∷ 0 ∷ 0 ∷ []) ""
    ∷ refuses "0)" "18446744073709551616)"
    ∷ refuses "0)" "99999999999999999999)"
    -- zeros
    ∷ reads "0)" "0)" (0 ∷ 0 ∷ 0 ∷ 0 ∷ 0 ∷ []) ""
    ∷ reads "0)" "100)" (100 ∷ 0 ∷ 0 ∷ 0 ∷ 0 ∷ []) ""
    ∷ refuses "0)" "007)"
    ∷ refuses "0)" "00)"
    -- a space too many, a bracket too few, no number, and a sign
    ∷ refuses "(ttl 0 0)" "(ttl 2  500000000)"
    ∷ refuses "(ttl 0 0)" "(ttl 2 500000000"
    ∷ refuses "(ttl 0 0)" "(ttl  2)"
    ∷ refuses "0)" "-1)"
    -- five numbers, and six
    ∷ reads "0 0 0 0 0" "1 2 3 4 5" (1 ∷ 2 ∷ 3 ∷ 4 ∷ 5 ∷ []) ""
    ∷ refuses "0 0 0 0 0 0" "1 2 3 4 5 6"
    -- a `0` that no number is left for stays
    ∷ writes "(0 0)" (7 ∷ []) "(7 0)"
    ∷ []

pub samples_hold : map (λ (s : Sample). answered s.question) samples ≡ map (λ (s : Sample). s.answer) samples
unfolding decimal_in fill read_on read_number read_from
samples_hold = refl
