-- Worked examples: sample B10 of document 01, and the edges of rounding and of the caps.
use Rattle.std.specs.Prelude.{ℕ, Bool, true, false, List, [], ◌∷◌, Result, Ok, Err}
use Rattle.time.specs.declared.duration.Duration.{Duration}
use Rattle.time.specs.declared.duration.TtlTicks.{TtlTicks}
use Rattle.time.specs.declared.refusal.Refusal.{Refusal}
use Rattle.time.specs.declared.tick.Tick.{Tick}
use Rattle.time.specs.Duration.{is_zero, ticks_of}
use Rattle.time.specs.Deadline.{deadline_from, is_expired_at}

-- a duration that starts at a tick
pub record Question : Type 0 where
  pub secs : ℕ
  pub nanos : ℕ
  pub start : ℕ

-- whether it is zero, its ticks, its deadline, and whether that has come at the start already
pub data Answer : Type 0 where
  refused : Answer
  lasts : Bool → ℕ → ℕ → Bool → Answer

pub record Sample : Type 0 where
  pub question : Question
  pub answer : Answer

abbrev answer_to : Result TtlTicks Refusal → Duration → Tick → Answer
answer_to (Ok l) d t = lasts (is_zero d) l.0 (deadline_from t l).0 (is_expired_at (deadline_from t l) t)
answer_to (Err why) d t = refused

-- what the definitions say
unfoldable pub answered : Question → Answer
answered q =
    let d : Duration = record { secs = q.secs; nanos = q.nanos } in answer_to (ticks_of d) d (record { 0 = q.start })

abbrev sample : ℕ → ℕ → ℕ → Answer → Sample
sample s n t a = record { question = record { secs = s; nanos = n; start = t }; answer = a }

abbrev pub samples : List Sample
samples =
    -- nothing, and less than a millisecond
    sample 0 0 50 (lasts true 0 50 true)
    ∷ sample 0 999999 50 (lasts false 0 50 true)
    ∷ sample 0 1000000 50 (lasts false 1 51 false)
    ∷ sample 0 1999999 50 (lasts false 1 51 false)
    -- a part of a second
    ∷ sample 1 999999999 0 (lasts false 1999 1999 false)
    ∷ sample 0 1000000000 0 refused
    ∷ sample 0 4294967295 0 refused
    -- B10, and one more millisecond
    ∷ sample 18446744073709551 615000000 0 (lasts false 18446744073709551615 18446744073709551614 false)
    ∷ sample 18446744073709551 616000000 0 (lasts false 18446744073709551615 18446744073709551614 false)
    -- the last duration below the cap, the last that is not cut, and the first that is
    ∷ sample 18446744073709551 613999999 0 (lasts false 18446744073709551613 18446744073709551613 false)
    ∷ sample 18446744073709551 614999999 0 (lasts false 18446744073709551614 18446744073709551614 false)
    ∷ sample 18446744073709551 615999999 0 (lasts false 18446744073709551615 18446744073709551614 false)
    ∷ sample 18446744073709552 0 0 (lasts false 18446744073709551615 18446744073709551614 false)
    ∷ sample 18446744073709551615 999999999 0 (lasts false 18446744073709551615 18446744073709551614 false)
    -- deadlines around the cap
    ∷ sample 0 1000000 18446744073709551612 (lasts false 1 18446744073709551613 false)
    ∷ sample 0 1000000 18446744073709551613 (lasts false 1 18446744073709551614 false)
    ∷ sample 0 1000000 18446744073709551614 (lasts false 1 18446744073709551614 true)
    ∷ sample 0 0 18446744073709551615 (lasts true 0 18446744073709551614 true)
    ∷ []
