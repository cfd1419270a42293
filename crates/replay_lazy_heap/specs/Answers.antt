-- The answers of the heap's calls, in words. The last word is how many entries the call discarded.
use Rattle.std.specs.Prelude.{Bool, ℕ, Option, Result, Ok, Err}
use Rattle.time.specs.declared.refusal.Refusal.{Refusal}
use Rattle.lazy_heap_model.specs.declared.counted.Counted.{Counted}
use Rattle.replay.specs.declared.answer.Answer.{Answer}
use Rattle.replay.specs.Answers.{of_bool, number, done}
use Rattle.replay.specs.Told.{of_done, of_pair, of_option, of_refusal, of_call}

-- the calls that may discard entries
abbrev pub of_counted : {T : Type 0} → (T → ℕ → Answer) → Result (Counted T) Refusal → Answer
of_counted told (Ok c) = told c.answer c.discarded
of_counted told (Err why) = of_refusal why 0

abbrev pub of_discarded : Result ℕ Refusal → Answer
of_discarded (Ok d) = done d
of_discarded (Err why) = of_refusal why 0

abbrev pub of_changed : Result (Counted (Option ℕ)) Refusal → Answer
of_changed r = of_counted (of_option number) r

abbrev pub of_best : Result (Counted (Option (ℕ × ℕ))) Refusal → Answer
of_best r = of_counted (of_option of_pair) r

-- the calls that discard nothing
abbrev pub of_outcome : {A : Type 0} → Result A Refusal → Answer
of_outcome r = of_call of_done r

abbrev pub of_score : Result (Option ℕ) Refusal → Answer
of_score r = of_call (of_option number) r

abbrev pub of_number : Result ℕ Refusal → Answer
of_number r = of_call number r

abbrev pub of_flag : Result Bool Refusal → Answer
of_flag r = of_call of_bool r
