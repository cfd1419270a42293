-- The answers of the list's calls, in words. Nothing is ever discarded.
use Rattle.std.specs.Prelude.{Bool, ℕ, Option, Result}
use Rattle.time.specs.declared.refusal.Refusal.{Refusal}
use Rattle.replay.specs.declared.answer.Answer.{Answer}
use Rattle.replay.specs.Answers.{of_bool, number}
use Rattle.replay.specs.Told.{of_done, of_pair, of_option, of_call}

abbrev pub of_outcome : {A : Type 0} → Result A Refusal → Answer
of_outcome r = of_call of_done r

abbrev pub of_found : Result (Option ℕ) Refusal → Answer
of_found r = of_call (of_option number) r

abbrev pub of_oldest : Result (Option (ℕ × ℕ)) Refusal → Answer
of_oldest r = of_call (of_option of_pair) r

abbrev pub of_rank : Result (Option ℕ) Refusal → Answer
of_rank r = of_call (of_option number) r

abbrev pub of_told : Result Bool Refusal → Answer
of_told r = of_call of_bool r

abbrev pub of_count : Result ℕ Refusal → Answer
of_count r = of_call number r
