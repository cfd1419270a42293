-- The answers of the index's calls, in words. The last word is how many entries the call discarded.
use Rattle.std.specs.Prelude.{Bool, ℕ, Option, Result}
use Rattle.time.specs.declared.refusal.Refusal.{Refusal}
use Rattle.time.specs.declared.tick.Tick.{Tick}
use Rattle.lazy_heap_model.specs.declared.counted.Counted.{Counted}
use Rattle.replay.specs.declared.answer.Answer.{Answer}
use Rattle.replay.specs.Answers.{of_bool, number}
use Rattle.replay.specs.Told.{of_done, of_tick, of_due, of_option, of_call}
use Rattle.replay_lazy_heap.specs.Answers.{of_counted}

-- the calls that may discard entries
abbrev pub of_changed : Result (Counted (Option Tick)) Refusal → Answer
of_changed r = of_counted (of_option of_tick) r

abbrev pub of_looked : Result (Counted (Option (ℕ × Tick))) Refusal → Answer
of_looked r = of_counted (of_option of_due) r

-- the calls that discard nothing
abbrev pub of_outcome : {A : Type 0} → Result A Refusal → Answer
of_outcome r = of_call of_done r

abbrev pub of_deadline : Result (Option Tick) Refusal → Answer
of_deadline r = of_call (of_option of_tick) r

abbrev pub of_count : Result ℕ Refusal → Answer
of_count r = of_call number r

abbrev pub of_told : Result Bool Refusal → Answer
of_told r = of_call of_bool r
