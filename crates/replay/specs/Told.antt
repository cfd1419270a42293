-- The answers that tell what a layer's calls return. The number is how many entries the call discarded.
use Rattle.std.specs.Prelude.{ℕ, Option, Some, None, Result, Ok, Err}
use Rattle.time.specs.declared.refusal.Refusal.{Refusal}
use Rattle.time.specs.declared.tick.Tick.{Tick}
use Rattle.time.specs.Refusal.{number_of}
use Rattle.replay.specs.declared.answer.Answer.{Answer}
use Rattle.replay.specs.Answers.{nothing, number, pair, done, refused}

abbrev pub of_done : {T : Type 0} → T → ℕ → Answer
of_done x d = done d

abbrev pub of_tick : Tick → ℕ → Answer
of_tick t d = number t.0 d

abbrev pub of_pair : ℕ × ℕ → ℕ → Answer
of_pair p d = pair p.0 p.1 d

abbrev pub of_due : ℕ × Tick → ℕ → Answer
of_due p d = pair p.0 p.1.0 d

abbrev pub of_refusal : Refusal → ℕ → Answer
of_refusal why d = refused (number_of why) d

abbrev pub of_option : {T : Type 0} → (T → ℕ → Answer) → Option T → ℕ → Answer
of_option some (Some x) d = some x d
of_option some None d = nothing d

abbrev pub of_result : {T E : Type 0} → (T → ℕ → Answer) → (E → ℕ → Answer) → Result T E → ℕ → Answer
of_result ok err (Ok x) d = ok x d
of_result ok err (Err e) d = err e d

-- the answer of a call that discards nothing and may be refused
abbrev pub of_call : {T : Type 0} → (T → ℕ → Answer) → Result T Refusal → Answer
of_call ok r = of_result ok of_refusal r 0
