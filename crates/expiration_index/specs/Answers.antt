-- The heap's answers read as the index's.
use Rattle.std.specs.Prelude.{ℕ, Option, option_map, Result, Ok, Err}
use Rattle.time.specs.declared.tick.Tick.{Tick}
use Rattle.time.specs.declared.refusal.Refusal.{Refusal}
use Rattle.lazy_heap_model.specs.declared.counted.Counted.{Counted}
use Rattle.lazy_heap.specs.Calls.{counted}

-- a score read as a deadline
abbrev pub tick : ℕ → Tick
tick n = record { 0 = n }

-- of a key, if it holds one
abbrev pub deadline_in : Option ℕ → Option Tick
deadline_in score = option_map tick score

-- and of the best, beside its key
abbrev pub due_in : Option (ℕ × ℕ) → Option (ℕ × Tick)
due_in best = option_map (λ b. (b.0, tick b.1)) best

-- an answer beside the number of entries that its call discarded
abbrev pub beside : {A : Type 0} → ℕ → Result A Refusal → Result (Counted A) Refusal
beside d (Ok a) = Ok (counted a d)
beside d (Err why) = Err why
