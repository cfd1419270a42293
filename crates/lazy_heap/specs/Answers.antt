-- Whether an answer refuses, and why.
use Rattle.std.specs.Prelude.{Result, Ok, Err, ⊤}
use Rattle.time.specs.declared.refusal.Refusal.{Refusal}

abbrev pub outcome_of : {A : Type 0} → Result A Refusal → Result ⊤ Refusal
outcome_of (Ok x) = Ok tt
outcome_of (Err why) = Err why
