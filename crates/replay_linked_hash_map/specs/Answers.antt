-- The answers of the map's calls, in words. None discards anything, and none has a refusal's number.
use Rattle.std.specs.Prelude.{ℕ, Option, Some, None, Result, Ok, Err, is_ok}
use Rattle.linked_hash_map.specs.declared.map.Record.{Record}
use Rattle.linked_hash_map.specs.declared.map.Unfit.{Unfit}
use Rattle.linked_hash_map.specs.declared.map.PutError.{PutError}
use Rattle.linked_hash_map.specs.declared.map.PutError.TheVariants as failed
use Rattle.replay.specs.declared.answer.Answer.{Answer}
use Rattle.replay.specs.Answers.{of_bool, nothing, recorded, inserted, number, replaced, full, refused}

-- whether the map is open
abbrev pub of_opened : {A : Type 0} → Result A Unfit → Answer
of_opened r = of_bool (is_ok r) 0

abbrev pub of_slot : Result (Option ℕ) Unfit → Answer
of_slot (Ok (Some s)) = number s 0
of_slot (Ok None) = nothing 0
of_slot (Err e) = refused 0 0

abbrev pub of_record : Record → Answer
of_record r = recorded r.key r.first r.second

abbrev pub of_placed : Result (Option Record) PutError → Answer
of_placed (Ok None) = inserted
of_placed (Ok (Some r)) = replaced r.key r.first r.second
of_placed (Err failed.Full) = full
of_placed (Err failed.Unfit) = refused 0 0

abbrev pub of_taken : Result (Option Record) Unfit → Answer
of_taken (Ok (Some r)) = of_record r
of_taken (Ok None) = nothing 0
of_taken (Err e) = refused 0 0
