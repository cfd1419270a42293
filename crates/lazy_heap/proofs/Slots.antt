-- A walk's slot is told, or there is none: what is at it, and the slot beside it.
use mathlib.Core.Path.{◌≡◌, ap}
use mathlib.Core.List.{List}
use Prim.Native.Nat.{ℕ, ◌+◌, ◌<◌}
use Rattle.std.specs.Prelude.{Option, None, Some, Result}
use Rattle.std.specs.Result.{result_unwrap_or}
use Rattle.linked_hash_map.specs.declared.map.LinkedHashMap.{LinkedHashMap}
use Rattle.linked_hash_map.specs.declared.map.Record.{Record}
use Rattle.linked_hash_map.specs.declared.map.Unfit.{Unfit}
use Rattle.linked_hash_map.specs.Map as map
use Rattle.linked_hash_map.specs.Calls.{Reading, Previous}
use Rattle.linked_hash_map.proofs.Laws.{place_taken}
use Rattle.lazy_heap.specs.Walks.{RecordAt, SlotBefore}

-- the slot that a call of the map told
abbrev pub slot_in : Result (Option ℕ) Unfit → Option ℕ
slot_in at = result_unwrap_or at None

-- a place of the map has a slot
pub some_slot : (ws : List ℕ) (m : LinkedHashMap) (i : ℕ) → i < m.len → map.slot_at ws m i ≡ None → ⊥
some_slot ws m i more e = let taken = place_taken ws m i more in cc

module _ {ws : List ℕ} {m : LinkedHashMap} where
  pub record_told : {s : ℕ} {r : Record} → Reading ws m s r → RecordAt ws m (Some s) r
  record_told read = record { answer = λ is i more e. read.placed is i e }

  pub record_none : {r : Record} → RecordAt ws m None r
  record_none = record { answer = λ is i more e. absurd (some_slot ws m i more e) }

  pub before_told : {s : ℕ} {at : Result (Option ℕ) Unfit} → Previous ws m s at → SlotBefore ws m (Some s) (slot_in at)
  before_told previous = record { answer = λ is i more e. ap slot_in (previous.answer is i e) }

  pub before_none : SlotBefore ws m None None
  before_none = record { answer = λ is i more e. absurd (some_slot ws m (i + 1) more e) }
