-- What one call does: what the map's call of that number promises, and its answer.
use Rattle.std.specs.Prelude.{◌≡◌, Bool, List, ℕ, ◌-◌, ◌<◌, Option, Result, ⊤}
use Rattle.linked_hash_map.specs.declared.map.LinkedHashMap.{LinkedHashMap}
use Rattle.linked_hash_map.specs.declared.map.Record.{Record}
use Rattle.linked_hash_map.specs.declared.map.Unfit.{Unfit}
use Rattle.linked_hash_map.specs.declared.map.PutError.{PutError}
use Rattle.linked_hash_map.specs.Calls.{Opening, Clearing, Finding, Touching, Reading, Writing, Putting, Removing, Ending, Next, Previous, Checking}
use Rattle.replay.specs.declared.answer.Answer.{Answer}
use Rattle.replay.specs.declared.call.Call.{Call}
use Rattle.replay.specs.Answers.{of_bool, unknown}
use Rattle.replay_linked_hash_map.specs.Answers.{of_opened, of_slot, of_record, of_placed, of_taken}
use Rattle.replay_linked_hash_map.specs.Numbers as numbers

-- the record that a call brings
abbrev pub item_of : Call → Record
item_of c = record { key = c.first; first = c.second; second = c.third }

pub data Ran (ws : List ℕ) (m : LinkedHashMap) (c : Call) : List ℕ → LinkedHashMap → Answer → Type 0 where
  opened : {ws' : List ℕ} {r : Result LinkedHashMap Unfit} → c.operation ≡ 0 → Opening ws c.first ws' r → Ran ws m c ws' (numbers.opened r) (of_opened r)
  cleared : {ws' : List ℕ} {m' : LinkedHashMap} {r : Result ⊤ Unfit} → c.operation ≡ 1 → Clearing ws m ws' m' r → Ran ws m c ws' m' (of_opened r)
  touched : {ws' : List ℕ} {r : Result (Option ℕ) Unfit} → c.operation ≡ 2 → Touching ws m c.first ws' r → Ran ws m c ws' m (of_slot r)
  written : {ws' : List ℕ} {r : Bool} → c.operation ≡ 3 → Writing ws m (item_of c) ws' r → Ran ws m c ws' m (of_bool r 0)
  put : {ws' : List ℕ} {m' : LinkedHashMap} {r : Result (Option Record) PutError} → c.operation ≡ 4 → Putting ws m (item_of c) ws' m' r → Ran ws m c ws' m' (of_placed r)
  removed : {ws' : List ℕ} {m' : LinkedHashMap} {r : Result (Option Record) Unfit} → c.operation ≡ 5 → Removing ws m c.first ws' m' r → Ran ws m c ws' m' (of_taken r)
  found : {r : Result (Option ℕ) Unfit} → c.operation ≡ 6 → Finding ws m c.first r → Ran ws m c ws m (of_slot r)
  recorded : {r : Record} → c.operation ≡ 7 → Reading ws m c.first r → Ran ws m c ws m (of_record r)
  first : {r : Result (Option ℕ) Unfit} → c.operation ≡ 8 → Ending ws m 0 r → Ran ws m c ws m (of_slot r)
  last : {r : Result (Option ℕ) Unfit} → c.operation ≡ 9 → Ending ws m (m.len - 1) r → Ran ws m c ws m (of_slot r)
  next : {r : Result (Option ℕ) Unfit} → c.operation ≡ 10 → Next ws m c.first r → Ran ws m c ws m (of_slot r)
  previous : {r : Result (Option ℕ) Unfit} → c.operation ≡ 11 → Previous ws m c.first r → Ran ws m c ws m (of_slot r)
  checked : {r : Bool} → c.operation ≡ 12 → Checking ws m r → Ran ws m c ws m (of_bool r 0)
  other : 12 < c.operation → Ran ws m c ws m unknown
