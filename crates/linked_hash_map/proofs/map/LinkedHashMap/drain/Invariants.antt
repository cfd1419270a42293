use Prim.Native.Nat.{◌-◌, ◌≤◌}
use Rattle.linked_hash_map.specs.Calls.{Draining}
use Rattle.linked_hash_map.proofs.map.LinkedHashMap.drain.Given as goal

abbrev pub invariant-loop : goal.invariant-loop
invariant-loop l = (l.counter ≤ l.end) × Draining l.initial.words l.initial.self (l.end - l.counter) l.words l.self
