use mathlib.Core.Path.{◌≡◌}
use Prim.Native.Nat.{◌-◌}
use Rattle.rings.specs.Ring.{next}
use Rattle.linked_hash_map.specs.Words.{entered_from}
use Rattle.linked_hash_map.proofs.map.refill.Given as goal

abbrev pub invariant-loop : goal.invariant-loop
invariant-loop l = entered_from l.words l.n (l.len - l.counter) l.x ≡ entered_from l.initial.words l.n l.len (next l.initial.words l.n)
