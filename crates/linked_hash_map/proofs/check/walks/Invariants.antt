use mathlib.Core.Path.{◌≡◌}
use Prim.Native.Nat.{◌+◌, ◌-◌, ◌<◌}
use Rattle.rings.specs.Ring.{walks}
use Rattle.linked_hash_map.proofs.check.walks.Given as goal

abbrev pub invariant-loop : goal.invariant-loop
invariant-loop l = (l.a < l.n + 2) × (walks l.words l.n l.a l.s (l.k - l.counter) ≡ walks l.words l.n l.s l.s l.k)
