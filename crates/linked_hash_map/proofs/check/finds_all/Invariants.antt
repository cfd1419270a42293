use mathlib.Core.Path.{◌≡◌}
use Prim.Native.Nat.{◌-◌}
use Rattle.rings.specs.Ring.{next}
use Rattle.linked_hash_map.specs.Checks.{finds_all}
use Rattle.linked_hash_map.proofs.check.finds_all.Given as goal

abbrev pub invariant-loop : goal.invariant-loop
invariant-loop l = finds_all l.words l.n (l.len - l.counter) l.x ≡ finds_all l.words l.n l.len (next l.words l.n)
