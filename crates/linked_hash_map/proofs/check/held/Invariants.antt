use mathlib.Core.Path.{◌≡◌}
use Prim.Native.Nat.{◌≤◌}
use lib.ListN.{length}
use Rattle.cells.specs.Index.{held_in}
use Rattle.linked_hash_map.proofs.check.held.Given as goal

abbrev pub invariant-loop-p : goal.invariant-loop-p
invariant-loop-p l = (l.held ≤ l.p) × (l.held ≡ length (held_in l.words l.n l.p))
