use mathlib.Core.Path.{◌≡◌}
use Prim.Native.Nat.{◌-◌, ◌<◌}
use Rattle.std.specs.Prelude.{IfSome, unwrap_or}
use Rattle.cells.specs.Probe.{probe_from, probe}
use Rattle.linked_hash_map.proofs.index.probe.Given as goal

abbrev pub invariant-loop : goal.invariant-loop
invariant-loop l = (l.p < l.count) × IfSome l.free (λ b. b < l.count) × (probe_from l.words l.n l.key (l.count - l.counter) l.p (unwrap_or l.free l.count) ≡ probe l.words l.n l.key)
