use mathlib.Core.Path.{◌≡◌, refl}
use Prim.Native.Nat.{◌-◌}
use native.Mathlib.Omega.{arith}
use Rattle.lazy_heap.proofs.Refilling.{refilling_start, refilling_on}
use Rattle.lazy_heap.proofs.Stepping.{rebuilding, rebuilding_none}
use Rattle.lazy_heap.proofs.heap.LazyMinHeap.rebuild_within.Goals as goal

pub returns-then-scores : goal.returns-then-scores
returns-then-scores c = rebuilding_none _ _ c.if-scores.true c.surplus-discarded.ensures

pub loop-init : goal.loop-init
loop-init c = let all : c.args.self.now.scores.len - 0 ≡ c.args.self.now.scores.len = omega arith in rw (all, c.unwrap_or-slot.ensures) (refilling_start _ _ refl c.last.ensures)

pub loop-preserved : goal.loop-preserved
loop-preserved c = refilling_on c.loop.invariant (omega arith) c.record_at-r.ensures c.push.ensures c.slot_before-slot.ensures

pub returns : goal.returns
returns c = rebuilding c.loop.invariant c.surplus-discarded.ensures (λ p. omega arith)
