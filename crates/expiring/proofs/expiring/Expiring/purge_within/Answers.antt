use native.Mathlib.Omega.{arith}
use mathlib.Core.Path.{refl}
use Rattle.binary_heap.proofs.Limits.{unfit, fitting}
use Rattle.expiring.proofs.Limits.{room_limits}
use Rattle.expiring.proofs.PurgeLoop.{progress_more, purge_ends, purge_spent}
use Rattle.expiring.proofs.expiring.Expiring.purge_within.Goals as goal

pub returns-then-not-popped : goal.returns-then-not-popped
returns-then-not-popped c = rw (c.purged.ensures, c.saturating_add-stale.ensures) (purge_ends (room_limits c.requires) c.loop-count.invariant c.pop_expired-popped.ensures (unfit refl c.if-not-popped.true))

pub loop-count-preserved : goal.loop-count-preserved
loop-count-preserved c = rw c.saturating_add-stale.ensures (progress_more c.loop-count.invariant c.pop_expired-popped.ensures (fitting refl c.if-not-popped.false))

pub returns : goal.returns
returns c = rw c.purged-2.ensures (purge_spent (room_limits c.requires) c.loop-count.invariant (omega arith))
