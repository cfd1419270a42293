use Rattle.lazy_heap.proofs.Tallies.{tally_start, tally_stop, tally_on, tally_end, entry_read}
use native.Mathlib.Omega.{arith}
use Rattle.lazy_heap.proofs.walks.tally_entries.Goals as goal

pub loop-i-init : goal.loop-i-init
loop-i-init c = tally_start _ _ _ _ _

pub returns-then-seq-e : goal.returns-then-seq-e
returns-then-seq-e c = tally_stop c.loop-i.invariant (omega arith) _ (entry_read (omega arith) (rw c.entries.ensures at c.entry_at-e.ensures)) c.if-seq-e.true

pub loop-i-preserved : goal.loop-i-preserved
loop-i-preserved c = rw c.see.ensures (tally_on c.loop-i.invariant (omega arith) _ (entry_read (omega arith) (rw c.entries.ensures at c.entry_at-e.ensures)) c.if-seq-e.false _ c.live_slot.ensures)

pub returns : goal.returns
returns c = tally_end c.loop-i.invariant (omega arith)
