use mathlib.Core.Path.{sym, ◌∙◌}
use Rattle.lazy_heap.proofs.Downward.{descending_start, descending_none, descending_stop, descending_unseen, descending_on, descending_end}
use Rattle.lazy_heap.proofs.walks.records_valid.Goals.{then-bound-r-via-then-bound-r, then-bound-r-via-else-bound-r+then-times-ne1}
use Rattle.lazy_heap.proofs.walks.records_valid.Goals as goal

pub loop-init : goal.loop-init
loop-init c = rw c.unwrap_or-slot.ensures (descending_start _ _ c.first.ensures)

pub returns-in_default : goal.returns-in_default
returns-in_default c = descending_none c.loop.invariant c.loop-test.true c.in_default.is

pub returns-then-bound-r : goal.returns-then-bound-r
returns-then-bound-r c =
    elim c.then-bound-r.branch [
      | then-bound-r-via-then-bound-r w ↦ descending_stop c.loop.invariant c.in-Some.is c.record-r.ensures w.if-bound-r.true
      | then-bound-r-via-else-bound-r+then-times-ne1 w ↦ descending_unseen c.loop.invariant c.in-Some.is c.record-r.ensures (λ q. w.if-times-ne1.true (w.times.ensures ∙ q))
    ]

pub loop-preserved : goal.loop-preserved
loop-preserved c = rw c.unwrap_or-slot-in-loop.ensures (descending_on c.loop.invariant c.in-Some.is c.record-r.ensures c.if-bound-r.false (sym c.times.ensures ∙ c.if-times-ne1.false) c.next.ensures)

pub returns : goal.returns
returns c = descending_end c.loop.invariant c.loop-test.false
