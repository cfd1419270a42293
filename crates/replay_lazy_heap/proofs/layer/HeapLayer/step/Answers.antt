-- Each arm is the step of its operation, with what the heap's call ensures. Any other operation is above 16.
use Rattle.std.proofs.Common.{◌≡◌, arith}
use Rattle.std.proofs.lemmas.Grind.{common_steps}
use Rattle.replay_lazy_heap.specs.Numbers as numbers
use Rattle.replay_lazy_heap.specs.Steps.{opened, reset, updated, removed, popped, peeked, rebuilt, maybe_rebuilt, renumbered, cleared, factored, scored, counted, asked_empty, entries_counted, checked, counted_at_most, other}
use Rattle.replay_lazy_heap.proofs.layer.HeapLayer.step.Goals as goal

pub returns-in-0 : goal.returns-in-0
returns-in-0 c =
    let e : c.unwrap_or_default.result ≡ numbers.opened c.open-opening.result = grind (arith, common_steps) in
    rw (c.opened.ensures, e) (opened c.in-0.is c.open-opening.ensures)

pub returns-in-1 : goal.returns-in-1
returns-in-1 c = rw c.tell.ensures (reset c.in-1.is c.set_auto_rebuild.ensures)

pub returns-in-2 : goal.returns-in-2
returns-in-2 c = rw c.of_counted.ensures (updated c.in-2.is c.update.ensures)

pub returns-in-3 : goal.returns-in-3
returns-in-3 c = rw c.of_counted-in-3.ensures (removed c.in-3.is c.remove.ensures)

pub returns-in-4 : goal.returns-in-4
returns-in-4 c = rw c.of_counted-in-4.ensures (popped c.in-4.is c.pop_best.ensures)

pub returns-in-5 : goal.returns-in-5
returns-in-5 c = rw c.of_counted-in-5.ensures (peeked c.in-5.is c.peek_best.ensures)

pub returns-in-6 : goal.returns-in-6
returns-in-6 c = rw c.of_discarded.ensures (rebuilt c.in-6.is c.rebuild.ensures)

pub returns-in-7 : goal.returns-in-7
returns-in-7 c = rw c.of_discarded-in-7.ensures (maybe_rebuilt c.in-7.is c.maybe_rebuild.ensures)

pub returns-in-8 : goal.returns-in-8
returns-in-8 c = rw c.of_discarded-in-8.ensures (renumbered c.in-8.is c.renumber_seqs.ensures)

pub returns-in-9 : goal.returns-in-9
returns-in-9 c = rw c.of_discarded-in-9.ensures (cleared c.in-9.is c.clear.ensures)

pub returns-in-10 : goal.returns-in-10
returns-in-10 c = rw c.tell-in-10.ensures (factored c.in-10.is c.auto_rebuild_factor.ensures)

pub returns-in-11 : goal.returns-in-11
returns-in-11 c = rw c.tell-in-11.ensures (scored c.in-11.is c.score_of.ensures)

pub returns-in-12 : goal.returns-in-12
returns-in-12 c = rw c.tell-in-12.ensures (counted c.in-12.is c.len.ensures)

pub returns-in-13 : goal.returns-in-13
returns-in-13 c = rw c.tell-in-13.ensures (asked_empty c.in-13.is c.is_empty.ensures)

pub returns-in-14 : goal.returns-in-14
returns-in-14 c = rw c.tell-in-14.ensures (entries_counted c.in-14.is c.heap_len.ensures)

pub returns-in-15 : goal.returns-in-15
returns-in-15 c = rw c.tell-in-15.ensures (checked c.in-15.is c.check.ensures)

pub returns-in-16 : goal.returns-in-16
returns-in-16 c = rw c.tell-in-16.ensures (counted_at_most c.in-16.is c.count_at_most.ensures)

pub returns-in_default : goal.returns-in_default
returns-in_default c = rw c.unknown.ensures (other (omega arith))
