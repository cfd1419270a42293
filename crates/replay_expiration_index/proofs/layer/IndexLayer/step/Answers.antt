-- Each arm is the step of its operation, with what the index's call ensures. Any other operation is above 12.
use Rattle.std.proofs.Common.{◌≡◌, arith}
use Rattle.std.proofs.lemmas.Grind.{common_steps}
use Rattle.replay_expiration_index.specs.Numbers as numbers
use Rattle.replay_expiration_index.specs.Steps.{opened, cleared, set, removed, looked, popped, told, contained, expired_counted, counted, asked_empty, entries_counted, checked, other}
use Rattle.replay_expiration_index.proofs.layer.IndexLayer.step.Goals as goal

pub returns-in-0 : goal.returns-in-0
returns-in-0 c =
    let e : c.unwrap_or_default.result ≡ numbers.opened c.open-opening.result = grind (arith, common_steps) in
    rw (c.opened.ensures, e) (opened c.in-0.is c.open-opening.ensures)

pub returns-in-1 : goal.returns-in-1
returns-in-1 c = rw c.of_discarded.ensures (cleared c.in-1.is c.clear.ensures)

pub returns-in-2 : goal.returns-in-2
returns-in-2 c = rw c.of_counted.ensures (set c.in-2.is c.set_deadline.ensures)

pub returns-in-3 : goal.returns-in-3
returns-in-3 c = rw c.of_counted-in-3.ensures (removed c.in-3.is c.remove.ensures)

pub returns-in-4 : goal.returns-in-4
returns-in-4 c = rw c.of_counted-in-4.ensures (looked c.in-4.is c.next_deadline.ensures)

pub returns-in-5 : goal.returns-in-5
returns-in-5 c = rw c.of_counted-in-5.ensures (popped c.in-5.is c.pop_expired.ensures)

pub returns-in-6 : goal.returns-in-6
returns-in-6 c = rw c.tell.ensures (told c.in-6.is c.deadline_of.ensures)

pub returns-in-7 : goal.returns-in-7
returns-in-7 c = rw c.tell-in-7.ensures (contained c.in-7.is c.contains.ensures)

pub returns-in-8 : goal.returns-in-8
returns-in-8 c = rw c.tell-in-8.ensures (expired_counted c.in-8.is c.expired_count.ensures)

pub returns-in-9 : goal.returns-in-9
returns-in-9 c = rw c.tell-in-9.ensures (counted c.in-9.is c.len.ensures)

pub returns-in-10 : goal.returns-in-10
returns-in-10 c = rw c.tell-in-10.ensures (asked_empty c.in-10.is c.is_empty.ensures)

pub returns-in-11 : goal.returns-in-11
returns-in-11 c = rw c.tell-in-11.ensures (entries_counted c.in-11.is c.heap_len.ensures)

pub returns-in-12 : goal.returns-in-12
returns-in-12 c = rw c.tell-in-12.ensures (checked c.in-12.is c.check.ensures)

pub returns-in_default : goal.returns-in_default
returns-in_default c = rw c.unknown.ensures (other (omega arith))
