-- Each arm is the step of its operation, with what the map's call ensures. Any other operation is above 12.
use Rattle.std.proofs.Common.{◌≡◌, rules, arith}
use Rattle.replay_linked_hash_map.specs.Numbers as numbers
use Rattle.replay_linked_hash_map.specs.Steps.{opened, cleared, touched, written, put, removed, found, recorded, first, last, next, previous, checked, other}
use Rattle.replay_linked_hash_map.proofs.layer.MapLayer.step.Goals as goal

pub returns-in-0 : goal.returns-in-0
returns-in-0 c =
    let e : c.unwrap_or_default.result ≡ numbers.opened c.open-opening.result = search rules in
    rw (c.tell.ensures, c.is_ok.ensures.value, e) (opened c.in-0.is c.open-opening.ensures)

pub returns-in-1 : goal.returns-in-1
returns-in-1 c = rw (c.tell-in-1.ensures, c.is_ok-in-1.ensures.value) (cleared c.in-1.is c.clear.ensures)

pub returns-in-2 : goal.returns-in-2
returns-in-2 c = rw c.of_slot.ensures (touched c.in-2.is c.touch.ensures)

pub returns-in-3 : goal.returns-in-3
returns-in-3 c = rw c.tell-in-3.ensures (written c.in-3.is (rw c.item.ensures at c.set_payload.ensures))

pub returns-in-4 : goal.returns-in-4
returns-in-4 c = rw c.of_placed.ensures (put c.in-4.is (rw c.item-in-4.ensures at c.put.ensures))

pub returns-in-5 : goal.returns-in-5
returns-in-5 c = rw c.of_taken.ensures (removed c.in-5.is c.remove.ensures)

pub returns-in-6 : goal.returns-in-6
returns-in-6 c = rw c.of_slot-in-6.ensures (found c.in-6.is c.find.ensures)

pub returns-in-7 : goal.returns-in-7
returns-in-7 c = rw c.of_record.ensures (recorded c.in-7.is c.record.ensures)

pub returns-in-8 : goal.returns-in-8
returns-in-8 c = rw c.of_slot-in-8.ensures (first c.in-8.is c.first.ensures)

pub returns-in-9 : goal.returns-in-9
returns-in-9 c = rw c.of_slot-in-9.ensures (last c.in-9.is c.last.ensures)

pub returns-in-10 : goal.returns-in-10
returns-in-10 c = rw c.of_slot-in-10.ensures (next c.in-10.is c.next.ensures)

pub returns-in-11 : goal.returns-in-11
returns-in-11 c = rw c.of_slot-in-11.ensures (previous c.in-11.is c.previous.ensures)

pub returns-in-12 : goal.returns-in-12
returns-in-12 c = rw c.tell-in-12.ensures (checked c.in-12.is c.check.ensures)

pub returns-in_default : goal.returns-in_default
returns-in_default c = rw c.unknown.ensures (other (omega arith))
