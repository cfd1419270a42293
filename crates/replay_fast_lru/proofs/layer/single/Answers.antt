-- Each arm is the step of its operation, with what the list's call ensures. Any other operation is above 14.
use Rattle.std.proofs.Common.{◌≡◌, rules, arith}
use Rattle.replay_fast_lru.specs.Numbers as numbers
use Rattle.replay_fast_lru.specs.Steps.{opened, cleared, removed, popped, contained, peeked_oldest, ranked, counted, asked_empty, asked_capacity, checked, other}
use Rattle.replay_fast_lru.proofs.layer.single.Goals as goal

pub returns-in-0 : goal.returns-in-0
returns-in-0 c =
    let e : c.unwrap_or_default.result ≡ numbers.opened c.new-opening.result = search rules in
    rw (c.opened.ensures, e) (opened c.in-0.is c.new-opening.ensures)

pub returns-in-1 : goal.returns-in-1
returns-in-1 c = rw c.tell.ensures (cleared c.in-1.is c.clear.ensures)

pub returns-in-4 : goal.returns-in-4
returns-in-4 c = rw c.tell-in-4.ensures (removed c.in-4.is c.remove.ensures)

pub returns-in-5 : goal.returns-in-5
returns-in-5 c = rw c.tell-in-5.ensures (popped c.in-5.is c.pop_lru.ensures)

pub returns-in-8 : goal.returns-in-8
returns-in-8 c = rw c.tell-in-8.ensures (contained c.in-8.is c.contains.ensures)

pub returns-in-9 : goal.returns-in-9
returns-in-9 c = rw c.tell-in-9.ensures (peeked_oldest c.in-9.is c.peek_lru.ensures)

pub returns-in-10 : goal.returns-in-10
returns-in-10 c = rw c.tell-in-10.ensures (ranked c.in-10.is c.recency_rank.ensures)

pub returns-in-11 : goal.returns-in-11
returns-in-11 c = rw c.tell-in-11.ensures (counted c.in-11.is c.len.ensures)

pub returns-in-12 : goal.returns-in-12
returns-in-12 c = rw c.tell-in-12.ensures (asked_empty c.in-12.is c.is_empty.ensures)

pub returns-in-13 : goal.returns-in-13
returns-in-13 c = rw c.tell-in-13.ensures (asked_capacity c.in-13.is c.capacity.ensures)

pub returns-in-14 : goal.returns-in-14
returns-in-14 c = rw c.tell-in-14.ensures (checked c.in-14.is c.check.ensures)

pub returns-in_default : goal.returns-in_default
returns-in_default c = rw c.unknown.ensures (other (omega arith))
