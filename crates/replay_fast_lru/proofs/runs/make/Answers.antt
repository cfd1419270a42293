-- Each arm is the step of its operation, with what the list's call ensures.
use Rattle.std.proofs.Common.{◌∙◌}
use Rattle.replay_fast_lru.specs.Steps.{inserted, gotten, touched, peeked}
use Rattle.replay_fast_lru.proofs.runs.make.Goals as goal

pub returns-in-2 : goal.returns-in-2
returns-in-2 g c = rw c.tell.ensures (inserted (c.requires ∙ c.in-2.is) c.insert.ensures)

pub returns-in-3 : goal.returns-in-3
returns-in-3 g c = rw c.tell-in-3.ensures (gotten (c.requires ∙ c.in-3.is) c.get.ensures)

pub returns-in-6 : goal.returns-in-6
returns-in-6 g c = rw c.tell-in-6.ensures (touched (c.requires ∙ c.in-6.is) c.touch.ensures)

pub returns-in-7 : goal.returns-in-7
returns-in-7 g c = rw c.tell-in-7.ensures (peeked (c.requires ∙ c.in-7.is) c.peek.ensures)
