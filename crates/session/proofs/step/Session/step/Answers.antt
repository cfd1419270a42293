use Rattle.session.proofs.Stepping.{step_short, step_first, step_next, step_ended}
use Rattle.session.proofs.step.Session.step.Goals as goal

pub returns-then-out-lt160 : goal.returns-then-out-lt160
returns-then-out-lt160 c = step_short _ c.if-out-lt160.true

pub returns-in-Waiting : goal.returns-in-Waiting
returns-in-Waiting c = step_first c.if-out-lt160.false c.parse-form.ensures c.in-Waiting.is c.first.ensures

pub returns-in-Open : goal.returns-in-Open
returns-in-Open c = step_next c.if-out-lt160.false c.parse-form.ensures c.in-Open.is c.next.ensures

pub returns-in-Ended : goal.returns-in-Ended
returns-in-Ended c = step_ended c.if-out-lt160.false c.in-Ended.is
