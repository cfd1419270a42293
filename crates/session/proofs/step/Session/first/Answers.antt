use Rattle.session.proofs.Stepping.{open_begins, refuse_begins, no_counts}
use Rattle.session.proofs.step.Session.first.Goals as goal

pub returns-in-Ok : goal.returns-in-Ok
returns-in-Ok c = open_begins c.open_by.ensures c.in-Ok.is

pub returns-in-Err : goal.returns-in-Err
returns-in-Err c = refuse_begins _ c.requires (rw (no_counts _ c.default.ensures) at c.print.ensures) (c.open_by.ensures.refused _ c.in-Err.is)
