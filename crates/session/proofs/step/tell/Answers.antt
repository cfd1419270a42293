use Rattle.session.proofs.Printing.{told}
use Rattle.session.proofs.step.tell.Goals as goal

pub returns : goal.returns
returns c = told _ c.requires c.print.ensures c.heap_len.ensures c.deadlines_held.ensures c.number_of.ensures c.number_of-2.ensures
