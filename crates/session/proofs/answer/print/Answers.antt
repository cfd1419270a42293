use borrow.Author.Rules.{rules}
use Rattle.session.proofs.Printing.{parts_written}
use Rattle.session.proofs.answer.print.Goals as goal

pub returns : goal.returns
returns c = parts_written _ _ c.shape_of.ensures c.head.ensures.puts c.tail.ensures.puts (search rules)
