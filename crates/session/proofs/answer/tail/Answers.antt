use Rattle.text.proofs.Laws.{writes_then}
use Rattle.text.specs.Text.{fill}
use Rattle.session.specs.Answers.{tail_of}
use Rattle.session.proofs.answer.tail.Goals as goal

pub returns : goal.returns
unfolding tail_of fill
returns c = writes_then c.field.ensures (writes_then c.field-2.ensures (writes_then c.field-3.ensures c.put.ensures))
