use Rattle.text.proofs.Laws.{writes_then}
use Rattle.session.proofs.answer.head.Goals as goal

pub returns-in-One : goal.returns-in-One
returns-in-One c = rw c.in-One.is (writes_then c.field.ensures c.put-in-One.ensures)

pub returns-in-Two : goal.returns-in-Two
returns-in-Two c = rw c.in-Two.is (writes_then c.field-in-Two.ensures (writes_then c.field-in-Two-2.ensures c.put-in-Two.ensures))
