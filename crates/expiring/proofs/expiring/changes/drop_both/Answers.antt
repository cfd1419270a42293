use Rattle.expiring.proofs.Storing.{stay_then}
use Rattle.expiring.proofs.Moving.{moved_later}
use Rattle.expiring.proofs.expiring.changes.drop_both.Goals as goal

pub returns : goal.returns
returns c = (stay_then c.drop_deadline.ensures.stay c.drop_value.ensures.stay, moved_later c.drop_deadline.ensures.moved c.drop_value.ensures.moved)
