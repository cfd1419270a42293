use Rattle.expiring.proofs.Asking.{expired_by_lem}
use Rattle.expiring.proofs.expiring.Expiring.is_expired.Goals as goal

pub returns : goal.returns
returns c = expired_by_lem _ c.deadline_of.ensures c.has_come.ensures
