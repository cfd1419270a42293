use Rattle.expiring.proofs.Moving.{rest_answers}
use Rattle.expiring.proofs.Asking.{asking_expired}
use Rattle.expiring.proofs.expiring.Expiring.expired_count.Goals as goal

pub unwrap-requires : goal.unwrap-requires
unwrap-requires c = rest_answers _ c.args.self c.requires _ (rw c.deadlines.ensures at c.expired_count.ensures).outcome

pub returns : goal.returns
returns c = asking_expired (rw c.deadlines.ensures at c.expired_count.ensures) c.unwrap.ensures
