use Rattle.expiring.proofs.Moving.{lent_answers, moved_clear}
use Rattle.expiring.proofs.expiring.Expiring.drop_all_deadlines.Goals as goal

pub unwrap-requires : goal.unwrap-requires
unwrap-requires c = lent_answers _ c.args.self.now c.requires _ c.clear.ensures.call.outcome

pub returns : goal.returns
returns c = moved_clear _ _ c.requires c.clear.ensures c.unwrap.ensures
