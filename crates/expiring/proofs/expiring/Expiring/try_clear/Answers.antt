use mathlib.Core.Path.{sym, ◌∙◌}
use Rattle.expiring.proofs.Limits.{limits_room, room_same}
use Rattle.expiring.proofs.Acting.{update_limits}
use Rattle.expiring.proofs.Following.{follow_clear}
use Rattle.expiring.proofs.expiring.Expiring.try_clear.Goals as goal

pub returns-in_err-limits : goal.returns-in_err-limits
returns-in_err-limits c = λ t. update_limits _ c.limits.ensures.told c.in_err-limits.was c.from_residual.ensures

pub drop_all_deadlines-discarded-requires : goal.drop_all_deadlines-discarded-requires
drop_all_deadlines-discarded-requires c = room_same c.clear.ensures.capacity c.clear.ensures.kept.size (limits_room _ _ _ (sym c.limits.ensures.told ∙ c.in_ok-limits.was))

pub returns : goal.returns
returns c = λ t. follow_clear _ _ _ (sym c.limits.ensures.told ∙ c.in_ok-limits.was) c.limits.ensures.word c.clear.ensures c.drop_all_deadlines-discarded.ensures
