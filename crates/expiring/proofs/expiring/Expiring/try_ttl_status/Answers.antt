use mathlib.Core.Path.{sym, ◌∙◌}
use Rattle.expiring.proofs.Acting.{look_limits}
use Rattle.expiring.proofs.Following.{follow_status, follow_status_missing}
use Rattle.expiring.proofs.expiring.Expiring.try_ttl_status.Goals as goal

pub returns-in_err-limits : goal.returns-in_err-limits
returns-in_err-limits c = look_limits _ c.limits.ensures.told c.in_err-limits.was c.from_residual.ensures

pub returns-then-is_stored : goal.returns-then-is_stored
returns-then-is_stored c = follow_status _ _ _ (sym c.limits.ensures.told ∙ c.in_ok-limits.was) c.limits.ensures.word c.is_stored.ensures c.if-is_stored.true c.deadline_of.ensures c.status_of.ensures

pub returns : goal.returns
returns c = follow_status_missing _ _ _ (sym c.limits.ensures.told ∙ c.in_ok-limits.was) c.limits.ensures.word c.is_stored.ensures c.if-is_stored.false
