use mathlib.Core.Path.{sym, ◌∙◌}
use Rattle.expiring.proofs.Acting.{look_limits}
use Rattle.expiring.proofs.Following.{follow_contains, follow_contained}
use Rattle.expiring.proofs.expiring.Expiring.try_contains.Goals as goal

pub returns-in_err-limits : goal.returns-in_err-limits
returns-in_err-limits c = look_limits _ c.limits.ensures.told c.in_err-limits.was c.from_residual.ensures

pub returns-then-is_expired : goal.returns-then-is_expired
returns-then-is_expired c = follow_contains _ _ _ (sym c.limits.ensures.told ∙ c.in_ok-limits.was) c.limits.ensures.word c.is_expired.ensures c.if-is_expired.true

pub returns : goal.returns
returns c = follow_contained _ _ _ (sym c.limits.ensures.told ∙ c.in_ok-limits.was) c.limits.ensures.word c.is_expired.ensures c.if-is_expired.false c.contains.ensures c.of_told.ensures
