use mathlib.Core.Path.{sym, ◌∙◌}
use Rattle.expiring.proofs.Acting.{look_limits}
use Rattle.expiring.proofs.Following.{follow_peek, follow_peeked}
use Rattle.expiring.proofs.expiring.Expiring.try_peek.Goals as goal

pub returns-in_err-limits : goal.returns-in_err-limits
returns-in_err-limits c = look_limits _ c.limits.ensures.told c.in_err-limits.was c.from_residual.ensures

pub returns-then-is_expired : goal.returns-then-is_expired
returns-then-is_expired c = follow_peek _ _ _ (sym c.limits.ensures.told ∙ c.in_ok-limits.was) c.limits.ensures.word c.is_expired.ensures c.if-is_expired.true

pub returns : goal.returns
returns c = follow_peeked _ _ _ (sym c.limits.ensures.told ∙ c.in_ok-limits.was) c.limits.ensures.word c.is_expired.ensures c.if-is_expired.false c.peek.ensures c.of_found.ensures
