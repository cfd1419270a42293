use mathlib.Core.Path.{sym, ◌∙◌}
use Rattle.expiring.proofs.Acting.{look_limits}
use Rattle.expiring.proofs.Following.{follow_rank}
use Rattle.expiring.proofs.expiring.Expiring.try_recency_rank.Goals as goal

pub returns-in_err-limits : goal.returns-in_err-limits
returns-in_err-limits c = λ t. look_limits _ c.limits.ensures.told c.in_err-limits.was c.from_residual.ensures

pub returns : goal.returns
returns c = λ t. follow_rank _ _ _ (sym c.limits.ensures.told ∙ c.in_ok-limits.was) c.limits.ensures.word c.recency_rank.ensures c.of_rank.ensures
