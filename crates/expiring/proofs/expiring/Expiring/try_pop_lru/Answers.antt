use mathlib.Core.Path.{sym, ◌∙◌}
use Rattle.expiring.proofs.Acting.{update_limits}
use Rattle.expiring.proofs.Following.{follow_pop}
use Rattle.expiring.proofs.expiring.Expiring.try_pop_lru.Goals as goal

pub returns-in_err-limits : goal.returns-in_err-limits
returns-in_err-limits c = λ t. update_limits _ c.limits.ensures.told c.in_err-limits.was c.from_residual.ensures

pub returns : goal.returns
returns c = λ t. rw c.saying.ensures (follow_pop _ _ _ (sym c.limits.ensures.told ∙ c.in_ok-limits.was) c.limits.ensures.word c.pop_lru.ensures c.of_oldest.ensures)
