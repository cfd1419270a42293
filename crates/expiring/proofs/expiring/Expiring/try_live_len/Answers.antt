use mathlib.Core.Path.{sym, ◌∙◌}
use mathlib.Core.Path.{ap}
use Rattle.expiring_model.specs.declared.answers.Answer.TheVariants as answers
use Rattle.expiring.proofs.Acting.{look_limits}
use Rattle.expiring.proofs.Following.{follow_live}
use Rattle.expiring.proofs.expiring.Expiring.try_live_len.Goals as goal

pub returns-in_err-limits : goal.returns-in_err-limits
returns-in_err-limits c = look_limits _ c.limits.ensures.told c.in_err-limits.was c.from_residual.ensures

pub returns : goal.returns
returns c = follow_live _ _ _ (sym c.limits.ensures.told ∙ c.in_ok-limits.was) c.limits.ensures.word c.stored_count-stored.ensures c.expired_count-expired.ensures (ap answers.Count c.saturating_sub.ensures)
