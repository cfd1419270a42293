use mathlib.Core.Path.{sym, ◌∙◌}
use mathlib.Core.Path.{ap}
use Rattle.lazy_heap.specs.Answers.{outcome_of}
use Rattle.expiring.proofs.Limits.{limits_room, err_ok}
use Rattle.expiring.proofs.Moving.{lent_limits}
use Rattle.expiring.proofs.Acting.{update_limits}
use Rattle.expiring.proofs.Following.{follow_next}
use Rattle.expiring.proofs.expiring.Expiring.try_next_deadline.Goals as goal

pub returns-in_err-limits : goal.returns-in_err-limits
returns-in_err-limits c = λ t. update_limits _ c.limits.ensures.told c.in_err-limits.was c.from_residual.ensures

pub returns-in_err-due : goal.returns-in_err-due
returns-in_err-due c = λ t. let l = sym c.limits.ensures.told ∙ c.in_ok-limits.was in absurd (err_ok _ (sym (ap outcome_of c.in_err-due.was) ∙ c.next_deadline.ensures.call.outcome ∙ lent_limits _ c.args.self.now (limits_room _ _ _ l)))

pub returns : goal.returns
returns c = λ t. let l = sym c.limits.ensures.told ∙ c.in_ok-limits.was in follow_next _ _ _ l c.limits.ensures.word (limits_room _ _ _ l) c.next_deadline.ensures c.in_ok-due.was c.of_due.ensures
