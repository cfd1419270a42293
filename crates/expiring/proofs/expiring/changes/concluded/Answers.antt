use mathlib.Core.Path.{sym, ◌∙◌}
use native.Mathlib.Omega.{arith}
use Rattle.expiring.proofs.Changing.{concluding_expired}
use Rattle.expiring.proofs.expiring.changes.concluded.Goals as goal

pub returns-then-has_come : goal.returns-then-has_come
returns-then-has_come c = rw c.count_expiration.ensures (concluding_expired _ _ _ (omega arith) (sym c.has_come.ensures ∙ c.if-has_come.true))
