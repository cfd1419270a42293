use native.Mathlib.Omega.{arith}
use Rattle.expiring.proofs.Changing.{valuing}
use Rattle.expiring.proofs.expiring.changes.on_list.Goals as goal

pub returns : goal.returns
returns g c = λ k f made. rw (c.unwrap_or.ensures, c.store_list.ensures) (valuing (omega arith) (rw c.list_in-list.ensures at (made _ _ _ _ _ c.call-value.ensures)))
