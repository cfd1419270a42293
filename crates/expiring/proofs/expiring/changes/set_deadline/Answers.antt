use native.Mathlib.Omega.{arith}
use Rattle.expiring.proofs.Changing.{setting}
use Rattle.expiring.proofs.expiring.changes.set_deadline.Goals as goal

pub returns : goal.returns
returns c = rw c.store_index.ensures (setting (record { numbers = omega arith; room = c.requires }) (rw c.index_in-index.ensures at c.set_deadline-dated.ensures))
