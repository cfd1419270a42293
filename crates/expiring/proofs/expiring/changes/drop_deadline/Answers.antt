use native.Mathlib.Omega.{arith}
use Rattle.expiring.specs.Numbers.{book_in}
use Rattle.expiring.proofs.Moving.{lent_answers}
use Rattle.expiring.proofs.Changing.{dropping_of}
use Rattle.expiring.proofs.expiring.changes.drop_deadline.Goals as goal

pub unwrap-removed-requires : goal.unwrap-removed-requires
unwrap-removed-requires c = lent_answers _ (book_in c.args.numbers.now) c.requires _ (rw c.index_in-index.ensures at c.remove.ensures).call.outcome

pub returns : goal.returns
returns c = rw c.store_held.ensures (dropping_of (record { numbers = omega arith; room = c.requires }) (rw c.index_in-index.ensures at c.remove.ensures) c.unwrap-removed.ensures)
