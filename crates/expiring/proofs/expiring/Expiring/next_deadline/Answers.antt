use Rattle.expiring.proofs.expiring.Expiring.next_deadline.Goals as goal

pub returns : goal.returns
returns c = rw c.told.ensures (c.try_next_deadline-said.ensures _)
