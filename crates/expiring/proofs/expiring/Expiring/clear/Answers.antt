use Rattle.expiring.proofs.expiring.Expiring.clear.Goals as goal

pub returns : goal.returns
returns c = rw c.told.ensures (c.try_clear-said.ensures _)
