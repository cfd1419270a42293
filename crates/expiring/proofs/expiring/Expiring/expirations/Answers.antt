use Rattle.expiring.proofs.expiring.Expiring.expirations.Goals as goal

pub returns : goal.returns
returns c = rw c.answered.ensures (c.try_expirations.ensures _)
