use Rattle.expiring.proofs.expiring.Expiring.touch.Goals as goal

pub returns : goal.returns
returns c = rw c.told.ensures (c.try_touch-said.ensures _)
