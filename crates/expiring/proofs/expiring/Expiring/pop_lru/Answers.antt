use Rattle.expiring.proofs.expiring.Expiring.pop_lru.Goals as goal

pub returns : goal.returns
returns c = rw c.told.ensures (c.try_pop_lru-said.ensures _)
