use Rattle.expiring.proofs.expiring.Expiring.peek_lru.Goals as goal

pub returns : goal.returns
returns c = rw c.answered.ensures (c.try_peek_lru.ensures _)
