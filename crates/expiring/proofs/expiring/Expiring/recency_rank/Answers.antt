use Rattle.expiring.proofs.expiring.Expiring.recency_rank.Goals as goal

pub returns : goal.returns
returns c = rw c.answered.ensures (c.try_recency_rank.ensures _)
