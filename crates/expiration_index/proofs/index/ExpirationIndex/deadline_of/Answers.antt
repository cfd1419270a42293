use Rattle.std.proofs.Common.{rules}
use Rattle.expiration_index.proofs.Calling.{deadline_told}
use Rattle.expiration_index.proofs.index.ExpirationIndex.deadline_of.Goals as goal

pub returns : goal.returns
returns c = deadline_told _ c.score_of.ensures (search rules)
