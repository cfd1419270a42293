use Rattle.std.proofs.Common.{rules}
use Rattle.expiration_index.proofs.Calling.{containing}
use Rattle.expiration_index.proofs.index.ExpirationIndex.contains.Goals as goal

pub returns : goal.returns
returns c = containing _ c.score_of.ensures (search rules)
