use Rattle.std.proofs.Common.{rules}
use Rattle.expiration_index.proofs.Calling.{opening}
use Rattle.expiration_index.proofs.index.ExpirationIndex.open.Goals as goal

pub returns : goal.returns
returns c = opening c.open.ensures (search rules)
