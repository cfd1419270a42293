use Rattle.std.proofs.Common.{rules}
use Rattle.expiration_index.proofs.Calling.{removing}
use Rattle.expiration_index.proofs.index.ExpirationIndex.remove.Goals as goal

pub returns : goal.returns
returns c = removing c.remove.ensures (search rules)
