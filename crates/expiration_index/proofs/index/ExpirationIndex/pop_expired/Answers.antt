use Rattle.std.proofs.Common.{rules}
use Rattle.expiration_index.proofs.Calling.{popping}
use Rattle.expiration_index.proofs.index.ExpirationIndex.pop_expired.Goals as goal

pub returns : goal.returns
returns c = popping c.pop_at_most.ensures (search rules)
