use Rattle.std.proofs.Common.{rules}
use Rattle.expiration_index.proofs.Calling.{looking}
use Rattle.expiration_index.proofs.index.ExpirationIndex.next_deadline.Goals as goal

pub returns : goal.returns
returns c = looking c.peek_best.ensures (search rules)
