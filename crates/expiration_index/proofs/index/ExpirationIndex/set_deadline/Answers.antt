use Rattle.std.proofs.Common.{rules, arith}
use Rattle.expiration_index.proofs.Calling.{setting}
use Rattle.expiration_index.proofs.index.ExpirationIndex.set_deadline.Goals as goal

pub returns : goal.returns
returns c = setting c.update.ensures (search rules) (omega arith)
