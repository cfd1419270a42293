use Rattle.std.proofs.Common.{rules}
use Rattle.hailtansy.proofs.change.hailtansy_set_ttl.Goals as goal

pub returns : goal.returns
returns c = c.change.ensures _ _ (λ _ _ _ _ _ post. search rules)
