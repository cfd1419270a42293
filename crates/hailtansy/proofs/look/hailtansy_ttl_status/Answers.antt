use Rattle.std.proofs.Common.{rules}
use Rattle.replay_expiring.proofs.Steps.{at_ttl_status}
use Rattle.hailtansy.proofs.Laws.{is_look}
use Rattle.hailtansy.proofs.look.hailtansy_ttl_status.Goals as goal

pub returns : goal.returns
returns c = c.look.ensures _ _ _ (is_look _ at_ttl_status) (λ _ post. search rules)
