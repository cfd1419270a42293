use Rattle.std.proofs.Common.{rules}
use Rattle.replay_expiring.proofs.Steps.{at_live_len}
use Rattle.hailtansy.proofs.Laws.{is_look}
use Rattle.hailtansy.proofs.look.hailtansy_live_len.Goals as goal

pub returns : goal.returns
returns c = c.look.ensures _ _ _ (is_look _ at_live_len) (λ _ post. search rules)
