use mathlib.Core.Path.{sym, ◌∙◌}
use Rattle.fast_lru.proofs.Changing.{changing, clearing}
use Rattle.fast_lru.proofs.lru.FastLru.clear.Goals as goal

pub returns : goal.returns
returns c = changing (sym c.admitted.ensures ∙ c.in_ok-admitted.was) (clearing _ _ _ _ _ c.clear.ensures)
