use mathlib.Core.Path.{sym, ◌∙◌}
use Rattle.fast_lru.proofs.Changing.{changing, touching}
use Rattle.fast_lru.proofs.lru.FastLru.touch.Goals as goal

pub returns : goal.returns
returns c = rw (c.is_some.ensures, c.unwrap_or-touched.ensures) (changing (sym c.admitted.ensures ∙ c.in_ok-admitted.was) (touching _ _ _ _ _ c.touch.ensures))
