-- The oldest item is taken out by its key.
use mathlib.Core.Path.{sym, ◌∙◌}
use Rattle.fast_lru.proofs.Changing.{changing, popping, popping_none}
use Rattle.fast_lru.proofs.lru.FastLru.pop_lru.Goals as goal

pub returns-in_default : goal.returns-in_default
returns-in_default c = changing (sym c.admitted.ensures ∙ c.in_ok-admitted.was) (popping_none _ _ (rw c.in_default.is at c.oldest.ensures))

pub returns : goal.returns
returns c = changing (sym c.admitted.ensures ∙ c.in_ok-admitted.was) (popping _ _ _ _ _ _ _ (rw c.in-Some.is at c.oldest.ensures) c.remove.ensures)
