-- The touched item stands in front, so what its slot holds is the key's value.
use mathlib.Core.Path.{sym, ◌∙◌}
use Rattle.fast_lru.proofs.Changing.{changing, getting}
use Rattle.fast_lru.proofs.lru.FastLru.get.Goals as goal

pub returns : goal.returns
returns c = changing (sym c.admitted.ensures ∙ c.in_ok-admitted.was) (getting _ _ _ _ _ _ c.touch.ensures (rw c.unwrap_or-slot.ensures at c.value_at.ensures))
