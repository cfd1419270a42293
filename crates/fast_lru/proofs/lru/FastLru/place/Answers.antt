-- What the map does at the place is what its `put` does.
use mathlib.Core.Path.{sym, ap, ◌∙◌}
use Rattle.std.specs.Prelude.{Ok}
use Rattle.linked_hash_map.proofs.Places.{put_over, full_no_map, refused_no_map}
use Rattle.fast_lru.proofs.Placing.{placing_new, placing_over, placing_evicting, placing_none}
use Rattle.fast_lru.proofs.lru.FastLru.place.Goals as goal

pub returns-in_default : goal.returns-in_default
returns-in_default c = placing_none _ _ c.args.item (refused_no_map _ (sym c.seek.ensures ∙ c.in_default.is))

pub returns-in-At : goal.returns-in-At
returns-in-At c = placing_over _ _ _ _ _ _ (c.replace_at-old.ensures.put _ (sym c.seek.ensures ∙ c.in-Ok.is ∙ ap Ok c.in-At.is))

pub returns-in-Free : goal.returns-in-Free
returns-in-Free c = placing_new _ _ _ _ _ (c.insert_at.ensures.put (sym c.seek.ensures ∙ c.in-Ok.is ∙ ap Ok c.in-Free.is) c.if-self.true)

pub returns-in-Free-2 : goal.returns-in-Free-2
returns-in-Free-2 c = placing_evicting _ _ _ _ _ (put_over _ (sym c.seek.ensures ∙ c.in-Ok.is ∙ ap Ok c.in-Free.is) c.if-self.false) c.place_evicting.ensures

pub returns-in-Full : goal.returns-in-Full
returns-in-Full c = placing_none _ _ c.args.item (full_no_map _ (sym c.seek.ensures ∙ c.in-Ok.is ∙ ap Ok c.in-Full.is))
