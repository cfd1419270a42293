use mathlib.Core.Path.{sym, ap, ◌∙◌}
use Rattle.std.specs.Prelude.{Ok}
use Rattle.linked_hash_map.proofs.Places.{remove_none, refused_no_map}
use Rattle.linked_hash_map.proofs.Probed.{none_at}
use Rattle.fast_lru.proofs.Changing.{changing, removing, removing_none}
use Rattle.fast_lru.proofs.lru.FastLru.remove.Goals as goal

pub returns-in_default : goal.returns-in_default
returns-in_default c = changing (sym c.admitted.ensures ∙ c.in_ok-admitted.was) (removing_none _ _ _ (refused_no_map c.args.key (sym c.seek.ensures ∙ c.in_default.is)))

pub returns-in-At : goal.returns-in-At
returns-in-At c =
    let o = c.take_at-value.ensures in
    rw o.first (changing (sym c.admitted.ensures ∙ c.in_ok-admitted.was) (removing _ _ _ _ _ _ (o.remove _ (sym c.seek.ensures ∙ c.in-Ok.is ∙ ap Ok c.in-At.is))))

pub returns-in-Free : goal.returns-in-Free
returns-in-Free c = changing (sym c.admitted.ensures ∙ c.in_ok-admitted.was) (removing _ _ _ _ _ _ (remove_none _ (sym c.seek.ensures ∙ c.in-Ok.is) (none_at c.in-Free.is)))
