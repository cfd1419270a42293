use mathlib.Core.Path.{refl, ap, ◌∙◌}
use Rattle.std.specs.Prelude.{Ok}
use Rattle.linked_hash_map.proofs.Places.{put_over, put_full}
use Rattle.lazy_heap.proofs.heap.store_at.Goals as goal

pub returns-else-map : goal.returns-else-map
returns-else-map c = record { put = _; putting = put_over _ (c.requires ∙ ap Ok c.in-Free.is) c.if-map.false; answer = refl }

pub returns-in-Full : goal.returns-in-Full
returns-in-Full c = record { put = _; putting = put_full _ (c.requires ∙ ap Ok c.in-Full.is); answer = refl }
