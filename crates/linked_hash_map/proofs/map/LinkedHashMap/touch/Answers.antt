use mathlib.Core.Path.{sym}
use native.Mathlib.Omega.{arith}
use Rattle.cells.proofs.Probing.{at_found}
use Rattle.linked_hash_map.proofs.Probed.{err_unfit, ends, ends_not, ends_room, none_at}
use Rattle.linked_hash_map.proofs.Finding.{touching_refused, touching_at, touching_none}
use Rattle.linked_hash_map.proofs.map.LinkedHashMap.touch.Goals as goal

pub returns-in_err-slot : goal.returns-in_err-slot
returns-in_err-slot c = rw (err_unfit _ c.from_residual.ensures.0) (touching_refused _ (ends_not _ _ _ (sym c.in_err-slot.ensures)))

pub overflow_add-self : goal.overflow_add-self
overflow_add-self c = let r = ends_room (ends _ _ _ (sym c.in_ok-slot.ensures)) in record { fits = omega (arith, r.limit) }

pub move_after-requires : goal.move_after-requires
move_after-requires c =
    let o = ends _ _ _ (rw c.in-At.is at (sym c.in_ok-slot.ensures)) in
    let r = ends_room o in
    (record { limit = omega (arith, r.limit); words = omega (arith, r.words) }, omega arith, omega (arith, (at_found _ _ _ _ _ o.at).small))

pub returns-in-At : goal.returns-in-At
returns-in-At c = rw c.move_after.ensures (touching_at _ _ _ (ends _ _ _ (rw c.in-At.is at (sym c.in_ok-slot.ensures))))

pub returns-in-Free : goal.returns-in-Free
returns-in-Free c = touching_none _ (ends _ _ _ (sym c.in_ok-slot.ensures)) (none_at c.in-Free.is)
