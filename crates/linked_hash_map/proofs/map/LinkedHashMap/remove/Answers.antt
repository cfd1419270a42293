use mathlib.Core.Path.{sym}
use Rattle.cells.proofs.Probing.{at_found}
use Rattle.linked_hash_map.proofs.Probed.{err_unfit, ends, ends_room, none_at}
use Rattle.linked_hash_map.proofs.Putting.{removing_at}
use Rattle.linked_hash_map.proofs.Places.{remove_none, remove_refused}
use Rattle.linked_hash_map.proofs.map.LinkedHashMap.remove.Goals as goal

pub returns-in_err-cell : goal.returns-in_err-cell
returns-in_err-cell c = rw (err_unfit _ c.from_residual.ensures.0) (remove_refused _ (sym c.in_err-cell.ensures))

pub take-requires : goal.take-requires
take-requires c =
    let o = ends _ _ _ (rw c.in-At.is at (sym c.in_ok-cell.ensures)) in
    let p = at_found _ _ _ _ _ o.at in
    (ends_room o, p.cell, p.small)

pub returns-in-At : goal.returns-in-At
returns-in-At c =
    let o = ends _ _ _ (rw c.in-At.is at (sym c.in_ok-cell.ensures)) in
    rw (c.take.ensures.record, c.take.ensures.words, c.take.ensures.numbers) (removing_at _ _ _ o.fits o.at)

pub returns-in-Free : goal.returns-in-Free
returns-in-Free c = remove_none _ (sym c.in_ok-cell.ensures) (none_at c.in-Free.is)
