-- The probe of the old key says whether there is a record to take out.
use mathlib.Core.Path.{sym}
use Rattle.cells.proofs.Probing.{at_found}
use Rattle.cells.proofs.Indexing.{erased_length}
use Rattle.linked_hash_map.proofs.Probed.{ends, ends_not, ends_room}
use Rattle.linked_hash_map.proofs.Recycling.{recycling_refused, recycling_none, recycling_at}
use Rattle.linked_hash_map.proofs.map.LinkedHashMap.recycle.Goals as goal

pub returns-in_default : goal.returns-in_default
returns-in_default c = recycling_refused _ _ (ends_not _ _ _ (sym c.in_default.ensures))

pub erase-requires : goal.erase-requires
erase-requires c = let o = ends _ _ _ (rw c.in-At.is at (sym c.in-Ok.ensures)) in (ends_room o, (at_found _ _ _ _ _ o.at).cell)

pub renew-requires : goal.renew-requires
renew-requires c =
    let o = ends _ _ _ (rw c.in-At.is at (sym c.in-Ok.ensures)) in
    (rw c.erase.ensures (rw (erased_length _ _ _) (ends_room o)), (at_found _ _ _ _ _ o.at).small)

pub returns-in-At : goal.returns-in-At
returns-in-At c = let o = ends _ _ _ (rw c.in-At.is at (sym c.in-Ok.ensures)) in recycling_at _ _ _ _ _ _ o.fits o.at _ _ (rw c.erase.ensures at c.renew.ensures)

pub returns-in_default-place : goal.returns-in_default-place
returns-in_default-place c = recycling_none _ _ (ends _ _ _ (sym c.in-Ok.ensures)) c.in_default-place.not-At
