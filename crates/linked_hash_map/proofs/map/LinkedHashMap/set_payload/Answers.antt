use mathlib.Core.Path.{sym}
use native.Mathlib.Omega.{arith}
use Rattle.cells.proofs.Probing.{at_found}
use Rattle.linked_hash_map.proofs.Probed.{ends, ends_not, ends_room}
use Rattle.linked_hash_map.proofs.Finding.{writing_refused, writing_at, writing_none}
use Rattle.linked_hash_map.proofs.map.LinkedHashMap.set_payload.Goals as goal

pub returns-in_default : goal.returns-in_default
returns-in_default c = writing_refused _ (ends_not _ _ _ (sym c.in_default.ensures))

pub write_record-requires : goal.write_record-requires
write_record-requires c =
    let o = ends _ _ _ (rw c.in-At.is at (sym c.in-Ok.ensures)) in
    let r = ends_room o in
    let b = (at_found _ _ _ _ _ o.at).small in
    record { limit = omega (arith, r.limit, b); words = omega (arith, r.words, b) }

pub returns-in-At : goal.returns-in-At
returns-in-At c = rw c.write_record.ensures (writing_at _ _ _ (ends _ _ _ (rw c.in-At.is at (sym c.in-Ok.ensures))))

pub returns : goal.returns
returns c = writing_none _ (ends _ _ _ (sym c.in-Ok.ensures)) c.in_default-place.not-At
