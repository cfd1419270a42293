use Prim.Native.Nat.{◌^◌, ◌<◌}
use native.Mathlib.Omega.{arith}
use lib.ListN.{get_or}
use Rattle.expiring.proofs.Storing.{stay_then}
use Rattle.expiring.proofs.Acting.{acting_full}
use Rattle.expiring.proofs.Changing.{put_after}
use Rattle.expiring.proofs.expiring.changes.insert_until.Goals as goal

pub returns-in-Err : goal.returns-in-Err
returns-in-Err c =
    let o = c.set_deadline.ensures in
    (o.stay, rw (c.refused.ensures) (acting_full _ _ (o.dating.only _ c.in-Err.is) (o.dating.refused _ c.in-Err.is) (o.dating.full _ c.in-Err.is)))

pub returns-in-Ok : goal.returns-in-Ok
returns-in-Ok c =
    let o = c.set_deadline.ensures in
    let ns = c.args.numbers.now in
    let w : get_or ns 11 0 < 2 ^ 64 = omega (arith, c.fits-numbers 11) in
    (stay_then o.stay (stay_then c.put_value-found.ensures.stay c.concluded.ensures.stay), put_after ns (o.dating.moved _ c.in-Ok.is) (o.dating.free _ c.in-Ok.is) (o.dating.held _ c.in-Ok.is) w c.concluded.ensures _ c.put_value-found.ensures)
