use mathlib.Core.Path.{refl}
use Prim.Native.Nat.{◌^◌, ◌<◌}
use native.Mathlib.Omega.{arith}
use lib.ListN.{get_or}
use Rattle.expiring.proofs.Storing.{stay_then}
use Rattle.expiring.proofs.Changing.{put_after}
use Rattle.expiring.proofs.expiring.changes.insert_forever.Goals as goal

pub returns : goal.returns
returns c =
    let o = c.drop_deadline-old.ensures in
    let ns = c.args.numbers.now in
    let w : get_or ns 11 0 < 2 ^ 64 = omega (arith, c.fits-numbers 11) in
    (stay_then o.stay (stay_then c.put_value-found.ensures.stay c.concluded.ensures.stay), rw c.saying.ensures (put_after ns o.moved (λ _. refl) o.held w c.concluded.ensures _ c.put_value-found.ensures))
