use Prim.Native.Nat.{◌^◌, ◌<◌}
use native.Mathlib.Omega.{arith}
use lib.ListN.{get_or}
use Rattle.expiring.proofs.Storing.{stay_then}
use mathlib.Core.Path.{refl}
use Rattle.expiring.proofs.Changing.{concludes}
use Rattle.expiring.proofs.expiring.changes.remove_within.Goals as goal

pub returns : goal.returns
returns c =
    let o = c.drop_deadline-old.ensures in
    let ns = c.args.numbers.now in
    let w : get_or ns 11 0 < 2 ^ 64 = omega (arith, c.fits-numbers 11) in
    (stay_then o.stay (stay_then c.drop_value-found.ensures.stay c.concluded.ensures.stay), rw c.saying.ensures (concludes ns o.moved (λ _. refl) o.held w c.concluded.ensures c.drop_value-found.ensures))
