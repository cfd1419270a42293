use mathlib.Core.Path.{refl, sym, ◌∙◌}
use Prim.Native.Nat.{◌^◌, ◌<◌, ◌≤◌}
use native.Mathlib.Omega.{arith}
use lib.ListN.{length, get_or}
use Rattle.binary_heap.proofs.Limits.{unfit, fitting}
use Rattle.expiring.specs.Numbers.{book_in}
use Rattle.expiring.proofs.Limits.{room_limits}
use Rattle.expiring.proofs.Following.{follow_ttl_missing, follow_ttl_expired, follow_ttl_zero, follow_ttl_full, follow_ttl_set}
use Rattle.expiring.proofs.Storing.{expiration_stored, stay_same, stay_then, stay_expiration}
use Rattle.expiring.proofs.Changing.{told_in_lem}
use Rattle.expiring.proofs.expiring.changes.set_ttl_within.Goals as goal

pub returns-then-not-is_stored : goal.returns-then-not-is_stored
returns-then-not-is_stored c =
    let ns = c.args.numbers.now in
    let limits = room_limits c.requires in
    let held = rw c.book_in-book.ensures at c.is_stored.ensures in
    let w : get_or ns 11 0 < 2 ^ 64 = omega (arith, c.fits-numbers 11) in
    (stay_same ns, λ d i m. rw c.saying.ensures (follow_ttl_missing _ (book_in ns) _ limits w _ d i held (unfit refl c.if-not-is_stored.true-raw)))

pub is_expired-requires : goal.is_expired-requires
is_expired-requires c = rw c.book_in-book.ensures c.requires

pub returns-then-is_expired : goal.returns-then-is_expired
returns-then-is_expired c =
    let ns = c.args.numbers.now in
    let limits = room_limits c.requires in
    let held = rw c.book_in-book.ensures at c.is_stored.ensures in
    let w : get_or ns 11 0 < 2 ^ 64 = omega (arith, c.fits-numbers 11) in
    let come = rw c.book_in-book.ensures at c.is_expired.ensures in
    let stay = c.drop_both.ensures.0 in
    let twelve : 12 ≤ length c.drop_both.new.numbers = omega (arith, stay.size) in
    (rw c.count_expiration.ensures (stay_then stay (stay_expiration _)), λ d i m. rw c.saying-then-is_expired.ensures (told_in_lem c.count_expiration.new.numbers (rw c.count_expiration.ensures (sym (expiration_stored _ twelve))) (follow_ttl_expired _ (book_in ns) _ limits w _ d i held (fitting refl c.if-not-is_stored.false-raw) come c.if-is_expired.true c.drop_both.ensures.1)))

pub returns-then-ticks-eq-NO_TICKS : goal.returns-then-ticks-eq-NO_TICKS
returns-then-ticks-eq-NO_TICKS c =
    let ns = c.args.numbers.now in
    let limits = room_limits c.requires in
    let held = rw c.book_in-book.ensures at c.is_stored.ensures in
    let w : get_or ns 11 0 < 2 ^ 64 = omega (arith, c.fits-numbers 11) in
    let come = rw c.book_in-book.ensures at c.is_expired.ensures in
    (c.drop_both-then-ticks-eq-NO_TICKS.ensures.0, λ d i m. rw c.saying-then-ticks-eq-NO_TICKS.ensures (follow_ttl_zero _ (book_in ns) _ limits w _ d i held (fitting refl c.if-not-is_stored.false-raw) come c.if-is_expired.false (m ∙ c.if-ticks-eq-NO_TICKS.true) c.drop_both-then-ticks-eq-NO_TICKS.ensures.1))

pub returns-in-Err : goal.returns-in-Err
returns-in-Err c =
    let ns = c.args.numbers.now in
    let limits = room_limits c.requires in
    let held = rw c.book_in-book.ensures at c.is_stored.ensures in
    let w : get_or ns 11 0 < 2 ^ 64 = omega (arith, c.fits-numbers 11) in
    let come = rw c.book_in-book.ensures at c.is_expired.ensures in
    let o = rw c.deadline_from.ensures at c.set_deadline.ensures in
    (o.stay, λ d i m. rw (c.refused.ensures) (follow_ttl_full _ (book_in ns) _ limits w _ d i held (fitting refl c.if-not-is_stored.false-raw) come c.if-is_expired.false (λ r. c.if-ticks-eq-NO_TICKS.false (sym m ∙ r)) m o.dating c.in-Err.is))

pub returns-in-Ok : goal.returns-in-Ok
returns-in-Ok c =
    let ns = c.args.numbers.now in
    let limits = room_limits c.requires in
    let held = rw c.book_in-book.ensures at c.is_stored.ensures in
    let w : get_or ns 11 0 < 2 ^ 64 = omega (arith, c.fits-numbers 11) in
    let come = rw c.book_in-book.ensures at c.is_expired.ensures in
    let o = rw c.deadline_from.ensures at c.set_deadline.ensures in
    (o.stay, λ d i m. follow_ttl_set _ (book_in ns) _ limits w _ d i held (fitting refl c.if-not-is_stored.false-raw) come c.if-is_expired.false (λ r. c.if-ticks-eq-NO_TICKS.false (sym m ∙ r)) m o.dating c.in-Ok.is)
