use mathlib.Core.Path.{◌≡◌, sym, ◌∙◌}
use Prim.Native.Nat.{◌≤◌}
use native.Mathlib.Omega.{arith}
use lib.ListN.{length, take}
use Rattle.expiring.specs.Numbers.{book_in}
use Rattle.expiring.proofs.Following.{follow_get_expired, follow_got}
use Rattle.expiring.proofs.Storing.{expiration_stored, stay_then, stay_expiration}
use Rattle.lazy_heap.proofs.Calling.{handed_on}
use Rattle.expiring.proofs.Changing.{word_front, turned_back, limits_front, on_front, told_in_lem}
use Rattle.expiring.proofs.expiring.changes.try_get.Goals as goal

pub returns-in_err-admitted : goal.returns-in_err-admitted
returns-in_err-admitted c = rw (handed_on c.from_residual.ensures) (turned_back (sym c.admitted.ensures ∙ c.in_err-admitted.was))

pub returns-then-is_expired : goal.returns-then-is_expired
returns-then-is_expired c =
    let l = sym c.admitted.ensures ∙ c.in_ok-admitted.was in
    let front : c.unwrap-numbers.result.now ≡ take 12 c.args.numbers.now = (rw c.unwrap-numbers.ensures at c.first_chunk_mut.ensures.cases).same in
    let stay = c.drop_both.ensures.0 in
    let still : 12 ≤ length c.drop_both.new.numbers = omega arith in
    on_front _ _ l front _ (rw c.count_expiration.ensures (stay_then stay (stay_expiration _))) (rw c.saying.ensures (told_in_lem c.count_expiration.new.numbers (rw c.count_expiration.ensures (sym (expiration_stored _ still))) (follow_get_expired _ (book_in c.unwrap-numbers.result.now) _ (limits_front _ _ l front) (word_front _ front (omega (arith, c.slice_known-1.given 11))) (rw c.book_in-book.ensures at c.is_expired.ensures) c.if-is_expired.true c.drop_both.ensures.1)))

pub returns : goal.returns
returns c =
    let l = sym c.admitted.ensures ∙ c.in_ok-admitted.was in
    let front : c.unwrap-numbers.result.now ≡ take 12 c.args.numbers.now = (rw c.unwrap-numbers.ensures at c.first_chunk_mut.ensures.cases).same in
    on_front _ _ l front _ c.get_value.ensures.stay (rw c.saying-2.ensures (follow_got _ (book_in c.unwrap-numbers.result.now) _ (limits_front _ _ l front) (word_front _ front (omega (arith, c.slice_known-1.given 11))) (rw c.book_in-book.ensures at c.is_expired.ensures) c.if-is_expired.false c.get_value.ensures.moved c.get_value.ensures.value c.of_found.ensures))
