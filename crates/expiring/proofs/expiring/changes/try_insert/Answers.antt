use mathlib.Core.Path.{◌≡◌, sym, ◌∙◌}
use native.Mathlib.Omega.{arith}
use lib.ListN.{take}
use Rattle.expiring.specs.Numbers.{book_in}
use Rattle.expiring.proofs.Following.{follow_insert, follow_insert_default}
use Rattle.lazy_heap.proofs.Calling.{handed_on}
use Rattle.expiring.proofs.Changing.{word_front, turned_back, limits_front, on_front, default_in_lem}
use Rattle.expiring.proofs.expiring.changes.try_insert.Goals as goal

pub returns-in_err-admitted : goal.returns-in_err-admitted
returns-in_err-admitted c = rw (handed_on c.from_residual.ensures) (turned_back (sym c.admitted.ensures ∙ c.in_err-admitted.was))

pub returns-in-Some : goal.returns-in-Some
returns-in-Some c =
    let l = sym c.admitted.ensures ∙ c.in_ok-admitted.was in
    let front : c.unwrap-numbers.result.now ≡ take 12 c.args.numbers.now = (rw c.unwrap-numbers.ensures at c.first_chunk_mut.ensures.cases).same in
    on_front _ _ l front _ c.insert_until.ensures.0 (follow_insert_default _ (book_in c.unwrap-numbers.result.now) _ (limits_front _ _ l front) (word_front _ front (omega (arith, c.slice_known-1.given 11))) (default_in_lem c.unwrap-numbers.result.now c.book_in-book.ensures c.in-Some.is) c.deadline_from.ensures c.insert_until.ensures.1)

pub returns-in-None : goal.returns-in-None
returns-in-None c =
    let l = sym c.admitted.ensures ∙ c.in_ok-admitted.was in
    let front : c.unwrap-numbers.result.now ≡ take 12 c.args.numbers.now = (rw c.unwrap-numbers.ensures at c.first_chunk_mut.ensures.cases).same in
    on_front _ _ l front _ c.insert_forever.ensures.0 (follow_insert _ (book_in c.unwrap-numbers.result.now) _ (limits_front _ _ l front) (word_front _ front (omega (arith, c.slice_known-1.given 11))) (default_in_lem c.unwrap-numbers.result.now c.book_in-book.ensures c.in-None.is) c.insert_forever.ensures.1)
