use mathlib.Core.Path.{◌≡◌, sym, ◌∙◌}
use native.Mathlib.Omega.{arith}
use lib.ListN.{take}
use Rattle.expiring.specs.Numbers.{book_in}
use Rattle.expiring.proofs.Following.{follow_remove}
use Rattle.lazy_heap.proofs.Calling.{handed_on}
use Rattle.expiring.proofs.Changing.{word_front, turned_back, limits_front, on_front}
use Rattle.expiring.proofs.expiring.changes.try_remove.Goals as goal

pub returns-in_err-admitted : goal.returns-in_err-admitted
returns-in_err-admitted c = rw (handed_on c.from_residual.ensures) (turned_back (sym c.admitted.ensures ∙ c.in_err-admitted.was))

pub returns : goal.returns
returns c =
    let l = sym c.admitted.ensures ∙ c.in_ok-admitted.was in
    let front : c.unwrap-numbers.result.now ≡ take 12 c.args.numbers.now = (rw c.unwrap-numbers.ensures at c.first_chunk_mut.ensures.cases).same in
    on_front _ _ l front _ c.remove_within.ensures.0 (follow_remove _ (book_in c.unwrap-numbers.result.now) _ (limits_front _ _ l front) (word_front _ front (omega (arith, c.slice_known-1.given 11))) c.remove_within.ensures.1)
