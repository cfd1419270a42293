use mathlib.Core.Path.{◌≡◌, sym, ◌∙◌}
use native.Mathlib.Omega.{arith}
use lib.ListN.{take}
use Rattle.expiring_model.specs.Model.{bad_nanos}
use Rattle.expiring.specs.Numbers.{book_in}
use Rattle.expiring.proofs.Lifetimes.{is_duration_lem, no_duration}
use Rattle.lazy_heap.proofs.Calling.{handed_on}
use Rattle.expiring.proofs.Following.{follow_timed_zero, follow_timed}
use Rattle.expiring.proofs.Changing.{word_front, turned_back, limits_front, on_front, nanos_front}
use Rattle.expiring.proofs.expiring.changes.try_insert_with_ttl.Goals as goal

pub returns-in_err-admitted : goal.returns-in_err-admitted
returns-in_err-admitted c = rw (handed_on c.from_residual.ensures) (turned_back (sym c.admitted.ensures ∙ c.in_err-admitted.was))

pub returns-in_err-ticks : goal.returns-in_err-ticks
unfolding bad_nanos
returns-in_err-ticks c =
    let l = sym c.admitted.ensures ∙ c.in_ok-admitted.was in
    let front : c.unwrap-numbers.result.now ≡ take 12 c.args.numbers.now = (rw c.unwrap-numbers.ensures at c.first_chunk_mut.ensures.cases).same in
    let n = no_duration _ (sym c.duration_to_ticks.ensures ∙ c.in_err-ticks.was) in
    rw (handed_on c.from_residual-in_err-ticks.ensures) (nanos_front _ _ l front n.0 n.1)

pub returns-then-is_zero : goal.returns-then-is_zero
unfolding bad_nanos
returns-then-is_zero c =
    let l = sym c.admitted.ensures ∙ c.in_ok-admitted.was in
    let front : c.unwrap-numbers.result.now ≡ take 12 c.args.numbers.now = (rw c.unwrap-numbers.ensures at c.first_chunk_mut.ensures.cases).same in
    let n = is_duration_lem _ (sym c.duration_to_ticks.ensures ∙ c.in_ok-ticks.was) in
    on_front _ _ l front _ c.remove_within.ensures.0 (follow_timed_zero _ (book_in c.unwrap-numbers.result.now) _ (limits_front _ _ l front) (word_front _ front (omega (arith, c.slice_known-1.given 11))) n.0 (sym c.is_zero.ensures ∙ c.if-is_zero.true) c.remove_within.ensures.1)

pub returns : goal.returns
unfolding bad_nanos
returns c =
    let l = sym c.admitted.ensures ∙ c.in_ok-admitted.was in
    let front : c.unwrap-numbers.result.now ≡ take 12 c.args.numbers.now = (rw c.unwrap-numbers.ensures at c.first_chunk_mut.ensures.cases).same in
    let n = is_duration_lem _ (sym c.duration_to_ticks.ensures ∙ c.in_ok-ticks.was) in
    on_front _ _ l front _ c.insert_until.ensures.0 (follow_timed _ (book_in c.unwrap-numbers.result.now) _ (limits_front _ _ l front) (word_front _ front (omega (arith, c.slice_known-1.given 11))) n.0 (sym c.is_zero.ensures ∙ c.if-is_zero.false) n.1 c.deadline_from-deadline.ensures c.insert_until.ensures.1)
