use mathlib.Core.Path.{◌≡◌, sym, ap, ◌∙◌}
use lib.ListN.{take}
use Rattle.time.specs.declared.duration.TtlTicks.{TtlTicks}
use Rattle.expiring_model.specs.Model.{bad_nanos}
use Rattle.expiring.proofs.Lifetimes.{is_duration_lem, no_duration}
use Rattle.lazy_heap.proofs.Calling.{handed_on}
use Rattle.expiring.proofs.Changing.{turned_back, on_front, nanos_front}
use Rattle.expiring.proofs.expiring.changes.try_set_ttl.Goals as goal

pub returns-in_err-admitted : goal.returns-in_err-admitted
returns-in_err-admitted c = rw (handed_on c.from_residual.ensures) (turned_back (sym c.admitted.ensures ∙ c.in_err-admitted.was))

pub returns-in_err-ticks : goal.returns-in_err-ticks
unfolding bad_nanos
returns-in_err-ticks c =
    let l = sym c.admitted.ensures ∙ c.in_ok-admitted.was in
    let front : c.unwrap-numbers.result.now ≡ take 12 c.args.numbers.now = (rw c.unwrap-numbers.ensures at c.first_chunk_mut.ensures.cases).same in
    let n = no_duration _ (sym c.duration_to_ticks.ensures ∙ c.in_err-ticks.was) in
    rw (handed_on c.from_residual-in_err-ticks.ensures) (nanos_front _ _ l front n.0 n.1)

pub returns : goal.returns
unfolding bad_nanos
returns c =
    let l = sym c.admitted.ensures ∙ c.in_ok-admitted.was in
    let front : c.unwrap-numbers.result.now ≡ take 12 c.args.numbers.now = (rw c.unwrap-numbers.ensures at c.first_chunk_mut.ensures.cases).same in
    let n = is_duration_lem _ (sym c.duration_to_ticks.ensures ∙ c.in_ok-ticks.was) in
    on_front _ _ l front _ c.set_ttl_within.ensures.0 (c.set_ttl_within.ensures.1 _ n.0 (ap (λ (x : TtlTicks). x.0) (sym n.1)))
