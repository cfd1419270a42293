use mathlib.Core.Path.{sym, ap, ◌∙◌}
use borrow.Author.Tests.{ne_eqb}
use Rattle.lazy_heap.proofs.Slots.{slot_in}
use Rattle.lazy_heap.proofs.Settling.{slot_nothing, live_none, live_score, live_seq, living_flag, living_none}
use Rattle.lazy_heap.proofs.walks.live_slot.Goals.{then-r-entry, else-r-entry}
use Rattle.lazy_heap.proofs.walks.live_slot.Goals as goal

pub returns-in_err-s : goal.returns-in_err-s
returns-in_err-s c = rw c.from_residual.ensures (living_none (λ is. live_none _ _ (slot_nothing _ _ _ (sym (ap slot_in (c.find.ensures.answer is)) ∙ sym c.unwrap_or.ensures ∙ c.in_err-s.was))))

pub returns : goal.returns
returns c =
    living_flag
    (λ is.
    let slot = sym (ap slot_in (c.find.ensures.answer is)) ∙ sym c.unwrap_or.ensures ∙ c.in_ok-s.was in
    let look = c.record-r.ensures.keyed is _ slot in (
      elim c.if-r-entry.branch [
        | then-r-entry w ↦ live_seq _ _ look w.if-r-entry.true ∙ sym w.then_some-is
        | else-r-entry w ↦ live_score _ _ look w.if-r-entry.false ∙ sym (ne_eqb _ _ w.if-r-entry.false) ∙ sym w.then_some-is
      ],
      slot,
    ))
    c.then_some.ensures
