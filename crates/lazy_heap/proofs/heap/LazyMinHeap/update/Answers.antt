use mathlib.Core.Path.{sym, ◌∙◌}
use Rattle.lazy_heap.proofs.Calling.{limits_room, place_some}
use Rattle.lazy_heap.proofs.Updating.{over_full, updating, updating_full}
use Rattle.lazy_heap.proofs.heap.LazyMinHeap.update.Goals as goal

pub unwrap-place-requires : goal.unwrap-place-requires
unwrap-place-requires c = place_some _ _ _ c.seek.ensures (limits_room _ _ (sym c.admitted.ensures ∙ c.in_ok-admitted.was))

pub returns-then-is_over : goal.returns-then-is_over
returns-then-is_over c = updating_full (λ p. over_full _ _ (sym c.seek.ensures ∙ c.unwrap-place.ensures) p ∙ sym c.is_over.ensures ∙ c.if-is_over.true) (limits_room _ _ (sym c.admitted.ensures ∙ c.in_ok-admitted.was))

pub returns : goal.returns
returns c = updating c.fit_number-renumbered.ensures c.hold-answer.ensures c.fit_entries-rebuilt.ensures (limits_room _ _ (sym c.admitted.ensures ∙ c.in_ok-admitted.was)) (λ p. over_full _ _ (sym c.seek.ensures ∙ c.unwrap-place.ensures) p ∙ sym c.is_over.ensures ∙ c.if-is_over.false) c.sum.ensures
