use mathlib.Core.Path.{sym, ◌∙◌}
use Rattle.lazy_heap.proofs.Calling.{handed_on}
use Rattle.expiring.proofs.Limits.{limits_room}
use Rattle.expiring.proofs.Asking.{counted_entries, counted_none}
use Rattle.expiring.proofs.expiring.Expiring.heap_len.Goals as goal

pub returns-in_err-limits : goal.returns-in_err-limits
returns-in_err-limits c = rw (handed_on c.from_residual.ensures) (counted_none (sym c.limits.ensures.told ∙ c.in_err-limits.was))

pub returns : goal.returns
returns c = counted_entries (limits_room _ _ _ (sym c.limits.ensures.told ∙ c.in_ok-limits.was)) (rw c.deadlines.ensures at c.heap_len.ensures)
