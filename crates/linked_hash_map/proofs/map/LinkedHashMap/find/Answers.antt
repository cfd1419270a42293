use mathlib.Core.Path.{sym}
use Rattle.linked_hash_map.proofs.Probed.{err_unfit, ends, ends_not, none_at}
use Rattle.linked_hash_map.proofs.Finding.{finding_refused, finding_at, finding_none}
use Rattle.linked_hash_map.proofs.map.LinkedHashMap.find.Goals as goal

pub returns-in_err-slot : goal.returns-in_err-slot
returns-in_err-slot c = rw (err_unfit _ c.from_residual.ensures.0) (finding_refused _ (ends_not _ _ _ (sym c.in_err-slot.ensures)))

pub returns-in-At : goal.returns-in-At
returns-in-At c = finding_at _ (ends _ _ _ (rw c.in-At.is at (sym c.in_ok-slot.ensures)))

pub returns-in-Free : goal.returns-in-Free
returns-in-Free c = finding_none _ (ends _ _ _ (sym c.in_ok-slot.ensures)) (none_at c.in-Free.is)
