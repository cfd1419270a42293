use mathlib.Core.Path.{sym, ◌∙◌}
use native.Mathlib.Omega.{arith}
use Rattle.lazy_heap.proofs.Asking.{none_above, first_above, counting_entries}
use Rattle.lazy_heap.proofs.Settling.{first_none}
use Rattle.lazy_heap.proofs.Best.{first_some}
use Rattle.lazy_heap.proofs.heap.LazyMinHeap.count_within.Goals as goal

pub returns-then-score-e : goal.returns-then-score-e
returns-then-score-e c = record { answer = λ p v. sym (first_above _ v c.args.score _ _ (first_some _ _ (sym (c.top.ensures.answer p) ∙ c.in-Some.is)) (omega arith)) }

pub returns-then-self : goal.returns-then-self
returns-then-self c = counting_entries (omega arith) c.count_entries.ensures

pub returns-in_default : goal.returns-in_default
returns-in_default c = record { answer = λ p v. sym (none_above _ v _ (first_none _ (sym (c.top.ensures.answer p) ∙ c.in_default.is))) }
