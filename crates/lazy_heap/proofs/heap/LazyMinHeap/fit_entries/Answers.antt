use mathlib.Core.Path.{sym, ◌∙◌}
use Rattle.lazy_heap.proofs.Stepping.{trimming_rebuilt, trimming_same}
use Rattle.lazy_heap.proofs.heap.LazyMinHeap.fit_entries.Goals as goal

pub returns-then-not-too_many : goal.returns-then-not-too_many
returns-then-not-too_many c = trimming_same _ _ c.args.factor (λ p g. sym c.too_many.ensures ∙ c.if-not-too_many.true)

pub returns : goal.returns
returns c = trimming_rebuilt _ _ c.args.factor (sym c.too_many.ensures ∙ c.if-not-too_many.false) c.rebuild_within.ensures
