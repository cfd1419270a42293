use mathlib.Core.Path.{refl, sym, ◌∙◌}
use native.Mathlib.Omega.{arith}
use Rattle.lazy_heap.proofs.Downward.{one_if, counting_none, counting_start, counting_on, counting_over, counting_end}
use Rattle.lazy_heap.proofs.walks.count_at_most.Goals as goal

pub returns-then-scores : goal.returns-then-scores
returns-then-scores c = counting_none _ _ _ c.if-scores.true

pub returns-in_default : goal.returns-in_default
returns-in_default c = counting_over (counting_start _ c.first.ensures (sym c.unwrap_or.ensures ∙ c.in_default.is)) (omega arith)

pub loop-turn-init : goal.loop-turn-init
loop-turn-init c = counting_start _ c.first.ensures (sym c.unwrap_or.ensures ∙ c.in-Some.is)

pub returns-in_default-unwrap_or : goal.returns-in_default-unwrap_or
returns-in_default-unwrap_or c = counting_over (counting_on c.loop-turn.invariant refl c.record-r.ensures c.next.ensures (sym c.unwrap_or-in-loop-turn.ensures ∙ c.in_default-unwrap_or.is) (one_if _)) (omega arith)

pub loop-turn-preserved : goal.loop-turn-preserved
loop-turn-preserved c = counting_on c.loop-turn.invariant refl c.record-r.ensures c.next.ensures (sym c.unwrap_or-in-loop-turn.ensures ∙ c.in-Some-unwrap_or.is) (one_if _)

pub returns : goal.returns
returns c = counting_end c.loop-turn.invariant (omega arith)
