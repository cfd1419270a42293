use mathlib.Core.Path.{◌≡◌}
use Prim.Native.Nat.{◌-◌}
use native.Mathlib.Omega.{arith}
use Rattle.lazy_heap.proofs.Refilling.{numbering_start, numbering_on}
use Rattle.lazy_heap.proofs.Stepping.{numbering, numbering_none}
use Rattle.lazy_heap.proofs.walks.number.Goals as goal

pub returns-then-scores : goal.returns-then-scores
returns-then-scores c = numbering_none _ _ c.if-scores.true

pub loop-number-init : goal.loop-number-init
loop-number-init c = let all : c.args.scores.len - 0 ≡ c.args.scores.len = omega arith in rw (all, c.unwrap_or-slot.ensures) (numbering_start _ _ c.last.ensures)

pub loop-number-preserved : goal.loop-number-preserved
loop-number-preserved c = numbering_on c.loop-number.invariant (omega arith) c.record_at-r.ensures c.set_payload.ensures c.slot_before-slot.ensures

pub returns : goal.returns
returns c = numbering c.loop-number.invariant (λ is. omega arith)
