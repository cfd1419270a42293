-- A turn adds one call, or finds that the next is none.
use mathlib.Core.Path.{◌≡◌}
use native.Mathlib.Omega.{arith}
use Rattle.replay_expiring.specs.Runs.{none, more}
use Rattle.replay_expiring.proofs.list.run.Goals as goal

pub loop-i-init : goal.loop-i-init
loop-i-init c = none

pub returns-then-operation-ge-OPERATIONS : goal.returns-then-operation-ge-OPERATIONS
returns-then-operation-ge-OPERATIONS c = (record { within = omega (arith, c.loop-i-test.true); all = λ _. rw c.operation_at-operation.ensures at c.if-operation-ge-OPERATIONS.true }, c.loop-i.invariant)

pub loop-i-preserved : goal.loop-i-preserved
loop-i-preserved c = more c.loop-i.invariant c.turn.ensures

pub returns : goal.returns
returns c =
    let e : c.loop-i.i ≡ c.args.room = omega (arith, c.loop-i-test.false, c.loop-i.auto.i-end) in
    (record { within = omega arith; all = λ h. absurd (omega (arith, h)) }, rw e at c.loop-i.invariant)
