-- A turn adds one call.
use Rattle.replay.specs.Runs.{none, more}
use Rattle.replay.proofs.layer.Layer.run.Goals as goal

pub loop-i-init : goal.loop-i-init
loop-i-init g c = none

pub loop-i-preserved : goal.loop-i-preserved
loop-i-preserved g c = rw c.store_answer.ensures (more c.loop-i.invariant (rw c.call_at.ensures at c.step-answer.ensures))
