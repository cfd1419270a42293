use Rattle.replay.specs.Runs.{Run}
use Rattle.replay.proofs.layer.Layer.run.Given as goal

-- the first i calls have run
abbrev pub invariant-loop-i : goal.invariant-loop-i
invariant-loop-i g l = Run g.Self.Layer.Ran l.calls l.initial.words l.initial.layer l.initial.answers l.i l.words l.layer l.answers
