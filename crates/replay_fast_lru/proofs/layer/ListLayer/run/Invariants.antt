use Rattle.std.proofs.Common.{◌-◌, ◌≤◌}
use Rattle.replay.specs.Runs.{Run}
use Rattle.replay_fast_lru.specs.Steps.{Ran}
use Rattle.replay_fast_lru.proofs.layer.ListLayer.run.Given as goal

-- the first i calls have run
abbrev pub invariant-loop-i : goal.invariant-loop-i
invariant-loop-i l = (l.i ≤ l.count) × Run Ran l.calls l.initial.words l.initial.lru l.initial.answers l.i l.words l.lru l.answers

abbrev pub decreases-loop-i : goal.decreases-loop-i
decreases-loop-i l = l.count - l.i
