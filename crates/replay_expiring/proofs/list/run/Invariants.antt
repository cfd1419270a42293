use Rattle.replay_expiring.specs.Runs.{Run}
use Rattle.replay_expiring.proofs.list.run.Given as goal

-- the calls so far have run
abbrev pub invariant-loop-i : goal.invariant-loop-i
invariant-loop-i l = Run l.calls l.initial.numbers l.initial.words l.initial.answers l.i l.numbers l.words l.answers
