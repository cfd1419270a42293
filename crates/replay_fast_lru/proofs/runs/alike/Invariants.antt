use Rattle.std.proofs.Common.{◌≡◌}
use Rattle.replay_fast_lru.specs.Steps.{Onward}
use Rattle.replay_fast_lru.proofs.runs.alike.Given as goal

-- the calls before the i-th have run, and none of another operation was met
abbrev pub invariant-loop-i : goal.invariant-loop-i
invariant-loop-i g l = (l.next ≡ l.count) × Onward l.calls l.from l.count l.initial.words l.initial.list l.initial.answers l.i l.words l.list l.answers
