use Rattle.expiring.proofs.PurgeLoop.{Progress}
use Rattle.expiring.proofs.expiring.Expiring.purge_within.Given as goal

abbrev pub invariant-loop-count : goal.invariant-loop-count
invariant-loop-count l = Progress l.initial.words l.initial.self l.tick l.words l.self l.count l.stale
