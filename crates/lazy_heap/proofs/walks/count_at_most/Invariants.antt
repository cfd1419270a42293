use Rattle.std.specs.Prelude.{Some}
use Rattle.lazy_heap.proofs.Downward.{Counting}
use Rattle.lazy_heap.proofs.walks.count_at_most.Given as goal

abbrev pub invariant-loop-turn : goal.invariant-loop-turn
invariant-loop-turn l = Counting l.words l.scores l.score l.n l.turn (Some l.slot)
