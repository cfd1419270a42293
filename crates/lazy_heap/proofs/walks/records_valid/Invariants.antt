use Rattle.lazy_heap.proofs.Downward.{Descending}
use Rattle.lazy_heap.proofs.walks.records_valid.Given as goal

abbrev pub invariant-loop : goal.invariant-loop
invariant-loop l = Descending l.words l.scores l.seq l.tally l.bound l.counter l.slot
