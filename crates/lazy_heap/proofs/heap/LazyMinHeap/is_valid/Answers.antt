use Rattle.lazy_heap.proofs.Checks.{blank, agreeing}
use Rattle.lazy_heap.proofs.heap.LazyMinHeap.is_valid.Goals as goal

pub returns-then-tally_entries : goal.returns-then-tally_entries
returns-then-tally_entries c = agreeing c.tally_entries.ensures c.if-tally_entries.true (blank _ c.requires.limit) c.records_valid.ensures
