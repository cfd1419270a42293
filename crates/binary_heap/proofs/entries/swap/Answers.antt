use Rattle.binary_heap.specs.Entries.{swap_at}
use Rattle.binary_heap.proofs.entries.swap.Goals as goal

pub returns : goal.returns
unfolding swap_at
returns c = cc
