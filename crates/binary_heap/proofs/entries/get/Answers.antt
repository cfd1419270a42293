use mathlib.Core.Path.{refl}
use Rattle.binary_heap.specs.Entries.{entry_at}
use Rattle.binary_heap.proofs.entries.get.Goals as goal

pub returns : goal.returns
unfolding entry_at
returns c = refl
