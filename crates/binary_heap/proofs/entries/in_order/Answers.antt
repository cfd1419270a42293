use Rattle.binary_heap.proofs.Derived.{derived_le}
use Rattle.binary_heap.proofs.entries.in_order.Goals as goal

pub returns : goal.returns
returns c = let d = derived_le c.get.result c.get-2.result in cc
