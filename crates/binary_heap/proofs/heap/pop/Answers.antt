use native.Mathlib.Omega.{arith}
use Rattle.binary_heap.proofs.Root.{peeked_root}
use Rattle.binary_heap.proofs.Popping.{popping_root}
use Rattle.binary_heap.proofs.heap.pop.Goals as goal

pub get-moved-requires : goal.get-moved-requires
get-moved-requires c = let r = peeked_root c.in_ok-root.ensures in omega arith

pub put-requires : goal.put-requires
put-requires c = let r = peeked_root c.in_ok-root.ensures in omega arith

pub sift_down-requires : goal.sift_down-requires
sift_down-requires c = let r = peeked_root c.in_ok-root.ensures in omega arith

pub returns : goal.returns
returns c = popping_root _ (peeked_root c.in_ok-root.ensures) c.get-moved.ensures c.put.ensures c.sift_down.ensures
