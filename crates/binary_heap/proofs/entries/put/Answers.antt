use mathlib.Core.Path.{refl}
use native.Mathlib.Omega.{arith}
use lib.ListN.{length-set}
use Rattle.binary_heap.specs.Entries.{put_at}
use Rattle.binary_heap.proofs.entries.put.Goals as goal

pub bounds-words-i-2 : goal.bounds-words-i-2
unfolding put_at
bounds-words-i-2 c = simp length-set (omega arith)

pub bounds-words-i-3 : goal.bounds-words-i-3
unfolding put_at
bounds-words-i-3 c = simp length-set (omega arith)

pub returns : goal.returns
unfolding put_at
returns c = refl
