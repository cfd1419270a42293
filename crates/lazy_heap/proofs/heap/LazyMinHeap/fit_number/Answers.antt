use native.Mathlib.Omega.{arith}
use Rattle.lazy_heap.proofs.Stepping.{fitting_renumbered, fitting_same}
use Rattle.lazy_heap.proofs.heap.LazyMinHeap.fit_number.Goals as goal

pub returns-then-self-lt18446744073709551615 : goal.returns-then-self-lt18446744073709551615
returns-then-self-lt18446744073709551615 c = fitting_same (omega arith) c.if-self-lt18446744073709551615.true

pub returns : goal.returns
returns c = fitting_renumbered (omega arith) c.if-self-lt18446744073709551615.false c.renumber_within.ensures
