-- The laws of the heap's numbers in words.
use Rattle.std.specs.Prelude.{◌≡◌, List, [], ◌∷◌, ℕ, ◌≤◌, length, get_or, refl}
use Rattle.std.proofs.Common.{arith}
use lib.Seq.{get_or-set_other}
use mathlib.Core.Logic.{◌≢◌}
use Rattle.lazy_heap.specs.declared.heap.LazyMinHeap.{LazyMinHeap}
use Rattle.replay_lazy_heap.specs.Numbers.{heap_in, with_heap}

-- what is stored is read back
pub heap_stored : (ns : List ℕ) (h : LazyMinHeap) → 6 ≤ length ns → heap_in (with_heap ns h) ≡ h
heap_stored [] h q = absurd (omega arith)
heap_stored (_ ∷ []) h q = absurd (omega arith)
heap_stored (_ ∷ _ ∷ []) h q = absurd (omega arith)
heap_stored (_ ∷ _ ∷ _ ∷ []) h q = absurd (omega arith)
heap_stored (_ ∷ _ ∷ _ ∷ _ ∷ []) h q = absurd (omega arith)
heap_stored (_ ∷ _ ∷ _ ∷ _ ∷ _ ∷ []) h q = absurd (omega arith)
heap_stored (_ ∷ _ ∷ _ ∷ _ ∷ _ ∷ _ ∷ ns) h q = refl

-- no other number changes
pub heap_past : (ns : List ℕ) (h : LazyMinHeap) (j : ℕ) → 6 ≤ j → get_or (with_heap ns h) j 0 ≡ get_or ns j 0
heap_past ns h j q =
    let a : j ≢ 0 = omega arith in
    let b : j ≢ 1 = omega arith in
    let c : j ≢ 2 = omega arith in
    let d : j ≢ 3 = omega arith in
    let e : j ≢ 4 = omega arith in
    let f : j ≢ 5 = omega arith in
    simp get_or-set_other
