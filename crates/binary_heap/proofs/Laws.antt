-- What the layers above cite, with the words out of sight.
use mathlib.Core.Path.{◌≡◌, refl, ap, ◌∙◌}
use mathlib.Core.List.{List, [], ◌∷◌, Memᴰ}
use Prim.Native.Nat.{ℕ, ◌*◌, ◌<◌, ◌≤◌}
use native.Mathlib.Omega.{arith}
use lib.ListN.{length, get_or}
use Rattle.binary_heap.specs.declared.entries.Entry.{Entry}
use Rattle.binary_heap.specs.Order.{sort, Sorted, count, at_most}
use Rattle.binary_heap.specs.Entries.{entry_at, entries_of}
use Rattle.binary_heap.specs.Heap.{parent, Ordered, IsHeap, model_of}
use Rattle.binary_heap.specs.Least.{Least}
use Rattle.binary_heap.specs.Calls.{Counting}
use Rattle.binary_heap.proofs.Order.{le_at}
use Rattle.binary_heap.proofs.Words.{entry_kept}
use Rattle.binary_heap.proofs.Places.{entries_length, entries_same, count_place, place_count}
use Rattle.binary_heap.proofs.Limits.{room_fits}
use Rattle.binary_heap.proofs.Least.{sort_least}
-- lists of entries
pub use Rattle.binary_heap.proofs.Order.{le_by_score, le_by_seq, le_scores, le_same, le_then, le_total, le_both}
pub use Rattle.binary_heap.proofs.Counts.{mem_count, count_mem}
pub use Rattle.binary_heap.proofs.Sorting.{insert_length, insert_count, insert_cases, insert_new, insert_old, insert_least, insert_sorted, insert_swap}
pub use Rattle.binary_heap.proofs.Sorting.{sort_length, sort_count, sort_mem, mem_sort, sort_sorted, sort_same, sorted_same}
pub use Rattle.binary_heap.proofs.Least.{least_unique, first_least}

-- no entries
pub heap_none : (ws : List ℕ) → IsHeap ws 0
unfolding Ordered
heap_none ws = record { room = record { limit = omega arith; words = omega arith }; ordered = λ k a b. absurd (omega arith) }

pub model_none : (ws : List ℕ) → model_of ws 0 ≡ []
unfolding model_of entries_of sort
model_none ws = refl

module _ (ws : List ℕ) (n : ℕ) where
  pub model_length : length (model_of ws n) ≡ n
  unfolding model_of
  model_length = sort_length (entries_of ws n) ∙ entries_length ws n

  pub model_sorted : Sorted (model_of ws n)
  unfolding model_of
  model_sorted = sort_sorted (entries_of ws n)

  pub model_count : (e : Entry) → count e (model_of ws n) ≡ count e (entries_of ws n)
  unfolding model_of
  model_count e = sort_count e (entries_of ws n)

  pub model_mem : (e : Entry) → Memᴰ e (model_of ws n) → Memᴰ e (entries_of ws n)
  unfolding model_of
  model_mem e m = sort_mem e (entries_of ws n) m

  pub mem_model : (e : Entry) → Memᴰ e (entries_of ws n) → Memᴰ e (model_of ws n)
  unfolding model_of
  mem_model e m = mem_sort e (entries_of ws n) m

  -- the members of the model are the entries at the places
  pub model_place : (e : Entry) → Memᴰ e (model_of ws n) → (i : ℕ) × (i < n) × (entry_at ws i ≡ e)
  model_place e m = place_count e ws n (mem_count e (entries_of ws n) (model_mem e m))

  pub place_model : (i : ℕ) → i < n → Memᴰ (entry_at ws i) (model_of ws n)
  place_model i h = mem_model (entry_at ws i) (count_mem (entry_at ws i) (entries_of ws n) (count_place (entry_at ws i) ws n i h refl))

  -- the model starts with the least entry
  pub model_first : (e : Entry) (l : List Entry) → model_of ws n ≡ e ∷ l → Least e (entries_of ws n)
  unfolding model_of
  model_first e l q = sort_least q

-- words past the entries do not matter
module _ (ws ws' : List ℕ) (n : ℕ) (same : (w : ℕ) → w < 3 * n → get_or ws' w 0 ≡ get_or ws w 0) where
  entry_frame : (k : ℕ) → k < n → entry_at ws' k ≡ entry_at ws k
  entry_frame k h = entry_kept ws ws' k (λ w q. same w (omega arith))

  pub heap_frame : 3 * n ≤ length ws' → IsHeap ws n → IsHeap ws' n
  unfolding Ordered
  heap_frame l h = record {
    room = record { limit = h.room.limit; words = l };
    ordered = λ k a b. le_at (entry_frame (parent k) (omega arith)) (entry_frame k b) (h.ordered k a b);
  }

  pub model_frame : model_of ws' n ≡ model_of ws n
  unfolding model_of
  model_frame = ap sort (entries_same ws ws' n entry_frame)

-- a heap is within the limits, so that its count is told
pub heap_counted : {ws : List ℕ} {n s r : ℕ} → Counting ws n s r → IsHeap ws n → r ≡ at_most s (model_of ws n)
heap_counted c h = c.answer (room_fits h.room)
