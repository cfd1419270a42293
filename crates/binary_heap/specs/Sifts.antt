-- How an entry moves to its level, swap by swap.
use Rattle.std.specs.Prelude.{◌≡◌, true, false, cond, ◌||◌, List, ℕ, ◌+◌, ◌*◌, ◌<◌, ◌≤◌, leb}
use Rattle.binary_heap.specs.Order.{le}
use Rattle.binary_heap.specs.Entries.{entry_at, swap_at}
use Rattle.binary_heap.specs.Heap.{parent}

-- entry i of ws goes up until its parent is not after it, and leaves ws'; the root counts as its own parent
pub data Rises : List ℕ → ℕ → List ℕ → Type 0 where
  stays : {ws : List ℕ} {i : ℕ} → le (entry_at ws (parent i)) (entry_at ws i) ≡ true → Rises ws i ws
  climbs : {ws ws' : List ℕ} {i : ℕ} → 0 < i → le (entry_at ws (parent i)) (entry_at ws i) ≡ false
      → Rises (swap_at ws i (parent i)) (parent i) ws' → Rises ws i ws'

-- of the children of entry i among the first n the one that is not after the other, the left one if both are the same
unfoldable pub child_of : List ℕ → ℕ → ℕ → ℕ
child_of ws n i = cond (leb n (2 * i + 2) || le (entry_at ws (2 * i + 1)) (entry_at ws (2 * i + 2))) (2 * i + 1) (2 * i + 2)

-- entry i of the first n of ws goes down until it is after no child, and leaves ws'
pub data Sinks : List ℕ → ℕ → ℕ → List ℕ → Type 0 where
  leaf : {ws : List ℕ} {n i : ℕ} → n ≤ 2 * i + 1 → Sinks ws n i ws
  stays : {ws : List ℕ} {n i : ℕ} → 2 * i + 1 < n → le (entry_at ws i) (entry_at ws (child_of ws n i)) ≡ true → Sinks ws n i ws
  drops : {ws ws' : List ℕ} {n i : ℕ} → 2 * i + 1 < n → le (entry_at ws i) (entry_at ws (child_of ws n i)) ≡ false
      → Sinks (swap_at ws (child_of ws n i) i) n (child_of ws n i) ws' → Sinks ws n i ws'
