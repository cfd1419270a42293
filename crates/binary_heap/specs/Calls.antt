-- What each call promises: on any words at all, and on a heap.
use Rattle.std.specs.Prelude.{◌≡◌, Bool, true, false, List, ℕ, ◌+◌, ◌-◌, ◌*◌, ◌<◌, ◌≤◌, length, get_or, Option, None, Some}
use Rattle.binary_heap.specs.declared.entries.Entry.{Entry}
use Rattle.binary_heap.specs.Order.{insert, at_most}
use Rattle.binary_heap.specs.Entries.{entry_at}
use Rattle.binary_heap.specs.Heap.{fit, IsHeap, model_of, first, rest}

-- the words past the first n entries are untouched
pub record Kept (n : ℕ) (ws ws' : List ℕ) : Type 0 where
  pub size : length ws' ≡ length ws
  pub past : (w : ℕ) → 3 * n ≤ w → get_or ws' w 0 ≡ get_or ws w 0

-- `push`: the entry at its place in the order
pub record Pushing (ws : List ℕ) (n : ℕ) (e : Entry) (ws' : List ℕ) (n' : ℕ) (r : Bool) : Type 0 where
  pub refused : fit (n + 1) (length ws) ≡ false → (r ≡ false) × (n' ≡ n) × (ws' ≡ ws)
  pub done : fit (n + 1) (length ws) ≡ true → (r ≡ true) × (n' ≡ n + 1)
  pub heap : fit (n + 1) (length ws) ≡ true → IsHeap ws n → IsHeap ws' (n + 1)
  pub model : fit (n + 1) (length ws) ≡ true → model_of ws' (n + 1) ≡ insert e (model_of ws n)
  pub kept : Kept (n + 1) ws ws'

-- `peek`: the least entry
pub record Peeking (ws : List ℕ) (n : ℕ) (r : Option Entry) : Type 0 where
  pub refused : fit n (length ws) ≡ false → r ≡ None
  pub none : n ≡ 0 → r ≡ None
  pub root : fit n (length ws) ≡ true → 0 < n → r ≡ Some (entry_at ws 0)
  pub answer : IsHeap ws n → r ≡ first (model_of ws n)

-- `pop`: the least entry, which is then gone
pub record Popping (ws : List ℕ) (n : ℕ) (ws' : List ℕ) (n' : ℕ) (r : Option Entry) : Type 0 where
  pub refused : fit n (length ws) ≡ false → (r ≡ None) × (n' ≡ n) × (ws' ≡ ws)
  pub shorter : fit n (length ws) ≡ true → n' ≡ n - 1
  pub answer : IsHeap ws n → r ≡ first (model_of ws n)
  pub heap : IsHeap ws n → IsHeap ws' n'
  pub model : IsHeap ws n → model_of ws' n' ≡ rest (model_of ws n)
  pub kept : Kept n ws ws'

-- `entry_at`: entry i, and zeros where there is none
pub record Reading (ws : List ℕ) (n i : ℕ) (r : Entry) : Type 0 where
  pub refused : fit n (length ws) ≡ false → r ≡ record { score = 0; seq = 0; key = 0 }
  pub past : n ≤ i → r ≡ record { score = 0; seq = 0; key = 0 }
  pub answer : fit n (length ws) ≡ true → i < n → r ≡ entry_at ws i

-- `count_at_most`: how many have at most a score
pub record Counting (ws : List ℕ) (n s r : ℕ) : Type 0 where
  pub refused : fit n (length ws) ≡ false → r ≡ 0
  pub answer : fit n (length ws) ≡ true → r ≡ at_most s (model_of ws n)

-- `is_heap`: yes exactly for a heap
pub record Checking (ws : List ℕ) (n : ℕ) (r : Bool) : Type 0 where
  pub sound : r ≡ true → IsHeap ws n
  pub complete : IsHeap ws n → r ≡ true
