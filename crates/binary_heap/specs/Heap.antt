-- What a heap in words is, and which entries it stands for.
use Rattle.std.specs.Prelude.{◌≡◌, Bool, true, ◌&&◌, List, [], ◌∷◌, ℕ, ◌-◌, ◌*◌, ◌/◌, ◌<◌, ◌≤◌, leb, length, Option, None, Some}
use Rattle.binary_heap.specs.declared.entries.Entry.{Entry}
use Rattle.binary_heap.specs.Order.{le, sort}
use Rattle.binary_heap.specs.Entries.{entry_at, entries_of}

-- n entries are within the limit, and l words are enough for them
unfoldable pub fit : ℕ → ℕ → Bool
fit n l = leb n 32769 && leb (3 * n) l

-- the same, as facts
pub record Room (l n : ℕ) : Type 0 where
  pub limit : n ≤ 32769
  pub words : 3 * n ≤ l

-- the parent of entry i
abbrev pub parent : ℕ → ℕ
parent i = (i - 1) / 2

-- of the first n entries each but the root has a parent that is not after it
unfoldable pub Ordered : List ℕ → ℕ → Type 0
Ordered ws n = (i : ℕ) → 0 < i → i < n → le (entry_at ws (parent i)) (entry_at ws i) ≡ true

-- the first n entries are a heap
pub record IsHeap (ws : List ℕ) (n : ℕ) : Type 0 where
  pub room : Room (length ws) n
  pub ordered : Ordered ws n

-- the entries of a heap in ascending order: all that the layers above see of it
unfoldable pub model_of : List ℕ → ℕ → List Entry
model_of ws n = sort (entries_of ws n)

-- the first of a list, and what is left without it
abbrev pub first : List Entry → Option Entry
first [] = None
first (e ∷ l) = Some e

abbrev pub rest : List Entry → List Entry
rest [] = []
rest (e ∷ l) = l
