-- Entries in words.
use Rattle.std.specs.Prelude.{List, [], ◌∷◌, ◌++◌, ℕ, zero, suc, ◌+◌, ◌*◌, ◌≤◌, get_or, set}
use Rattle.binary_heap.specs.declared.entries.Entry.{Entry}

-- l words hold entry i
abbrev pub Holds : ℕ → ℕ → Type 0
Holds l i = 3 * i + 3 ≤ l

-- entry i
unfoldable pub entry_at : List ℕ → ℕ → Entry
entry_at ws i = record { score = get_or ws (3 * i) 0; seq = get_or ws (3 * i + 1) 0; key = get_or ws (3 * i + 2) 0 }

-- the first n entries, in the order of the words
unfoldable pub entries_of : List ℕ → ℕ → List Entry
entries_of ws zero = []
entries_of ws (suc n) = entries_of ws n ++ (entry_at ws n ∷ [])

-- ws with e as entry i
unfoldable pub put_at : List ℕ → ℕ → Entry → List ℕ
put_at ws i e = set (set (set ws (3 * i) e.score) (3 * i + 1) e.seq) (3 * i + 2) e.key

-- ws with entries i and j exchanged
unfoldable pub swap_at : List ℕ → ℕ → ℕ → List ℕ
swap_at ws i j = put_at (put_at ws i (entry_at ws j)) j (entry_at ws i)
