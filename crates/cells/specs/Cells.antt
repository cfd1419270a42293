-- The cells: where they stand, how one is read and written.
use Rattle.std.specs.Prelude.{List, cond, ℕ, zero, suc, ◌+◌, ◌-◌, ◌*◌, ◌/◌, ◌%◌, ◌^◌, ltb, eqb, get_or, set}

-- the key of record s
abbrev pub key_at : List ℕ → ℕ → ℕ
key_at ws s = get_or ws (5 * s) 0

-- the first word of cells
abbrev pub cells_from : ℕ → ℕ
cells_from n = 5 * n + 10

-- how many words of cells, and how many cells
abbrev pub cell_words : ℕ → ℕ
cell_words n = 3 * n + 48

abbrev pub cell_count : ℕ → ℕ
cell_count n = 12 * n + 192

-- the word in which cell p stands
abbrev pub cell_word : ℕ → ℕ → ℕ
cell_word n p = cells_from n + p / 4

-- what the cell's lowest bit counts in its word
unfoldable pub weight : ℕ → ℕ
weight p = 2 ^ (p % 4 * 16)

-- cell p
unfoldable pub cell_at : List ℕ → ℕ → ℕ → ℕ
cell_at ws n p = get_or ws (cell_word n p) 0 / weight p % 65536

-- ws with v in cell p
unfoldable pub set_cell : List ℕ → ℕ → ℕ → ℕ → List ℕ
set_cell ws n p v = set ws (cell_word n p) (get_or ws (cell_word n p) 0 - cell_at ws n p * weight p + v * weight p)

-- ws with 0 in f words from b on
unfoldable pub zeroed : List ℕ → ℕ → ℕ → List ℕ
zeroed ws b zero = ws
zeroed ws b (suc f) = zeroed (set ws b 0) (b + 1) f

-- a cell whose record is gone
abbrev pub tombstone : ℕ
tombstone = 65535

-- the cell after p, round the end
unfoldable pub cell_after : ℕ → ℕ → ℕ
cell_after n p = cond (ltb (p + 1) (cell_count n)) (p + 1) 0

-- the cell where a key's probes start
unfoldable pub home_of : ℕ → ℕ → ℕ
home_of n k = (k % 4294967296 * 1640531527 + k / 4294967296 * 1540483477) % 4294967296 * cell_count n / 4294967296

-- ws with cell p emptied: as never used where no probe goes on to the cell after it
unfoldable pub erased : List ℕ → ℕ → ℕ → List ℕ
erased ws n p = set_cell ws n p (cond (eqb (cell_at ws n (cell_after n p)) 0) 0 tombstone)
