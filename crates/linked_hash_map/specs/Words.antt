-- How many words a map takes, and what its calls do to the words as words.
use Rattle.std.specs.Prelude.{◌≡◌, cond, List, ℕ, zero, suc, ◌+◌, ◌*◌, ◌≤◌, ltb, length, get_or, set}
use Rattle.rings.specs.Ring.{next, joined, attached, moved, spliced}
use Rattle.cells.specs.Cells.{key_at, cells_from, cell_words, set_cell, erased, zeroed}
use Rattle.cells.specs.Probe.{entered}
use Rattle.linked_hash_map.specs.declared.map.Record.{Record}

-- the words of a map with room for n records
abbrev pub words_for : ℕ → ℕ
words_for n = 8 * n + 58

-- n records are within the limit, and l words are enough for them
pub record Room (l n : ℕ) : Type 0 where
  pub limit : n ≤ 4096
  pub words : words_for n ≤ l

-- l words hold N nodes
pub record Nodes (l N : ℕ) : Type 0 where
  pub limit : N ≤ 4098
  pub words : 5 * N ≤ l

-- the record at slot s
abbrev pub record_at : List ℕ → ℕ → Record
record_at ws s = record { key = key_at ws s; first = get_or ws (5 * s + 1) 0; second = get_or ws (5 * s + 2) 0 }

-- ws with a record written at slot s
unfoldable pub written : List ℕ → ℕ → Record → List ℕ
written ws s r = set (set (set ws (5 * s) r.key) (5 * s + 1) r.first) (5 * s + 2) r.second

-- ws with a record written over the one at slot s, which moves to the front
unfoldable pub replaced : List ℕ → ℕ → ℕ → Record → List ℕ
replaced ws n s r = moved (n + 2) (written ws s r) n s

-- ws with cell c emptied and the record at slot s free
unfoldable pub taken_out : List ℕ → ℕ → ℕ → ℕ → List ℕ
taken_out ws n c s = moved (n + 2) (erased ws n c) (n + 1) s

-- ws with a record written at the free slot s, entered at cell c and put at the front
unfoldable pub put_in : List ℕ → ℕ → ℕ → ℕ → Record → List ℕ
put_in ws n c s r = moved (n + 2) (set_cell (written ws s r) n c (s + 1)) n s

-- ws with nodes i, i + 1, .. put at the front of the free ring, f of them
unfoldable pub filled : List ℕ → ℕ → ℕ → ℕ → List ℕ
filled ws n i zero = ws
filled ws n i (suc f) = filled (attached (n + 2) ws (n + 1) i) n (i + 1) f

-- ws with every record free and no cell used
unfoldable pub emptied : List ℕ → ℕ → List ℕ
emptied ws n = zeroed (filled (joined (n + 2) (joined (n + 2) ws n n) (n + 1) (n + 1)) n 0 n) (cells_from n) (cell_words n)

-- ws with the live ring put into the free one and no cell used
unfoldable pub wiped : List ℕ → ℕ → List ℕ
wiped ws n = zeroed (spliced (n + 2) ws n (n + 1)) (cells_from n) (cell_words n)

-- ws with k records entered, from x on by the next links, up to a link that is no record
unfoldable pub entered_from : List ℕ → ℕ → ℕ → ℕ → List ℕ
entered_from ws n zero x = ws
entered_from ws n (suc k) x = cond (ltb x n) (entered_from (entered ws n x) n k (next (entered ws n x) x)) ws

-- ws with the cells cleared and the live records entered anew
unfoldable pub refilled : List ℕ → ℕ → ℕ → List ℕ
refilled ws n k = let z = zeroed ws (cells_from n) (cell_words n) in entered_from z n k (next z n)

-- the words past a map's own are untouched
pub record Kept (n : ℕ) (ws ws' : List ℕ) : Type 0 where
  pub size : length ws' ≡ length ws
  pub past : (j : ℕ) → words_for n ≤ j → get_or ws' j 0 ≡ get_or ws j 0
