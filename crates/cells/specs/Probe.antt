-- Linear probing: what a probe finds, and which cell it offers for a new record.
use Rattle.std.specs.Prelude.{List, [], ◌∷◌, cond, ℕ, zero, suc, ◌+◌, ◌-◌, ltb, leb, eqb}
use Rattle.cells.specs.declared.Probe.{Probe}
use Rattle.cells.specs.declared.Probe.TheVariants.{At, Free, Full}
use Rattle.cells.specs.Cells.{key_at, cell_count, cell_at, set_cell, cell_after, home_of}

-- the first of two cells, where one that is no cell is none
abbrev pub first_of : ℕ → ℕ → ℕ → ℕ
first_of n b p = cond (ltb b (cell_count n)) b p

-- the probe of f cells at most from cell p on, with b the first cell passed that holds no record
unfoldable pub probe_from : List ℕ → ℕ → ℕ → ℕ → ℕ → ℕ → Probe
probe_from ws n k zero p b = cond (ltb b (cell_count n)) (Free b) Full
probe_from ws n k (suc f) p b =
    cond (eqb (cell_at ws n p) 0)
    (Free (first_of n b p))
    (cond (leb (cell_at ws n p) n)
    (cond (eqb (key_at ws (cell_at ws n p - 1)) k) (At p (cell_at ws n p - 1)) (probe_from ws n k f (cell_after n p) b))
    (probe_from ws n k f (cell_after n p) (first_of n b p)))

-- the probe of a key: every cell at most once, from its home on
unfoldable pub probe : List ℕ → ℕ → ℕ → Probe
probe ws n k = probe_from ws n k (cell_count n) (home_of n k) (cell_count n)

abbrev pub taken_by : List ℕ → ℕ → ℕ → Probe → List ℕ
taken_by ws n s (At c r) = ws
taken_by ws n s (Free c) = set_cell ws n c (s + 1)
taken_by ws n s Full = ws

-- ws with record s entered in the cell that its key's probe offers
unfoldable pub entered : List ℕ → ℕ → ℕ → List ℕ
entered ws n s = taken_by ws n s (probe ws n (key_at ws s))

-- ws with the records of a list entered, first to last
unfoldable pub entered_all : List ℕ → ℕ → List ℕ → List ℕ
entered_all ws n [] = ws
entered_all ws n (s ∷ l) = entered_all (entered ws n s) n l
