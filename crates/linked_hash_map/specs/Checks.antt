-- What the parts of the check say.
use Rattle.std.specs.Prelude.{Bool, true, false, ◌&&◌, List, ℕ, zero, suc, ltb, eqb}
use Rattle.rings.specs.Ring.{next}
use Rattle.cells.specs.declared.Probe.{Probe}
use Rattle.cells.specs.declared.Probe.TheVariants as probed
use Rattle.cells.specs.Cells.{key_at}
use Rattle.cells.specs.Probe.{probe}

abbrev pub ends_at : ℕ → Probe → Bool
ends_at s (probed.At c r) = eqb r s
ends_at s (probed.Free c) = false
ends_at s probed.Full = false

-- the probe of the key of record s ends there
unfoldable pub finds_of : List ℕ → ℕ → ℕ → Bool
finds_of ws n s = ends_at s (probe ws n (key_at ws s))

-- so do those of k records from x on, by the next links
unfoldable pub finds_all : List ℕ → ℕ → ℕ → ℕ → Bool
finds_all ws n zero x = true
finds_all ws n (suc k) x = ltb x n && (finds_of ws n x && finds_all ws n k (next ws x))
