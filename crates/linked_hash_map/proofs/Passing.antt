-- The first cell passed that holds no record, in a probe: none, or one of the cells. `probe_from` counts none as the cell
-- past the last.
use mathlib.Core.Path.{◌≡◌, refl, sym, ◌∙◌}
use mathlib.Core.List.{List}
use Prim.Native.Nat.{ℕ, ◌-◌, ◌<◌, ◌≤◌}
use native.Mathlib.Omega.{arith}
use Rattle.std.specs.Prelude.{Option, Some, None, IfSome, MatchOption, unwrap_or}
use Rattle.std.specs.Option.{option_or}
use Rattle.cells.specs.declared.Probe.{Probe}
use Rattle.cells.specs.declared.Probe.TheVariants.{Free, Full}
use Rattle.cells.specs.Cells.{cell_count, cell_at, cell_after}
use Rattle.cells.specs.Probe.{probe_from}
use Rattle.cells.proofs.Probing.{on_had, on_new, turn_had, turn_new, out_had, out_full}

abbrev pub IsCell : ℕ → Option ℕ → Type 0
IsCell n o = IfSome o (λ b. b < cell_count n)

module _ (ws : List ℕ) (n k f p : ℕ) where
  -- a cell never used
  pub offers : (o : Option ℕ) → IsCell n o → 0 < f → cell_at ws n p ≡ 0 → Free (unwrap_or o p) ≡ probe_from ws n k f p (unwrap_or o (cell_count n))
  offers (Some b) low h e = sym (on_had ws n k f p b h e low)
  offers None low h e = sym (on_new ws n k f p (cell_count n) h e (omega arith))

  -- a cell whose record is gone
  pub passes : (o : Option ℕ) → IsCell n o → 0 < f → (q : ℕ) (r : Probe) → q ≡ cell_after n p → probe_from ws n k f p (unwrap_or o (cell_count n)) ≡ r → (cell_at ws n p ≡ 0 → ⊥) → n < cell_at ws n p → probe_from ws n k (f - 1) q (unwrap_or (option_or o (Some p)) (cell_count n)) ≡ r
  passes (Some b) low h q r nx inv z l = turn_had ws n k f p b h q b r nx inv refl z l low
  passes None low h q r nx inv z l = turn_new ws n k f p (cell_count n) h q p r nx inv refl z l (omega arith)

  -- no cell left
  pub ends : (o : Option ℕ) → IsCell n o → f ≤ 0 → (r : Probe) → MatchOption o (r ≡ Full) (λ b. r ≡ Free b) → r ≡ probe_from ws n k f p (unwrap_or o (cell_count n))
  ends (Some b) low h r e = e ∙ out_had ws n k f p b h low
  ends None low h r e = e ∙ out_full ws n k f p (cell_count n) h (omega arith)

pub is_cell : (n p : ℕ) (o : Option ℕ) → IsCell n o → p < cell_count n → IsCell n (option_or o (Some p))
is_cell n p (Some b) low h = low
is_cell n p None low h = h
