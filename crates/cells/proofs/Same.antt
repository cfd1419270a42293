-- A probe sees the cells, and the keys of the records in them, and nothing else.
use mathlib.Core.Path.{◌≡◌, refl}
use mathlib.Core.Bool.{Bool, true, false}
use mathlib.Core.List.{List}
use Prim.Native.Nat.{ℕ, zero, suc, ◌+◌, ◌-◌, ◌<◌, ◌≤◌}
use native.Mathlib.Omega.{arith}
use lib.Dec.{leb, eqb}
use borrow.Author.Tests.{eqb-false, leb-true}
use Rattle.cells.specs.Cells.{key_at, cell_count, cell_at, cell_after, home_of}
use Rattle.cells.specs.Probe.{probe_from, probe}
use Rattle.cells.proofs.Probing.{home_lt, after_lt}

module _ (ws ws' : List ℕ) (n k : ℕ) (cells : (j : ℕ) → j < cell_count n → cell_at ws' n j ≡ cell_at ws n j) (keys : (j x : ℕ) → j < cell_count n → x < n → cell_at ws n j ≡ x + 1 → key_at ws' x ≡ key_at ws x) where
  from_same : (f p b : ℕ) → p < cell_count n → probe_from ws' n k f p b ≡ probe_from ws n k f p b
  unfolding probe_from
  from_same zero p b h = refl
  from_same (suc f) p b h = go (eqb (cell_at ws n p) 0) refl (λ c. from_same f (cell_after n p) c (after_lt n p h))
    where
      in_cell : (z : Bool) → leb (cell_at ws n p) n ≡ z → eqb (cell_at ws n p) 0 ≡ false → ((c : ℕ) → probe_from ws' n k f (cell_after n p) c ≡ probe_from ws n k f (cell_after n p) c) → probe_from ws' n k (suc f) p b ≡ probe_from ws n k (suc f) p b
      in_cell true e z ih =
          let l : cell_at ws n p ≤ n = leb-true _ _ e in
          let d : cell_at ws n p ≡ 0 → ⊥ = eqb-false _ _ z in
          let q : key_at ws' (cell_at ws n p - 1) ≡ key_at ws (cell_at ws n p - 1) = keys p (cell_at ws n p - 1) h (omega arith) (omega arith) in
          simp (cells p h, z, e, q, ih)
      in_cell false e z ih = simp (cells p h, z, e, ih)

      go : (z : Bool) → eqb (cell_at ws n p) 0 ≡ z → ((c : ℕ) → probe_from ws' n k f (cell_after n p) c ≡ probe_from ws n k f (cell_after n p) c) → probe_from ws' n k (suc f) p b ≡ probe_from ws n k (suc f) p b
      go true z ih = simp (cells p h, z)
      go false z ih = in_cell (leb (cell_at ws n p) n) refl z ih

  pub probe_same : probe ws' n k ≡ probe ws n k
  unfolding probe
  probe_same = from_same (cell_count n) (home_of n k) (cell_count n) (home_lt n k)
