-- What it means that the cells index some records.
use Rattle.std.specs.Prelude.{◌≡◌, ◌&&◌, cond, ℕ, zero, suc, ◌+◌, ◌-◌, ◌<◌, leb}
use mathlib.Core.List.{List, [], ◌∷◌, Memᴰ}
use Rattle.cells.specs.Cells.{key_at, cell_count, cell_at, cell_after, home_of}

-- from cell p on, v is met within f cells, and no cell before it was never used
pub data Reach (ws : List ℕ) (n v : ℕ) : ℕ → ℕ → Type 0 where
  here : {f p : ℕ} → cell_at ws n p ≡ v → Reach ws n v (suc f) p
  there : {f p : ℕ} → (cell_at ws n p ≡ 0 → ⊥) → Reach ws n v f (cell_after n p) → Reach ws n v (suc f) p

-- the cells index the records of which L holds
pub record Indexed (ws : List ℕ) (n : ℕ) (L : ℕ → Type 0) : Type 0 where
  pub small : (s : ℕ) → L s → s < n
  pub reach : (s : ℕ) → L s → Reach ws n (s + 1) (cell_count n) (home_of n (key_at ws s))
  pub owned : (c s : ℕ) → c < cell_count n → s < n → cell_at ws n c ≡ s + 1 → L s
  pub once : (c d s : ℕ) → c < cell_count n → d < cell_count n → s < n → cell_at ws n c ≡ s + 1 → cell_at ws n d ≡ s + 1 → c ≡ d
  pub apart : (r s : ℕ) → L r → L s → key_at ws r ≡ key_at ws s → r ≡ s

-- the cells index the records of a list
abbrev pub IndexOf : List ℕ → ℕ → List ℕ → Type 0
IndexOf ws n live = Indexed ws n (λ (s : ℕ). Memᴰ s live)

-- the records that the first p cells hold
unfoldable pub held_in : List ℕ → ℕ → ℕ → List ℕ
held_in ws n zero = []
held_in ws n (suc p) =
    cond (leb 1 (cell_at ws n p) && leb (cell_at ws n p) n) ((cell_at ws n p - 1) ∷ held_in ws n p) (held_in ws n p)
