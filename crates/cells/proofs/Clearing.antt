-- Words set to 0, from a first one on: no word before or past them changes.
use mathlib.Core.Path.{◌≡◌, refl, ap, ◌∙◌}
use mathlib.Core.List.{List}
use mathlib.Core.Logic.{◌⊎◌, inl, inr, ⊎_elim}
use Prim.Native.Nat.{ℕ, zero, suc, ◌+◌, ◌*◌, ◌/◌, ◌%◌, ◌≤◌, ◌<◌}
use native.Mathlib.Nat.{zero-div, zero-mod}
use native.Mathlib.Decide.{ℕ_discrete}
use native.Mathlib.Omega.{arith}
use lib.ListN.{length, get_or, set, length-set}
use lib.Seq.{get_or-set_same, get_or-set_other}
use Rattle.cells.specs.Cells.{cells_from, cell_words, cell_count, cell_word, weight, cell_at, zeroed}

pub zero_length : (ws : List ℕ) (b f : ℕ) → length (zeroed ws b f) ≡ length ws
unfolding zeroed
zero_length ws b zero = refl
zero_length ws b (suc f) = zero_length (set ws b 0) (b + 1) f ∙ length-set ws b 0

pub zero_outside : (ws : List ℕ) (b f j : ℕ) → (j < b) ⊎ (b + f ≤ j) → get_or (zeroed ws b f) j 0 ≡ get_or ws j 0
unfolding zeroed
zero_outside ws b zero j o = refl
zero_outside ws b (suc f) j o =
    zero_outside (set ws b 0) (b + 1) f j (⊎_elim (λ h. inl (omega arith)) (λ h. inr (omega arith)) o)
    ∙ get_or-set_other ws b j 0 0 (⊎_elim (λ h. omega arith) (λ h. omega arith) o)

pub zero_inside : (ws : List ℕ) (b f j : ℕ) → b + f ≤ length ws → b ≤ j → j < b + f → get_or (zeroed ws b f) j 0 ≡ 0
unfolding zeroed
zero_inside ws b zero j l h g = absurd (omega arith)
zero_inside ws b (suc f) j l h g = go (ℕ_discrete j b) (λ i. zero_inside (set ws b 0) (b + 1) f j (simp length-set (omega arith)) i (omega arith))
  where
    go : Dec (j ≡ b) → (b + 1 ≤ j → get_or (zeroed (set ws b 0) (b + 1) f) j 0 ≡ 0) → get_or (zeroed (set ws b 0) (b + 1) f) j 0 ≡ 0
    go (yes e) ih = zero_outside (set ws b 0) (b + 1) f j (inl (omega arith)) ∙ ap (λ (x : ℕ). get_or (set ws b 0) x 0) e ∙ get_or-set_same ws b 0 0 (omega arith)
    go (no d) ih = ih (omega arith)

pub zero_cell : (ws : List ℕ) (n p : ℕ) → 8 * n + 58 ≤ length ws → p < cell_count n → cell_at (zeroed ws (cells_from n) (cell_words n)) n p ≡ 0
unfolding cell_at
zero_cell ws n p fits h =
    ap (λ (w : ℕ). w / weight p % 65536) (zero_inside ws (cells_from n) (cell_words n) (cell_word n p) (omega arith) (omega arith) (omega arith))
    ∙ ap (λ (w : ℕ). w % 65536) (zero-div (weight p)) ∙ zero-mod 65536
