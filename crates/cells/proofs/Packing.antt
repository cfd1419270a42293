-- A cell in its word: a word is the cells above, the cell and the cells below, so that writing one cell is writing one
-- digit, and leaves the quotient above it and the remainder below it as they were.
use mathlib.Core.Path.{◌≡◌, refl, sym, ap, ◌∙◌}
use mathlib.Core.List.{List}
use mathlib.Core.Logic.{◌⊎◌, ⊎_elim, ◌≢◌}
use Prim.Native.Nat.{ℕ, zero, suc, ◌+◌, ◌-◌, ◌*◌, ◌/◌, ◌%◌, ◌^◌, ◌≤◌, ◌<◌}
use native.Mathlib.Nat.{mod-lt, mod-le, div-mul-le_self, div-add-mod', mul-le-mul_right, le_trans}
use native.Mathlib.Decide.{dec_lt, ℕ_discrete}
use native.Mathlib.Omega.{arith}
use lib.Arith.{digits_div, digits_mod}
use lib.Dec.{lit<}
use lib.ListN.{length, get_or, length-set}
use lib.Pow.{pow_pos, field, mod-mod-pow, shr-shr}
use lib.Seq.{get_or-set_same, get_or-set_other}
use Rattle.cells.specs.Cells.{cell_count, cell_word, weight, cell_at, set_cell}

module _ (p : ℕ) where
  -- 1, 65536, 4294967296 or 281474976710656
  pub weight_is : {j : ℕ} → p % 4 ≡ j → weight p ≡ 2 ^ (j * 16)
  unfolding weight
  weight_is e = ap (λ (j : ℕ). 2 ^ (j * 16)) e

  weight_pos : 0 < weight p
  unfolding weight
  weight_pos = pow_pos (p % 4 * 16)

  pub digit_le : (w : ℕ) → w / weight p % 65536 * weight p ≤ w
  digit_le w = le_trans (mul-le-mul_right (weight p) (mod-le (w / weight p) 65536)) (div-mul-le_self w (weight p))

  -- a word with v for its digit at the cell
  module _ (w v : ℕ) where
    put : ℕ
    put = w - w / weight p % 65536 * weight p + v * weight p

    put_split : put ≡ (w / weight p / 65536 * 65536 + v) * weight p + w % weight p
    unfolding put
    put_split = omega (arith, digit_le w, div-add-mod' w (weight p), ap (λ (x : ℕ). x * weight p) (div-add-mod' (w / weight p) 65536))

    put_above : put / weight p ≡ w / weight p / 65536 * 65536 + v
    put_above = ap (λ (x : ℕ). x / weight p) put_split ∙ digits_div (w / weight p / 65536 * 65536 + v) (mod-lt w weight_pos)

    put_below : put % weight p ≡ w % weight p
    put_below = ap (λ (x : ℕ). x % weight p) put_split ∙ digits_mod (w / weight p / 65536 * 65536 + v) (mod-lt w weight_pos)

    put_same : v < 65536 → put / weight p % 65536 ≡ v
    put_same h = ap (λ (x : ℕ). x % 65536) put_above ∙ digits_mod (w / weight p / 65536) h

    pub put_lt : w < 2 ^ 64 → v < 65536 → w - w / weight p % 65536 * weight p + v * weight p < 2 ^ 64
    put_lt h g = four (p % 4) refl (mod-lt p (lit< tt))
      where
        four : (j : ℕ) → p % 4 ≡ j → j < 4 → w - w / weight p % 65536 * weight p + v * weight p < 2 ^ 64
        four zero e l = rw (weight_is e) (omega arith)
        four (suc zero) e l = rw (weight_is e) (omega arith)
        four (suc (suc zero)) e l = rw (weight_is e) (omega arith)
        four (suc (suc (suc zero))) e l = rw (weight_is e) (omega arith)
        four (suc (suc (suc (suc j)))) e l = absurd (omega arith)

  -- what a digit depends on: a lower one on the remainder, a higher one on the quotient without its last digit
  module _ (q : ℕ) where
    lower : q % 4 < p % 4 → (x : ℕ) → x / weight q % 65536 ≡ x % weight p % 2 ^ (16 + q % 4 * 16) / weight q
    unfolding weight
    lower h x =
        let a : p % 4 * 16 ≡ (p % 4 * 16 - 16 - q % 4 * 16) + (16 + q % 4 * 16) = omega arith in
        rw a (rw (mod-mod-pow x (p % 4 * 16 - 16 - q % 4 * 16) (16 + q % 4 * 16)) (sym (field x 16 (q % 4 * 16))))

    higher : p % 4 < q % 4 → (x : ℕ) → x / weight q ≡ x / weight p / 65536 / 2 ^ (q % 4 * 16 - 16 - p % 4 * 16)
    unfolding weight
    higher h x =
        let a : q % 4 * 16 ≡ p % 4 * 16 + (16 + (q % 4 * 16 - 16 - p % 4 * 16)) = omega arith in
        ap (λ (e : ℕ). x / 2 ^ e) a ∙ sym (shr-shr x (p % 4 * 16) (16 + (q % 4 * 16 - 16 - p % 4 * 16))) ∙ sym (shr-shr (x / 2 ^ (p % 4 * 16)) 16 (q % 4 * 16 - 16 - p % 4 * 16))

    put_other : (w v : ℕ) → v < 65536 → p % 4 ≢ q % 4 → put w v / weight q % 65536 ≡ w / weight q % 65536
    put_other w v h d = go (dec_lt (q % 4) (p % 4))
      where
        go : Dec (q % 4 < p % 4) → put w v / weight q % 65536 ≡ w / weight q % 65536
        go (yes l) = lower l (put w v) ∙ ap (λ (x : ℕ). x % 2 ^ (16 + q % 4 * 16) / weight q) (put_below w v) ∙ sym (lower l w)
        go (no n) =
            let l : p % 4 < q % 4 = omega arith in
            let a : put w v / weight p / 65536 ≡ w / weight p / 65536 = ap (λ (x : ℕ). x / 65536) (put_above w v) ∙ digits_div (w / weight p / 65536) h in
            rw (higher l (put w v), higher l w, a)

-- word j holds no cell
abbrev pub Outside : ℕ → ℕ → Type 0
Outside n j = (j < 5 * n + 10) ⊎ (8 * n + 58 ≤ j)

module _ (ws : List ℕ) (n p v : ℕ) where
  pub set_length : length (set_cell ws n p v) ≡ length ws
  unfolding set_cell
  set_length = simp length-set

  pub set_word_other : (j : ℕ) → j ≢ cell_word n p → get_or (set_cell ws n p v) j 0 ≡ get_or ws j 0
  unfolding set_cell
  set_word_other j d = simp get_or-set_other

  pub set_outside : p < cell_count n → (j : ℕ) → Outside n j → get_or (set_cell ws n p v) j 0 ≡ get_or ws j 0
  set_outside h j o = set_word_other j (⊎_elim (λ a. omega arith) (λ a. omega arith) o)

  module _ (fits : 8 * n + 58 ≤ length ws) (h : p < cell_count n) (g : v < 65536) where
    set_word : get_or (set_cell ws n p v) (cell_word n p) 0 ≡ put p (get_or ws (cell_word n p) 0) v
    unfolding set_cell cell_at put
    set_word = get_or-set_same ws (cell_word n p) (put p (get_or ws (cell_word n p) 0) v) 0 (omega arith)

    pub set_cell_same : cell_at (set_cell ws n p v) n p ≡ v
    unfolding cell_at
    set_cell_same = ap (λ (w : ℕ). w / weight p % 65536) set_word ∙ put_same p (get_or ws (cell_word n p) 0) v g

    pub set_cell_other : (q : ℕ) → q ≢ p → cell_at (set_cell ws n p v) n q ≡ cell_at ws n q
    unfolding cell_at
    set_cell_other q d = go (ℕ_discrete (q / 4) (p / 4))
      where
        go : Dec (q / 4 ≡ p / 4) → cell_at (set_cell ws n p v) n q ≡ cell_at ws n q
        go (yes e) =
            let ew : cell_word n q ≡ cell_word n p = omega arith in
            let o : p % 4 ≢ q % 4 = omega arith in
            rw ew (ap (λ (w : ℕ). w / weight q % 65536) set_word ∙ put_other p q (get_or ws (cell_word n p) 0) v g o)
        go (no e) = ap (λ (w : ℕ). w / weight q % 65536) (set_word_other (cell_word n q) (omega arith))
