-- The two parts of a book's words: what is done to one leaves the other as it was.
use mathlib.Core.Path.{◌≡◌, refl, sym, ap, ◌∙◌}
use mathlib.Core.List.{List}
use Prim.Native.Nat.{ℕ, ◌+◌, ◌-◌, ◌<◌, ◌≤◌}
use native.Mathlib.Omega.{arith}
use lib.ListN.{length, get_or, drop, length-drop}
use lib.Seq.{take_all, get_or-drop}
use borrow.Rule.Slice.PartMut.{mid_of, put_mid}
use Rattle.lazy_heap.specs.Words as heap
use Rattle.lazy_heap.proofs.Parts.{part_length, back_part, back_length, back_before}
use Rattle.fast_lru.specs.Lru as lru
use Rattle.expiring.specs.Book.{words_for, start, Kept}

-- the words from a on, lent and put back
module _ (ws : List ℕ) (a : ℕ) (h : a ≤ length ws) where
  pub rest_is : mid_of a (length ws - a) ws ≡ drop a ws
  rest_is = take_all (length ws - a) (drop a ws) (simp length-drop (omega arith))

  module _ (ys : List ℕ) (l : length ys ≡ length (mid_of a (length ws - a) ws)) where
    size : length ys ≡ length ws - a
    size = l ∙ part_length ws a (length ws) h (omega arith)

    pub rest_back : drop a (put_mid a (length ws - a) ws ys) ≡ ys
    rest_back =
        sym (take_all (length ws - a) (drop a (put_mid a (length ws - a) ws ys)) (simp length-drop (omega (arith, back_length ws a (length ws) h (omega arith) ys size))))
        ∙ back_part ws a (length ws) h (omega arith) ys size

    pub rest_length : length (put_mid a (length ws - a) ws ys) ≡ length ws
    rest_length = back_length ws a (length ws) h (omega arith) ys size

    pub rest_before : (j : ℕ) → j < a → get_or (put_mid a (length ws - a) ws ys) j 0 ≡ get_or ws j 0
    rest_before = back_before ws a (length ws) h (omega arith) ys size

    rest_after : (j : ℕ) → a ≤ j → get_or (put_mid a (length ws - a) ws ys) j 0 ≡ get_or ys (j - a) 0
    rest_after j b =
        let k : a + (j - a) ≡ j = omega arith in
        ap (λ (i : ℕ). get_or (put_mid a (length ws - a) ws ys) i 0) (sym k)
        ∙ sym (get_or-drop a (put_mid a (length ws - a) ws ys) (j - a) 0)
        ∙ ap (λ (l : List ℕ). get_or l (j - a) 0) rest_back

    -- the index leaves the words past its own, and so does the book
    pub rest_kept : (c d : ℕ) → a ≡ start c → heap.Kept d (mid_of a (length ws - a) ws) ys → Kept c d ws (put_mid a (length ws - a) ws ys)
    rest_kept c d e k = record { size = rest_length; past = λ j b. past j b }
      where
        past : (j : ℕ) → words_for c d ≤ j → get_or (put_mid a (length ws - a) ws ys) j 0 ≡ get_or ws j 0
        past j b =
            let i : a + (j - a) ≡ j = omega arith in
            rest_after j (omega arith)
            ∙ k.past (j - a) (omega arith)
            ∙ ap (λ (l : List ℕ). get_or l (j - a) 0) rest_is
            ∙ get_or-drop a ws (j - a) 0
            ∙ ap (λ (x : ℕ). get_or ws x 0) i

-- words past the book's own
pub kept_same : (c d : ℕ) (ws : List ℕ) → Kept c d ws ws
kept_same c d ws = record { size = refl; past = λ j h. refl }

pub kept_then : {c d c' d' : ℕ} {ws ws₁ ws₂ : List ℕ} → c' ≡ c → d' ≡ d → Kept c d ws ws₁ → Kept c' d' ws₁ ws₂ → Kept c d ws ws₂
kept_then e f k l = record { size = l.size ∙ k.size; past = λ j h. l.past j (omega (arith, h, e, f)) ∙ k.past j h }

pub kept_list : (c d : ℕ) {ws ws' : List ℕ} → lru.Kept c ws ws' → Kept c d ws ws'
kept_list c d k = record { size = k.size; past = λ j h. k.past j (omega (arith, h)) }
