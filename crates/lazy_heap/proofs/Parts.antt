-- A part of a list of words, from a to e, lent and put back: the words before and after it are as they were.
use mathlib.Core.Path.{◌≡◌, sym, ap, ◌∙◌}
use mathlib.Core.List.{List, ◌++◌}
use Prim.Native.Nat.{ℕ, ◌+◌, ◌-◌, ◌<◌, ◌≤◌}
use native.Mathlib.Omega.{arith}
use lib.ListN.{length, take, drop, get_or, length-drop, length-take}
use lib.Seq.{ext_get_or, get_or-take, get_or-drop, take_at, drop_at, length-take-le}
use borrow.Rule.Slice.PartMut.{mid_of, post_of, put_mid, same_len_mid, take_put, drop_put}

module _ (ws : List ℕ) (a e : ℕ) (h : a ≤ e) (g : e ≤ length ws) where
  pub part_length : length (mid_of a (e - a) ws) ≡ e - a
  part_length = length-take-le (e - a) (drop a ws) (simp length-drop (omega arith))

  module _ (ys : List ℕ) (l : length ys ≡ e - a) where
    pub back_part : mid_of a (e - a) (put_mid a (e - a) ws ys) ≡ ys
    back_part =
        ap (take (e - a)) (drop_at (take a ws) (ys ++ post_of a (e - a) ws) a (length-take-le a ws (omega arith)))
        ∙ take_at ys (post_of a (e - a) ws) (e - a) l

    pub back_length : length (put_mid a (e - a) ws ys) ≡ length ws
    back_length = same_len_mid a (e - a) ws ys (l ∙ sym part_length)

    pub back_before : (j : ℕ) → j < a → get_or (put_mid a (e - a) ws ys) j 0 ≡ get_or ws j 0
    back_before j b = sym (get_or-take a (put_mid a (e - a) ws ys) j 0 b) ∙ ap (λ (m : List ℕ). get_or m j 0) (take_put a (e - a) ws ys (omega arith)) ∙ get_or-take a ws j 0 b

    pub back_after : (j : ℕ) → e ≤ j → get_or (put_mid a (e - a) ws ys) j 0 ≡ get_or ws j 0
    back_after j b =
        let k : e + (j - e) ≡ j = omega arith in
        ap (λ (i : ℕ). get_or (put_mid a (e - a) ws ys) i 0) (sym k)
        ∙ sym (get_or-drop e (put_mid a (e - a) ws ys) (j - e) 0)
        ∙ ap (λ (m : List ℕ). get_or m (j - e) 0) (drop_put a e ws ys h g l)
        ∙ get_or-drop e ws (j - e) 0
        ∙ ap (λ (i : ℕ). get_or ws i 0) k

-- a part is told by the words in it
pub part_same : (ws ws' : List ℕ) (a k : ℕ) → length ws' ≡ length ws → ((j : ℕ) → a ≤ j → j < a + k → get_or ws' j 0 ≡ get_or ws j 0) → mid_of a k ws' ≡ mid_of a k ws
part_same ws ws' a k size same =
    ext_get_or 0 (mid_of a k ws') (mid_of a k ws) (simp (length-take, length-drop, size))
    (λ i h.
    let b : i < k = omega (arith, length-take k (drop a ws')) in
    get_or-take k (drop a ws') i 0 b ∙ get_or-drop a ws' i 0 ∙ same (a + i) (omega arith) (omega arith) ∙ sym (get_or-drop a ws i 0) ∙ sym (get_or-take k (drop a ws) i 0 b))
