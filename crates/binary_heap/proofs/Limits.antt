-- The test of the limits, at the head of every call.
use mathlib.Core.Path.{◌≡◌, refl, sym, ◌∙◌}
use mathlib.Core.Bool.{Bool, true, false, not, true≢false, ◌&&◌}
use Prim.Native.Nat.{ℕ, ◌*◌}
use lib.Dec.{leb}
use borrow.Author.Tests.{le-leb, leb-true, not-true, not-false}
use Rattle.binary_heap.specs.Heap.{fit, Room}

-- the test's two ways, as the code takes them
pub unfit : {b f : Bool} → b ≡ f → not b ≡ true → f ≡ false
unfit {b} e h = sym e ∙ not-true b h

pub fitting : {b f : Bool} → b ≡ f → not b ≡ false → f ≡ true
fitting {b} e h = sym e ∙ not-false b h

pub is_room : (n l : ℕ) → fit n l ≡ true → Room l n
unfolding fit
is_room n l e = go (leb n 32769) refl (leb (3 * n) l) refl e
  where
    go : (a : Bool) → leb n 32769 ≡ a → (b : Bool) → leb (3 * n) l ≡ b → (a && b) ≡ true → Room l n
    go true p true q t = record { limit = leb-true _ _ p; words = leb-true _ _ q }
    go true p false q t = absurd (true≢false (sym t))
    go false p b q t = absurd (true≢false (sym t))

pub room_fits : {n l : ℕ} → Room l n → fit n l ≡ true
unfolding fit
room_fits r = rw (le-leb _ _ r.limit, le-leb _ _ r.words)
