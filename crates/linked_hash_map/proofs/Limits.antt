-- The test of the limits, at the head of every call.
use mathlib.Core.Path.{◌≡◌, refl, sym}
use mathlib.Core.Bool.{Bool, true, false, true≢false, ◌&&◌}
use Prim.Native.Nat.{ℕ, ◌+◌, ◌*◌}
use lib.Dec.{leb}
use borrow.Author.Tests.{leb-true}
use Rattle.limits.specs.Limits.{map_fits}
use Rattle.linked_hash_map.specs.Words.{Room}

-- what it says, as facts
pub is_room : (n l : ℕ) → map_fits n l ≡ true → Room l n
unfolding map_fits
is_room n l e = go (leb n 4096) refl (leb (8 * n + 58) l) refl e
  where
    go : (a : Bool) → leb n 4096 ≡ a → (b : Bool) → leb (8 * n + 58) l ≡ b → (a && b) ≡ true → Room l n
    go true p true q t = record { limit = leb-true _ _ p; words = leb-true _ _ q }
    go true p false q t = absurd (true≢false (sym t))
    go false p b q t = absurd (true≢false (sym t))
