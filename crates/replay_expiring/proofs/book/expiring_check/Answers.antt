-- The check is the book's own.
use mathlib.Core.Path.{◌≡◌, refl, sym}
use mathlib.Core.Bool.{Bool, true, false, true≢false}
use mathlib.Core.List.{List}
use Prim.Native.Nat.{ℕ, ◌≤◌}
use native.Mathlib.Omega.{arith}
use lib.ListN.{length}
use mir.Val.{bool_byte}
use Rattle.expiring.specs.declared.expiring.Expiring.{Expiring}
use Rattle.expiring.specs.Calls.{Checking}
use Rattle.expiring.specs.Numbers.{book_in}
use Rattle.replay_expiring.specs.Runs.{Checked}
use Rattle.replay_expiring.proofs.book.expiring_check.Goals as goal

checked : {ns ws : List ℕ} {b : Expiring} (r : Bool) → b ≡ book_in ns → 12 ≤ length ns → Checking ws b r → Checked ns ws (bool_byte r)
checked true e h c = record { bit = omega arith; few = λ l. absurd (omega (arith, l, h)); sound = λ _. rw e at c.sound refl; complete = λ _ _. refl }
checked false e h c = record { bit = omega arith; few = λ _. refl; sound = λ l. absurd (omega (arith, l)); complete = λ _ is. absurd (true≢false (sym (c.complete (rw e is)))) }

pub returns : goal.returns
returns c = checked c.check.result c.book_in.ensures c.if-numbers-lt12.false c.check.ensures
