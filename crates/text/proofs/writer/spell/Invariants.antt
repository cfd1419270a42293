use mathlib.Core.Path.{◌≡◌}
use lib.ListN.{length}
use lib.Seq.{sets}
use Rattle.text.specs.Writing.{last_digits}
use Rattle.text.proofs.writer.spell.Given as goal

-- the digits that are left make of the slice what the whole number does
abbrev pub invariant-loop-i : goal.invariant-loop-i
invariant-loop-i l = sets l.out 0 (last_digits l.i l.rest) ≡ sets l.initial.out 0 (last_digits (length l.initial.out) l.n)
