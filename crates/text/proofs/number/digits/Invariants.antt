use mathlib.Core.Path.{◌≡◌}
use lib.ListN.{drop}
use Rattle.text.specs.Reading.{read_on}
use Rattle.text.proofs.number.digits.Given as goal

-- what is read from the place reached on, with the value so far, is what the whole is
abbrev pub invariant-loop-i : goal.invariant-loop-i
invariant-loop-i l = read_on l.value (drop l.i l.line) ≡ read_on l.fn.value l.line
