-- The bytes keep their length, and no more is read than there is; the measure is what is left to read.
use Rattle.std.proofs.Common.{◌-◌, ◌≡◌, ◌≤◌, length}
use Rattle.tube_book.proofs.answer_lines.Given as goal

abbrev pub invariant-loop-start : goal.invariant-loop-start
invariant-loop-start g l = (length l.bytes ≡ length l.fn.bytes) × (l.start ≤ l.size)

abbrev pub decreases-loop-start : goal.decreases-loop-start
decreases-loop-start g l = l.size - l.start
