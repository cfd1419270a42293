use Prim.Native.Nat.{◌-◌}
use lib.ListN.{length}
use Rattle.session.specs.Lines.{Reached}
use Rattle.session.proofs.lines.run.Given as goal

abbrev pub invariant-loop-size : goal.invariant-loop-size
invariant-loop-size l = Reached l.initial.words l.initial.session l.bytes l.initial.out l.words l.session l.out (record { read = l.read; written = l.written })

abbrev pub decreases-loop-size : goal.decreases-loop-size
decreases-loop-size l = length l.bytes - l.read
