use mathlib.Core.Path.{sym}
use mathlib.Core.Logic.{inl}
use native.Mathlib.Omega.{arith}
use Rattle.std.proofs.lemmas.List.{take_rest}
use Rattle.session.proofs.Blocks.{unbroken_rest, reached_on, reached_none}
use Rattle.session.proofs.lines.run.Goals as goal

pub loop-size-init : goal.loop-size-init
loop-size-init c = reached_none _ _ _ _

pub loop-size-preserved : goal.loop-size-preserved
loop-size-preserved c = reached_on _ (rw take_rest at (sym c.in-Some.ensures)) c.loop-size.invariant (omega (arith, c.if-out-written-lt160.false)) c.step-written.ensures

pub returns-in_default : goal.returns-in_default
returns-in_default c = record { reached = c.loop-size.invariant; rest = inl (unbroken_rest c.args.bytes.now c.loop-size.read (rw take_rest at (sym c.in_default.ensures))) }
