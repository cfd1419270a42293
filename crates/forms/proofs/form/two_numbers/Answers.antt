use Rattle.forms.proofs.Wholes.{no_nanos}
use Rattle.forms.proofs.form.two_numbers.Goals as goal

pub returns-in_err-nanos : goal.returns-in_err-nanos
returns-in_err-nanos c = rw c.from_residual-in_err-nanos.ensures (no_nanos _ _ _ c.in_ok-secs.ensures c.in_err-nanos.ensures)
