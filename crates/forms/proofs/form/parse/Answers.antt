-- What the steps come to is what the line spells.
use mathlib.Core.Path.{refl, sym, ◌∙◌}
use Rattle.forms.proofs.Wholes.{line_is}
use Rattle.forms.proofs.Spellings.{parsed}
use Rattle.forms.proofs.form.parse.Goals as goal

pub returns-in_err-call_from-in-Some : goal.returns-in_err-call_from-in-Some
returns-in_err-call_from-in-Some c = rw c.from_residual.ensures (parsed (line_is _ c.if-line-gt200.false c.in-Some.ensures ∙ rw (sym c.in_err-call_from-in-Some.ensures) refl))

pub returns-in_ok-call_from-in-Some : goal.returns-in_ok-call_from-in-Some
returns-in_ok-call_from-in-Some c = parsed (line_is _ c.if-line-gt200.false c.in-Some.ensures ∙ rw (sym c.in_ok-call_from-in-Some.ensures) refl)

pub returns-in-None : goal.returns-in-None
returns-in-None c = parsed (line_is _ c.if-line-gt200.false c.in-None.ensures ∙ sym c.book.ensures)
