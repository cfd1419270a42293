use mathlib.Core.Path.{◌≡◌, refl, ap, ◌∙◌}
use borrow.Author.Rules.{rules}
use Rattle.std.specs.Prelude.{Some}
use Rattle.forms.specs.declared.form.Form.{Form}
use Rattle.forms.specs.declared.form.Form.TheVariants as form
use Rattle.session.proofs.Stepping.{call_replies, malformed_replies, other_replies}
use Rattle.session.proofs.step.reply_to.Goals as goal

pub returns-in-Some-At : goal.returns-in-Some-At
returns-in-Some-At c =
    let call : c.in-Some-At.field-0 ≡ form.At c.in-Some-At.tick c.in-Some-At.call = rw c.in-Some-At.is at c.in-Some-At.field-0-is in
    call_replies _ _ c.ask.ensures (c.in-Some-At.is ∙ ap (λ (f : Form). Some f) call)

pub returns-in_default : goal.returns-in_default
returns-in_default c = other_replies _ _ (λ t x e. search rules)

pub returns-in_default-2 : goal.returns-in_default-2
returns-in_default-2 c = malformed_replies _ _ (λ p. rw c.in_default.is refl)
