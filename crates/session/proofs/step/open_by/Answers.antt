-- A book whose form has too large a capacity or limit is refused; any other is as its opening goes.
use mathlib.Core.Path.{◌≡◌, refl, ap, ◌∙◌}
use borrow.Author.Rules.{rules}
use Rattle.std.specs.Prelude.{Some, option_map}
use Rattle.time.specs.Duration.{duration_of}
use Rattle.forms.specs.declared.form.Form.{Form}
use Rattle.forms.specs.declared.form.Form.TheVariants as form
use Rattle.session.proofs.Stepping.{opens_none, opens_form, wide_capacity, wide_limit, opens_book}
use Rattle.session.proofs.step.open_by.Goals as goal
use Rattle.session.proofs.step.open_by.Goals.{then-capacity-gt128-via-then-capacity-gt128, then-capacity-gt128-via-else-capacity-gt128+then-limit-gt128}

pub returns-then-capacity-gt128 : goal.returns-then-capacity-gt128
returns-then-capacity-gt128 c =
    let b = c.in-Some-Book in
    let given : b.field-0 ≡ form.Book b.capacity b.limit b.seq b.default_ttl = search rules in
    opens_form (b.is ∙ ap (λ (f : Form). Some f) given) refl (opens_none _ (elim c.then-capacity-gt128.branch [
      | then-capacity-gt128-via-then-capacity-gt128 w ↦ wide_capacity _ _ _ _ _ w.if-capacity-gt128.true
      | then-capacity-gt128-via-else-capacity-gt128+then-limit-gt128 w ↦ wide_limit _ _ _ _ _ w.if-capacity-gt128.false w.if-limit-gt128.true
    ]))

pub returns : goal.returns
returns c =
    let b = c.in-Some-Book in
    let given : b.field-0 ≡ form.Book b.capacity b.limit b.seq b.default_ttl = search rules in
    let ttl : c.map-default_ttl.result ≡ option_map (λ t. duration_of t.secs t.nanos) b.default_ttl = search rules in
    opens_form (b.is ∙ ap (λ (f : Form). Some f) given) ttl (opens_book _ _ _ _ _ _ _ c.if-capacity-gt128.false c.if-limit-gt128.false c.open.ensures)
