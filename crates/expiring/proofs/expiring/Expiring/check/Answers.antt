use mathlib.Core.Path.{sym, ap, ◌∙◌}
use mathlib.Core.Bool.{true≢false}
use Rattle.std.specs.Result.{is_ok}
use Rattle.expiring.proofs.Limits.{room_limits, book_room}
use Rattle.expiring.proofs.expiring.Expiring.check.Goals.{then-is_ok, else-is_ok}
use Rattle.expiring.proofs.expiring.Expiring.check.Goals as goal

-- The first test that fails ends the check with a no.
-- Of a book none fails, and where none fails the search finds the answer.
pub returns-else-check : goal.returns-else-check
returns-else-check c = record {
  sound = λ q. absurd (true≢false (sym q ∙ c.if-check.false));
  complete = λ o. elim c.if-is_ok.branch [
    | then-is_ok w ↦ w.value-is ∙ w.check.ensures.complete o.list
    | else-is_ok w ↦ w.value-is ∙ c.is_ok.ensures.value ∙ ap is_ok (c.limits.ensures.told ∙ room_limits (book_room o))
  ];
}
