use mathlib.Core.Path.{sym, ◌∙◌}
use borrow.Author.Rules.{rules}
use borrow.Author.Tests.{not-true, not-false}
use Rattle.binary_heap.specs.Sifts.{stays}
use Rattle.binary_heap.proofs.sifts.sift_up.Goals as goal

pub climb-requires : goal.climb-requires
climb-requires c = (search rules, not-true _ (sym c.rises.ensures ∙ c.if-rises.true))

pub returns-else-rises : goal.returns-else-rises
returns-else-rises c = stays (not-false _ (sym c.rises.ensures ∙ c.if-rises.false))
