use Rattle.std.proofs.Common.{rules, arith, sym, ◌∙◌}
use borrow.Author.Tests.{not-true, not-false}
use Rattle.binary_heap.specs.Sifts.{stays}
use Rattle.binary_heap.proofs.Rising.{not_root, rises_on}
use Rattle.binary_heap.proofs.sifts.+climb.Goals as goal

pub overflow_sub-p : goal.overflow_sub-p
overflow_sub-p t c = let l = not_root _ _ c.requires.1 in omega arith

pub climb-requires : goal.climb-requires
climb-requires t c =
    let l = not_root _ _ c.requires.1 in
    (omega arith, (search rules, not-true _ (sym c.rises.ensures ∙ c.if-rises.true)))

pub returns-then-rises : goal.returns-then-rises
returns-then-rises t c = rises_on c.requires.1 c.swap.ensures c.climb.ensures

pub returns-else-rises : goal.returns-else-rises
returns-else-rises t c = rises_on c.requires.1 c.swap.ensures (stays (not-false _ (sym c.rises.ensures ∙ c.if-rises.false)))
