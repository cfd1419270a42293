use Rattle.std.proofs.Common.{rules, arith, sym, ◌∙◌}
use Rattle.binary_heap.specs.Sifts.{leaf, stays, drops}
use Rattle.binary_heap.proofs.Sinking.{child_is}
use Rattle.binary_heap.proofs.sifts.+sift_down.Goals as goal

pub returns-then-len-i : goal.returns-then-len-i
returns-then-len-i t c = leaf (search rules)

pub in_order-requires : goal.in_order-requires
in_order-requires t c = let d = child_is c.if-len-i.false c.child-m.ensures in omega (arith, d.after, d.inside)

pub returns-then-in_order : goal.returns-then-in_order
returns-then-in_order t c = stays c.if-len-i.false (rw c.child-m.ensures at (sym c.in_order.ensures ∙ c.if-in_order.true))

pub swap-requires : goal.swap-requires
swap-requires t c = let d = child_is c.if-len-i.false c.child-m.ensures in omega (arith, d.after, d.inside)

pub sift_down-requires : goal.sift_down-requires
sift_down-requires t c = let d = child_is c.if-len-i.false c.child-m.ensures in omega (arith, d.after, d.inside)

pub returns : goal.returns
returns t c =
    let k = c.child-m.ensures in
    drops c.if-len-i.false (rw k at (sym c.in_order.ensures ∙ c.if-in_order.false)) (rw (c.swap.ensures, k) at c.sift_down.ensures)
