-- The order that the derive writes is that of the entries.
use mathlib.Core.Path.{◌≡◌, refl, ap, ◌∙◌}
use mathlib.Core.Bool.{Bool, true, false, cond, ◌&&◌, ◌||◌}
use Prim.Native.Nat.{ℕ}
use native.Mathlib.Omega.{arith}
use lib.Dec.{leb, ltb, eqb}
use Rattle.std.proofs.lemmas.Bool.Decides.{nat_tests}
use Rattle.std.specs.Prelude.{Option, Some}
use Rattle.std.specs.declared.cmp.Ordering.{Ordering}
use Rattle.std.specs.declared.cmp.Ordering.TheVariants.{Less, Equal, Greater}
use Rattle.std.specs.Ordering.{partial_le, partial_ordering_then, nat_cmp, is_le, is_some_and}
use Rattle.binary_heap.specs.declared.entries.Entry.{Entry}
use Rattle.binary_heap.specs.Order.{lex, le}
use Rattle.binary_heap.specs.contracts.entries.EntryPartialOrd.TheImpl.{partial_cmp-value}

-- the comparison of one number, and then of the rest
lexed : (x y : ℕ) (o : Option Ordering) → is_some_and is_le (partial_ordering_then (Some (nat_cmp x y)) o) ≡ lex x y (is_some_and is_le o)
lexed x y o = go (ltb x y) (eqb x y)
  where
    go : (a b : Bool) → is_some_and is_le (partial_ordering_then (Some (cond a Less (cond b Equal Greater))) o) ≡ (a || (b && is_some_and is_le o))
    go true b = refl
    go false true = refl
    go false false = refl

compared : (x y : ℕ) → is_le (nat_cmp x y) ≡ leb x y
compared x y = grind (arith, nat_tests)

pub derived_le : (a b : Entry) → partial_le partial_cmp-value.it a b ≡ le a b
unfolding le
derived_le a b = lexed a.score b.score _ ∙ ap (lex a.score b.score) (lexed a.seq b.seq _ ∙ ap (lex a.seq b.seq) (compared a.key b.key))
