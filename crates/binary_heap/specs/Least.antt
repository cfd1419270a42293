-- Which entry comes first: from the standard library's documentation of `BinaryHeap` and of `Reverse`, the type in which
-- the source's heap wraps its entries.
use Rattle.std.specs.Prelude.{◌≡◌, Bool, true}
use mathlib.Core.List.{List, Memᴰ}
use Rattle.binary_heap.specs.declared.entries.Entry.{Entry}
use Rattle.binary_heap.specs.Order.{le}

-- `peek`: "Returns the greatest item in the binary heap", in an order in which `below a b` says that a is not above b
pub record Greatest (below : Entry → Entry → Bool) (e : Entry) (es : List Entry) : Type 0 where
  pub member : Memᴰ e es
  pub greatest : (x : Entry) → Memᴰ x es → below x e ≡ true

-- `Reverse`: "A helper struct for reverse ordering"
abbrev pub reversed : (Entry → Entry → Bool) → Entry → Entry → Bool
reversed below a b = below b a

-- the item that a heap of reversed entries has on top
abbrev pub Least : Entry → List Entry → Type 0
Least = Greatest (reversed le)
