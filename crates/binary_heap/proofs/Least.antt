-- The least entry: there is at most one, and a sorted list starts with it.
use mathlib.Core.Path.{◌≡◌, refl, ap}
use Rattle.std.specs.Prelude.{Some}
use mathlib.Core.List.{List, [], ◌∷◌}
use mathlib.Core.List.Memᴰ.{head}
use mathlib.Core.List.Memᴰ.{not-nil}
use Rattle.binary_heap.specs.declared.entries.Entry.{Entry}
use Rattle.binary_heap.specs.Order.{sort}
use Rattle.binary_heap.specs.Heap.{first}
use Rattle.binary_heap.specs.Least.{Least}
use Rattle.binary_heap.proofs.Order.{le_both}
use Rattle.binary_heap.proofs.Sorting.{sort_sorted, sort_mem, mem_sort, head_le}

pub least_unique : {a b : Entry} {es : List Entry} → Least a es → Least b es → a ≡ b
least_unique {a} {b} x y = le_both a b (x.greatest b y.member) (y.greatest a x.member)

pub sort_least : {e : Entry} {l es : List Entry} → sort es ≡ e ∷ l → Least e es
sort_least {e} {l} {es} q = record {
  member = sort_mem e es (rw q (head refl));
  greatest = λ x m. head_le {l = l} (rw q at (sort_sorted es)) (rw q at (mem_sort x es m));
}

pub first_least : {e : Entry} {es : List Entry} → Least e es → first (sort es) ≡ Some e
first_least {e} {es} x = go (sort es) refl
  where
    go : (l : List Entry) → sort es ≡ l → first l ≡ Some e
    go [] q = absurd (not-nil (rw q at (mem_sort e es x.member)))
    go (y ∷ l) q = ap Some (least_unique (sort_least q) x)
