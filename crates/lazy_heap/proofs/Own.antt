-- Each held key has one entry of its own. So there are as many entries as held keys, or more, and where as many, no
-- entry is stale: the entries' scores are those that the keys hold.
use mathlib.Core.Path.{◌≡◌, refl, sym, ap, ◌∙◌}
use mathlib.Core.Bool.{cond}
use mathlib.Core.List.{List, [], ◌∷◌, Memᴰ}
use mathlib.Core.List.Memᴰ.{head}
use mathlib.Core.List.Memᴰ.{tail}
use Prim.Native.Nat.{ℕ, ◌+◌, ◌<◌, ◌≤◌}
use native.Mathlib.Omega.{arith}
use lib.Dec.{eqb}
use lib.ListN.{length}
use Rattle.binary_heap.specs.declared.entries.Entry.{Entry}
use Rattle.binary_heap.specs.Order.{is, count, is_at_most}
use Rattle.binary_heap.specs.Order as entries
use Rattle.binary_heap.proofs.Counts.{Is, same, other, which}
use Rattle.linked_hash_map.specs.declared.map.Record.{Record}
use Rattle.linked_hash_map.specs.Model.{Distinct}
use Rattle.lazy_heap_model.specs.Model.{Heap, entry_of, count_at_most, at_most}
use Rattle.lazy_heap.specs.Valid.{Valid}
use Rattle.lazy_heap.proofs.Helds.{missing_key}
use Rattle.lazy_heap.proofs.Valid.{is_other}

-- ---- the entries without the first that is e
abbrev skip : Entry → Entry → ℕ → List Entry → List Entry → List Entry
skip e x n l rest = cond (eqb n 1) l (x ∷ rest)

less : Entry → List Entry → List Entry
less e [] = []
less e (x ∷ l) = skip e x (is e x) l (less e l)

less_length : (e : Entry) (l : List Entry) → 0 < count e l → length (less e l) + 1 ≡ length l
unfolding count less
less_length e [] h = absurd (omega arith)
less_length e (x ∷ l) h = go (which e x) (less_length e l)
  where
    go : Is e x → (0 < count e l → length (less e l) + 1 ≡ length l) → length (skip e x (is e x) l (less e l)) + 1 ≡ length (x ∷ l)
    go (same q o) ih = rw o (omega arith)
    go (other d z) ih = rw z (omega (arith, ih (omega (arith, z))))

less_count : (e y : Entry) → (y ≡ e → ⊥) → (l : List Entry) → count y (less e l) ≡ count y l
unfolding count less
less_count e y d [] = refl
less_count e y d (x ∷ l) = go (which e x) (less_count e y d l)
  where
    go : Is e x → count y (less e l) ≡ count y l → count y (skip e x (is e x) l (less e l)) ≡ is y x + count y l
    go (same q o) ih = rw o (let z : is y x ≡ 0 = is_other y x (λ w. d (w ∙ sym q)) in omega arith)
    go (other n z) ih = rw z (ap (λ (c : ℕ). is y x + c) ih)

less_at_most : (s : ℕ) (e : Entry) (l : List Entry) → 0 < count e l → entries.at_most s (less e l) + is_at_most s e ≡ entries.at_most s l
unfolding count less entries.at_most
less_at_most s e [] h = absurd (omega arith)
less_at_most s e (x ∷ l) h = go (which e x) (less_at_most s e l)
  where
    go : Is e x → (0 < count e l → entries.at_most s (less e l) + is_at_most s e ≡ entries.at_most s l)
        → entries.at_most s (skip e x (is e x) l (less e l)) + is_at_most s e ≡ is_at_most s x + entries.at_most s l
    go (same q o) ih = rw o (omega (arith, ap (is_at_most s) q))
    go (other d z) ih = rw z (omega (arith, ih (omega (arith, z))))

-- ---- key by key, each with its entry
abbrev Once : List Record → List Entry → Type 0
Once held es = (r : Record) → Memᴰ r held → count (entry_of r) es ≡ 1

-- the others keep theirs
once_less : (r : Record) (held : List Record) (es : List Entry) → Distinct (r ∷ held) → Once (r ∷ held) es → Once held (less (entry_of r) es)
once_less r held es d once q m = less_count (entry_of r) (entry_of q) (λ w. missing_key r.key held d.0 q m (ap (λ (x : Entry). x.key) w)) es ∙ once q (tail m)

once_some : (r : Record) (held : List Record) (es : List Entry) → Once (r ∷ held) es → 0 < count (entry_of r) es
once_some r held es once = omega (arith, once r (head refl))

held_fit : (held : List Record) (es : List Entry) → Distinct held → Once held es → length held ≤ length es
held_fit [] es d once = omega arith
held_fit (r ∷ held) es d once = omega (arith, held_fit held (less (entry_of r) es) d.1 (once_less r held es d once), less_length (entry_of r) es (once_some r held es once))

held_at_most : (s : ℕ) (held : List Record) (es : List Entry) → Distinct held → Once held es → length es ≡ length held → entries.at_most s es ≡ count_at_most s held
unfolding count_at_most entries.at_most is_at_most
held_at_most s [] [] d once n = refl
held_at_most s [] (e ∷ es) d once n = absurd (omega arith)
held_at_most s (r ∷ held) es d once n =
    let some : 0 < count (entry_of r) es = once_some r held es once in
    omega (
      arith,
      less_at_most s (entry_of r) es some,
      held_at_most s held (less (entry_of r) es) d.1 (once_less r held es d once) (omega (arith, less_length (entry_of r) es some)),
    )

pub live_fit : (m : Heap) → Valid m → length m.held ≤ length m.entries
live_fit m v = held_fit m.held m.entries v.keys v.once

pub live_at_most : (m : Heap) → Valid m → (s : ℕ) → length m.entries ≡ length m.held → entries.at_most s m.entries ≡ at_most s m
live_at_most m v s n = held_at_most s m.held m.entries v.keys v.once n
