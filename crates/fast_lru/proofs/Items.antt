-- A map's records read as items: what the map does to its records is done to the items.
use mathlib.Core.Path.{◌≡◌, refl, ap, ◌∙◌}
use mathlib.Core.Bool.{Bool, true, false, cond, ◌||◌}
use mathlib.Core.List.{[], ◌∷◌}
use Prim.Native.Nat.{ℕ, zero, suc}
use lib.Dec.{eqb}
use lib.ListN.{length, length-map}
use Rattle.std.specs.Prelude.{Option, Some, None, slice_get}
use Rattle.linked_hash_map.specs.declared.map.Record.{Record}
use Rattle.linked_hash_map.specs.Model as held
use Rattle.fast_lru_model.specs.Model.{Items, lookup, has, without, to_front, Distinct}
use Rattle.fast_lru.specs.Lru.{item_of, items}
use Rattle.fast_lru.specs.Steps.{taking}

pub length_items : (m : held.Model) → length (items m) ≡ length m
length_items m = length-map m item_of

pub lookup_items : (k : ℕ) (m : held.Model) → lookup k (items m) ≡ taking (held.lookup k m)
unfolding lookup held.lookup
lookup_items k [] = refl
lookup_items k (r ∷ m) = go (eqb r.key k) (lookup_items k m)
  where
    go : (b : Bool) → lookup k (items m) ≡ taking (held.lookup k m) → cond b (Some (item_of r)) (lookup k (items m)) ≡ taking (cond b (Some r) (held.lookup k m))
    go true ih = refl
    go false ih = ih

pub has_items : (k : ℕ) (m : held.Model) → has k (items m) ≡ held.has k m
unfolding has held.has
has_items k [] = refl
has_items k (r ∷ m) = ap (λ (b : Bool). eqb r.key k || b) (has_items k m)

pub without_items : (k : ℕ) (m : held.Model) → items (held.without k m) ≡ without k (items m)
unfolding without held.without
without_items k [] = refl
without_items k (r ∷ m) = go (eqb r.key k) (without_items k m)
  where
    go : (b : Bool) → items (held.without k m) ≡ without k (items m) → items (cond b (held.without k m) (r ∷ held.without k m)) ≡ cond b (without k (items m)) (item_of r ∷ without k (items m))
    go true ih = ih
    go false ih = ap (λ (l : Items). item_of r ∷ l) ih

pub front_items : (k : ℕ) (m : held.Model) → items (held.to_front k m) ≡ to_front k (items m)
unfolding to_front held.to_front
front_items k m = go (held.lookup k m) refl
  where
    go : (o : Option Record) → held.lookup k m ≡ o → items (held.to_front k m) ≡ to_front k (items m)
    go (Some r) e = rw (lookup_items k m, e) (ap (λ (l : Items). item_of r ∷ l) (without_items k m))
    go None e = rw (lookup_items k m, e)

pub nth_items : (i : ℕ) (m : held.Model) → slice_get (items m) i ≡ taking (held.nth i m)
unfolding held.nth
nth_items i [] = refl
nth_items zero (r ∷ m) = refl
nth_items (suc i) (r ∷ m) = nth_items i m

pub distinct_items : (m : held.Model) → held.Distinct m → Distinct (items m)
distinct_items [] d = tt
distinct_items (r ∷ m) (a, d) = (has_items r.key m ∙ a, distinct_items m d)
