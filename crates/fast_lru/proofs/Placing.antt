-- `place`: the map says whether the key was there, was put in, or found no room, and then it takes another's place.
use mathlib.Core.Path.{◌≡◌, refl, sym, ap, ◌∙◌}
use mathlib.Core.Bool.{true, false}
use mathlib.Core.List.{List, ◌∷◌}
use Prim.Native.Nat.{ℕ, ◌<◌, ◌≤◌}
use native.Mathlib.Decide.{dec_lt}
use native.Mathlib.Omega.{arith}
use lib.ListN.{length}
use borrow.Author.Tests.{lt-ltb, le-ltb}
use Rattle.std.specs.Prelude.{Option, Some, None, Result, Ok, Err}
use Rattle.std.proofs.lemmas.Option.{some_pair_parts}
use Rattle.linked_hash_map.specs.declared.map.LinkedHashMap.{LinkedHashMap}
use Rattle.linked_hash_map.specs.declared.map.Record.{Record}
use Rattle.linked_hash_map.specs.declared.map.PutError.{PutError}
use Rattle.linked_hash_map.specs.declared.map.PutError.TheVariants as failed
use Rattle.linked_hash_map.specs.Model as held
use Rattle.linked_hash_map.specs.Map.{IsMap}
use Rattle.linked_hash_map.specs.Map as map
use Rattle.linked_hash_map.specs.Calls.{Putting, Recycling}
use Rattle.linked_hash_map.proofs.Laws as laws
use Rattle.linked_hash_map.proofs.Putting as putting
use Rattle.linked_hash_map.proofs.Recycling.{recycled_new}
use Rattle.fast_lru.specs.declared.lru.FastLru.{FastLru}
use Rattle.fast_lru_model.specs.Model.{Item, Items, has, without, less, value_in, item_in, value_of, victim, evicted, inserted}
use Rattle.fast_lru.specs.Lru.{item_of, items, model_of}
use Rattle.fast_lru.specs.Steps.{taking, Choosing, PlacingFull, Placing}
use Rattle.fast_lru.proofs.Items.{length_items, lookup_items, has_items, without_items}
use Rattle.fast_lru.proofs.Lists.{without_missing, has_without_any, shorter_without, has_evicted, victim_none, victim_stored, inserted_none, inserted_over, inserted_new, inserted_full}

-- the map's record at the front of the others
put_over : (c : ℕ) (x : Record) (m : held.Model) → held.has x.key m ≡ true → items (held.put c x m) ≡ item_of x ∷ without x.key (items m)
unfolding held.put
put_over c x m h = rw h (ap (λ (l : Items). item_of x ∷ l) (without_items x.key m))

put_new : (c : ℕ) (x : Record) (m : held.Model) → held.has x.key m ≡ false → length m < c → items (held.put c x m) ≡ item_of x ∷ without x.key (items m)
unfolding held.put
put_new c x m h b = rw (h, lt-ltb (length m) c b) (ap (λ (l : Items). item_of x ∷ l) (without_items x.key m))

-- ---- a new key in a full list
-- an empty list is full where there is no capacity
pub placing_nothing : (ws : List ℕ) (l : FastLru) (x : Record) → Choosing ws l None → PlacingFull ws l x ws l
placing_nothing ws l x chosen = record {
  capacity = refl;
  map = λ is. is;
  model = λ is h f. sym (inserted_none l.map.capacity (item_of x) (model_of ws l) (omega (arith, empty is)));
  kept = record { size = refl; past = λ j h. refl };
}
  where
    empty : IsMap ws l.map → length (model_of ws l) ≡ 0
    empty is = go (victim (model_of ws l)) refl
      where
        go : (i : Option Item) → victim (model_of ws l) ≡ i → length (model_of ws l) ≡ 0
        go None e = victim_none (model_of ws l) e
        go (Some i) e = cc (chosen.answer is, ap item_in e)

module _ (ws : List ℕ) (l : FastLru) (x : Record) (k v : ℕ) (chosen : Choosing ws l (Some (k, v))) (ws' : List ℕ) (r : LinkedHashMap) (rc : Recycling ws l.map k x ws' r) where
  -- the list without its victim
  gone : IsMap ws l.map → (evicted (model_of ws l) ≡ without k (model_of ws l)) × (has k (model_of ws l) ≡ true)
  unfolding evicted
  gone is = go (victim (model_of ws l)) refl
    where
      go : (i : Option Item) → victim (model_of ws l) ≡ i → (less (victim (model_of ws l)) (model_of ws l) ≡ without k (model_of ws l)) × (has k (model_of ws l) ≡ true)
      go None e = cc (chosen.answer is, ap item_in e)
      go (Some i) e =
          let key : k ≡ i.key = (some_pair_parts k i.key v i.value (chosen.answer is ∙ ap item_in e)).0 in (
            ap (λ (y : Option Item). less y (model_of ws l)) e ∙ ap (λ (j : ℕ). without j (model_of ws l)) (sym key),
            rw key (victim_stored (model_of ws l) i e),
          )

  pub placing_full : PlacingFull ws l x ws' (record { map = r })
  unfolding model_of
  placing_full = record {
    capacity = rc.capacity;
    map = rc.map;
    model = λ is h f.
        let m = map.model_of ws l.map in
        let stored : has k (items m) ≡ true = (gone is).1 in
        let new : held.has x.key (held.without k m) ≡ false = sym (has_items x.key (held.without k m)) ∙ ap (has x.key) (without_items k m) ∙ has_without_any x.key k (items m) h in
        ap items (rc.model is ∙ recycled_new k x m (sym (has_items k m) ∙ stored) new)
        ∙ ap (λ (y : Items). item_of x ∷ y) (without_items k m ∙ sym (gone is).0 ∙ sym (without_missing x.key (evicted (items m)) (has_evicted x.key (items m) h)))
        ∙ sym (inserted_full l.map.capacity (item_of x) (items m) (omega (arith, shorter_without k (items m) stored, length_items m, putting.model_length ws l.map, is.count)) h f);
    kept = rc.kept;
  }

-- ---- any key: what the map answers, and what that says of the list
data Case (c : ℕ) (x : Record) (m : held.Model) : Type 0 where
  over : (r : Record) → held.placing c x m ≡ Ok (Some r) → value_of x.key (items m) ≡ Some r.first → items (held.put c x m) ≡ inserted c (item_of x) (items m) → Case c x m
  new : held.placing c x m ≡ Ok None → value_of x.key (items m) ≡ None → items (held.put c x m) ≡ inserted c (item_of x) (items m) → Case c x m
  full : held.placing c x m ≡ Err failed.Full → value_of x.key (items m) ≡ None → has x.key (items m) ≡ false → c ≤ length (items m) → Case c x m

module _ (c : ℕ) (x : Record) (m : held.Model) where
  case_over : (r : Record) → length m ≤ c → held.lookup x.key m ≡ Some r → held.has x.key m ≡ true → Case c x m
  unfolding held.placing value_of
  case_over r k b h =
      let stored : has x.key (items m) ≡ true = has_items x.key m ∙ h in
      over r (rw b) (ap value_in (lookup_items x.key m ∙ ap taking b))
      (put_over c x m h ∙ sym (inserted_over c (item_of x) (items m) (omega (arith, shorter_without x.key (items m) stored, length_items m)) stored))

  case_new : held.lookup x.key m ≡ None → held.has x.key m ≡ false → Case c x m
  unfolding held.placing value_of
  case_new b h = go (dec_lt (length m) c)
    where
      missing : has x.key (items m) ≡ false
      missing = has_items x.key m ∙ h

      nothing : value_of x.key (items m) ≡ None
      nothing = ap value_in (lookup_items x.key m ∙ ap taking b)

      go : Dec (length m < c) → Case c x m
      go (yes r) =
          new (rw (b, lt-ltb (length m) c r)) nothing
          (put_new c x m h r ∙ sym (inserted_new c (item_of x) (items m) missing (omega (arith, length_items m))))
      go (no r) = full (rw (b, le-ltb (length m) c (omega arith))) nothing missing (omega (arith, length_items m))

case_of : (ws : List ℕ) (m : LinkedHashMap) (x : Record) → IsMap ws m → Case m.capacity x (map.model_of ws m)
case_of ws m x is = go (laws.keyed ws m x.key)
  where
    go : laws.Keyed ws m x.key → Case m.capacity x (map.model_of ws m)
    go (laws.held s r a b h) = case_over m.capacity x (map.model_of ws m) r (omega (arith, putting.model_length ws m, is.count)) b h
    go (laws.absent a b h) = case_new m.capacity x (map.model_of ws m) b h

module _ (ws : List ℕ) (l : FastLru) (x : Record) (ws' : List ℕ) where
  abbrev The : Type 0
  The = Case l.map.capacity x (map.model_of ws l.map)

  the : IsMap ws l.map → The
  the is = case_of ws l.map x is

  -- not the full case: the map's model is the list's
  pub put_in_lem : (m' : LinkedHashMap) (r : Result (Option Record) PutError) → Putting ws l.map x ws' m' r → (r ≡ Err failed.Full → ⊥) → IsMap ws l.map → model_of ws' (record { map = m' }) ≡ inserted l.map.capacity (item_of x) (model_of ws l)
  unfolding model_of
  put_in_lem m' r p room is = ap items (p.model is) ∙ go (the is)
    where
      go : The → items (held.put l.map.capacity x (map.model_of ws l.map)) ≡ inserted l.map.capacity (item_of x) (items (map.model_of ws l.map))
      go (over y e v m) = m
      go (new e v m) = m
      go (full e v h f) = absurd (room (p.answer is ∙ e))

  pub placing_over : (m' : LinkedHashMap) (old : Record) → Putting ws l.map x ws' m' (Ok (Some old)) → Placing ws l x ws' (record { map = m' }) (Some old.first)
  unfolding model_of
  placing_over m' old p = record {
    answer = λ is. value is (the is);
    capacity = p.capacity;
    map = p.map;
    model = put_in_lem m' _ p (λ e. cc);
    kept = p.kept;
  }
    where
      value : IsMap ws l.map → The → Some old.first ≡ value_of x.key (items (map.model_of ws l.map))
      value is (over r e v m) = let same : old ≡ r = cc (p.answer is) in ap (λ (y : Record). Some y.first) same ∙ sym v
      value is (new e v m) = cc (p.answer is)
      value is (full e v h f) = cc (p.answer is)

  pub placing_new : (m' : LinkedHashMap) → Putting ws l.map x ws' m' (Ok None) → Placing ws l x ws' (record { map = m' }) None
  unfolding model_of
  placing_new m' p = record {
    answer = λ is. value is (the is);
    capacity = p.capacity;
    map = p.map;
    model = put_in_lem m' _ p (λ e. cc);
    kept = p.kept;
  }
    where
      value : IsMap ws l.map → The → None ≡ value_of x.key (items (map.model_of ws l.map))
      value is (over r e v m) = cc (p.answer is)
      value is (new e v m) = sym v
      value is (full e v h f) = sym v

  -- the map says that it is full, so the eviction starts from the list
  pub placing_evicting : (r : FastLru) → Putting ws l.map x ws l.map (Err failed.Full) → PlacingFull ws l x ws' r → Placing ws l x ws' r None
  unfolding model_of
  placing_evicting r p e = record {
    answer = λ is. value is (the is);
    capacity = e.capacity;
    map = e.map;
    model = λ is. left is (the is);
    kept = e.kept;
  }
    where
      value : IsMap ws l.map → The → None ≡ value_of x.key (items (map.model_of ws l.map))
      value is (over y q v m) = cc (p.answer is)
      value is (new q v m) = sym v
      value is (full q v h f) = sym v

      left : IsMap ws l.map → The → items (map.model_of ws' r.map) ≡ inserted l.map.capacity (item_of x) (items (map.model_of ws l.map))
      left is (over y q v m) = cc (p.answer is)
      left is (new q v m) = cc (p.answer is)
      left is (full q v h f) = e.model is h f

-- no map
pub placing_none : (ws : List ℕ) (l : FastLru) (x : Record) → (IsMap ws l.map → ⊥) → Placing ws l x ws l None
placing_none ws l x never-map = record {
  answer = λ is. absurd (never-map is);
  capacity = refl;
  map = λ is. is;
  model = λ is. absurd (never-map is);
  kept = record { size = refl; past = λ j h. refl };
}
