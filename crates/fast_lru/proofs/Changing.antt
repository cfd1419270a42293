-- The calls that may change the list: refused, or the map's own call read as items.
use mathlib.Core.Path.{◌≡◌, refl, sym, ap, subst, ◌∙◌}
use mathlib.Core.List.{List, []}
use Prim.Native.Nat.{ℕ}
use native.Mathlib.Omega.{arith}
use lib.ListN.{length}
use Rattle.std.specs.Prelude.{Option, Some, None, Result, Ok, Err, is_some, slice_get, ⊤}
use Rattle.limits.specs.Limits.{list_limits}
use Rattle.time.specs.declared.refusal.Refusal.{Refusal}
use Rattle.linked_hash_map.specs.declared.map.LinkedHashMap.{LinkedHashMap}
use Rattle.linked_hash_map.specs.declared.map.Record.{Record}
use Rattle.linked_hash_map.specs.declared.map.Unfit.{Unfit}
use Rattle.linked_hash_map.specs.Model as held
use Rattle.linked_hash_map.specs.Map as map
use Rattle.linked_hash_map.specs.Map.{IsMap}
use Rattle.linked_hash_map.specs.Calls as calls
use Rattle.linked_hash_map.proofs.Laws as laws
use Rattle.fast_lru.specs.declared.lru.FastLru.{FastLru}
use Rattle.fast_lru.specs.Refusals.{admitted}
use Rattle.fast_lru_model.specs.Model.{Item, Items, has, without, less, value_in, item_in, value_of, to_front, last, oldest_of, popped}
use Rattle.fast_lru.specs.Lru.{items, model_of}
use Rattle.fast_lru.specs.Steps.{taking, Stepping, ValueAt, Picking}
use Rattle.fast_lru.specs.Calls.{IsNew, Opening, Changing}
use Rattle.fast_lru.proofs.Items.{lookup_items, without_items, front_items}
use Rattle.fast_lru.proofs.Limits.{done, opening_fits, kept_same, kept_map}
use Rattle.fast_lru.proofs.Slots.{slot_in, key_value, has_slot}

-- ---- `new`
pub opening_refused : (ws : List ℕ) (c : ℕ) (why : Refusal) → list_limits c (length ws) ≡ Err why → Opening ws c ws (Err why)
opening_refused ws c why p = record { refused = λ w e. (cc, refl); only = λ w e. cc; opened = λ l e. cc; kept = kept_same c ws }

pub opening_done : (ws : List ℕ) (c : ℕ) (ws' : List ℕ) (m : LinkedHashMap) → list_limits c (length ws) ≡ Ok tt → calls.Opening ws c ws' (Ok m) → Opening ws c ws' (Ok (record { map = m }))
unfolding model_of
opening_done ws c ws' m d o =
    let f = opening_fits c (length ws) d in
    let new : IsNew c ws' (record { map = m }) = record { capacity = o.capacity; list = record { map = o.map; words = omega (arith, o.capacity, o.kept.size, f.words) }; model = ap items o.model } in
    record {
      refused = λ w e. absurd (done d e);
      only = λ w e. cc;
      opened = λ l e. let same : record { map = m } ≡ l = cc in subst (IsNew c ws') same new;
      kept = kept_map o.kept;
    }

-- ---- the others
-- an admitted call does what its step does, and a map in the words of a list is a list
pub changing : {A : Type 0} {ws : List ℕ} {l : FastLru} {answer_of : Items → A} {left_of : Items → Items} {ws' : List ℕ} {l' : FastLru} {a : A} → admitted l (length ws) ≡ Ok tt → Stepping ws l answer_of left_of ws' l' a → Changing ws l answer_of left_of ws' l' (Ok a)
changing d s = record {
  refused = λ w e. absurd (done d e);
  only = λ w e. cc;
  answer = λ is. ap Ok (s.answer is.map);
  capacity = s.capacity;
  list = λ is. record { map = s.map is.map; words = omega (arith, s.capacity, s.kept.size, is.words) };
  model = λ is. s.model is.map;
  kept = kept_map s.kept;
}

-- a removal's model
model_without : (ws ws' : List ℕ) (l r : FastLru) (k : ℕ) → map.model_of ws' r.map ≡ held.without k (map.model_of ws l.map) → model_of ws' r ≡ without k (model_of ws l)
unfolding model_of
model_without ws ws' l r k e = ap items e ∙ without_items k (map.model_of ws l.map)

-- the list with an item gone, told by its key and its value
abbrev pub less_item : Option (ℕ × ℕ) → Items → Items
less_item None l = l
less_item (Some (k, v)) l = without k l

pub less_item_lem : (o : Option Item) (l : Items) → less_item (item_in o) l ≡ less o l
less_item_lem None l = refl
less_item_lem (Some i) l = refl

popped_item : (l : Items) {o : Option (ℕ × ℕ)} → o ≡ oldest_of l → less_item o l ≡ popped l
unfolding popped oldest_of
popped_item l e = ap (λ (y : Option (ℕ × ℕ)). less_item y l) e ∙ less_item_lem (last l) l

-- the map's touch moves the item
front_model : (ws : List ℕ) (l : FastLru) (k : ℕ) (ws' : List ℕ) (x : Result (Option ℕ) Unfit) → calls.Touching ws l.map k ws' x → IsMap ws l.map → model_of ws' l ≡ to_front k (model_of ws l)
unfolding model_of
front_model ws l k ws' x t is = ap items (t.model is) ∙ front_items k (map.model_of ws l.map)

-- the item in front is the key's
front_value : (ws : List ℕ) (l : FastLru) (k : ℕ) (r : Record) → held.lookup k (map.model_of ws l.map) ≡ Some r → value_in (slice_get (to_front k (model_of ws l)) 0) ≡ value_of k (model_of ws l)
unfolding model_of to_front value_of
front_value ws l k r e = rw (lookup_items k (map.model_of ws l.map), e)

module _ (ws : List ℕ) (l : FastLru) where
  pub clearing : (ws' : List ℕ) (m' : LinkedHashMap) (r : Result ⊤ Unfit) → calls.Clearing ws l.map ws' m' r → Stepping {A = ⊤} ws l (λ m. tt) (λ m. []) ws' (record { map = m' }) tt
  unfolding model_of
  clearing ws' m' r o = record { answer = λ is. refl; capacity = o.capacity; map = o.map; model = λ is. ap items (o.model is); kept = o.kept }

  module _ (k : ℕ) where
    pub touching : (ws' : List ℕ) (x : Result (Option ℕ) Unfit) → calls.Touching ws l.map k ws' x → Stepping ws l (has k) (to_front k) ws' l (is_some (slot_in x))
    touching ws' x t = record {
      answer = λ is. ap (λ (y : Result (Option ℕ) Unfit). is_some (slot_in y)) (t.answer is) ∙ sym (has_slot ws l k);
      capacity = refl;
      map = t.map;
      model = front_model ws l k ws' x t;
      kept = t.kept;
    }

    pub getting : (ws' : List ℕ) (x : Result (Option ℕ) Unfit) (r : Option ℕ) → calls.Touching ws l.map k ws' x → ValueAt ws' l (slot_in x) r → Stepping ws l (value_of k) (to_front k) ws' l r
    getting ws' x r t v = record {
      answer = λ is. value is (laws.keyed ws l.map k);
      capacity = refl;
      map = t.map;
      model = front_model ws l k ws' x t;
      kept = t.kept;
    }
      where
        value : IsMap ws l.map → laws.Keyed ws l.map k → r ≡ value_of k (model_of ws l)
        value is (laws.held s i a b h) =
            let at : x ≡ Ok (Some s) = t.answer is ∙ ap Ok a in
            v.placed (t.map is) 0 (t.front is s at ∙ sym (ap slot_in at))
            ∙ ap (λ (m : Items). value_in (slice_get m 0)) (front_model ws l k ws' x t is)
            ∙ front_value ws l k i b
        value is (laws.absent a b h) = v.nothing (ap slot_in (t.answer is ∙ ap Ok a)) ∙ sym (key_value ws l k None b)

    pub removing : (ws' : List ℕ) (m' : LinkedHashMap) (o : Option Record) → calls.Removing ws l.map k ws' m' (Ok o) → Stepping ws l (value_of k) (without k) ws' (record { map = m' }) (value_in (taking o))
    removing ws' m' o h = record {
      answer = λ is. sym (key_value ws l k o (cc (h.answer is)));
      capacity = h.capacity;
      map = h.map;
      model = λ is. model_without ws ws' l (record { map = m' }) k (h.model is);
      kept = h.kept;
    }

    -- no map
    pub removing_none : (IsMap ws l.map → ⊥) → Stepping ws l (value_of k) (without k) ws l None
    removing_none never = record { answer = λ is. absurd (never is); capacity = refl; map = λ is. is; model = λ is. absurd (never is); kept = record { size = refl; past = λ j h. refl } }

  -- the oldest item, removed by its key
  pub popping : (k v : ℕ) (ws' : List ℕ) (m' : LinkedHashMap) (r : Result (Option Record) Unfit) → Picking ws l (Some (k, v)) → calls.Removing ws l.map k ws' m' r → Stepping ws l oldest_of popped ws' (record { map = m' }) (Some (k, v))
  popping k v ws' m' r p h = record {
    answer = p.answer;
    capacity = h.capacity;
    map = h.map;
    model = λ is. model_without ws ws' l (record { map = m' }) k (h.model is) ∙ popped_item (model_of ws l) (p.answer is);
    kept = h.kept;
  }

  pub popping_none : Picking ws l None → Stepping ws l oldest_of popped ws l None
  popping_none p = record {
    answer = p.answer;
    capacity = refl;
    map = λ is. is;
    model = λ is. popped_item (model_of ws l) (p.answer is);
    kept = record { size = refl; past = λ j h. refl };
  }
