-- The map's slots read as items: by their key, and by their place.
use mathlib.Core.Path.{◌≡◌, refl, sym, ap, ◌∙◌}
use mathlib.Core.List.{List}
use Prim.Native.Nat.{ℕ, ◌-◌, ◌<◌, ◌≤◌}
use native.Mathlib.Decide.{dec_lt}
use native.Mathlib.Omega.{arith}
use lib.ListN.{length}
use Rattle.std.specs.Prelude.{Option, Some, None, Result, is_some, slice_get}
use Rattle.std.proofs.lemmas.Option.{slice_get_past}
use Rattle.std.specs.Result.{result_unwrap_or}
use Rattle.linked_hash_map.specs.declared.map.Record.{Record}
use Rattle.linked_hash_map.specs.declared.map.Unfit.{Unfit}
use Rattle.linked_hash_map.specs.Model as held
use Rattle.linked_hash_map.specs.Map.{IsMap, slot_of, slot_at}
use Rattle.linked_hash_map.specs.Map as map
use Rattle.linked_hash_map.specs.Calls as calls
use Rattle.linked_hash_map.proofs.Laws as laws
use Rattle.linked_hash_map.proofs.Putting as putting
use Rattle.fast_lru.specs.declared.lru.FastLru.{FastLru}
use Rattle.fast_lru_model.specs.Model.{has, value_in, item_in, value_of, victim, oldest_of, Distinct}
use Rattle.fast_lru.specs.Lru.{model_of}
use Rattle.fast_lru.specs.Steps.{taking, ValueAt, Picking, Choosing}
use Rattle.fast_lru.proofs.Items.{length_items, lookup_items, has_items, nth_items, distinct_items}
use Rattle.fast_lru.proofs.Lists.{last_nth}

-- the slot in what the map answers: where it refuses, none
abbrev pub slot_in : Result (Option ℕ) Unfit → Option ℕ
slot_in r = result_unwrap_or r None

module _ (ws : List ℕ) (l : FastLru) where
  -- the model has as many items as the numbers say
  pub model_length : length (model_of ws l) ≡ l.map.len
  unfolding model_of
  model_length = length_items (map.model_of ws l.map) ∙ putting.model_length ws l.map

  pub model_distinct : IsMap ws l.map → Distinct (model_of ws l)
  unfolding model_of
  model_distinct is = distinct_items (map.model_of ws l.map) (laws.map_distinct is)

  pub key_value : (k : ℕ) (o : Option Record) → held.lookup k (map.model_of ws l.map) ≡ o → value_of k (model_of ws l) ≡ value_in (taking o)
  unfolding value_of model_of
  key_value k o e = ap value_in (lookup_items k (map.model_of ws l.map) ∙ ap taking e)

  pub place_item : (i : ℕ) (o : Option Record) → held.nth i (map.model_of ws l.map) ≡ o → slice_get (model_of ws l) i ≡ taking o
  unfolding model_of
  place_item i o e = nth_items i (map.model_of ws l.map) ∙ ap taking e

  -- a key has a slot exactly where it has an item
  pub has_slot : (k : ℕ) → has k (model_of ws l) ≡ is_some (slot_of ws l.map k)
  unfolding model_of
  has_slot k = has_items k (map.model_of ws l.map) ∙ go (laws.keyed ws l.map k)
    where
      go : laws.Keyed ws l.map k → held.has k (map.model_of ws l.map) ≡ is_some (slot_of ws l.map k)
      go (laws.held s r a b h) = h ∙ ap is_some (sym a)
      go (laws.absent a b h) = h ∙ ap is_some (sym a)

  key_none : (k : ℕ) → slot_of ws l.map k ≡ None → value_of k (model_of ws l) ≡ None
  key_none k e = go (laws.keyed ws l.map k)
    where
      go : laws.Keyed ws l.map k → value_of k (model_of ws l) ≡ None
      go (laws.held s r a b h) = cc
      go (laws.absent a b h) = key_value k None b

  -- a place with no slot has no item
  pub place_past : (i : ℕ) → slot_at ws l.map i ≡ None → l.map.len ≤ i
  place_past i e = go (dec_lt i l.map.len)
    where
      go : Dec (i < l.map.len) → l.map.len ≤ i
      go (yes h) = cc (laws.place_taken ws l.map i h)
      go (no h) = omega arith

  pub place_none : (i : ℕ) → slot_at ws l.map i ≡ None → slice_get (model_of ws l) i ≡ None
  place_none i e = slice_get_past (model_of ws l) i (omega (arith, place_past i e, model_length))

  -- ---- `value_at`
  pub value_at : (s : ℕ) (r : Record) → calls.Reading ws l.map s r → ValueAt ws l (Some s) (Some r.first)
  value_at s r h = record {
    nothing = λ e. cc;
    keyed = λ is k e. sym (key_value k (Some r) (h.keyed is k e));
    placed = λ is i e. ap value_in (sym (place_item i (Some r) (h.placed is i e)));
  }

  pub value_at_none : ValueAt ws l None None
  value_at_none = record {
    nothing = λ e. refl;
    keyed = λ is k e. sym (key_none k e);
    placed = λ is i e. ap value_in (sym (place_none i e));
  }

  -- ---- `oldest`, `victim`
  -- the last place is that of the last item
  oldest_at : oldest_of (model_of ws l) ≡ item_in (slice_get (model_of ws l) (l.map.len - 1))
  unfolding oldest_of
  oldest_at = ap item_in (last_nth (model_of ws l)) ∙ ap (λ (n : ℕ). item_in (slice_get (model_of ws l) (n - 1))) model_length

  module _ (x : Result (Option ℕ) Unfit) (end : calls.Ending ws l.map (l.map.len - 1) x) where
    last_slot : IsMap ws l.map → slot_at ws l.map (l.map.len - 1) ≡ slot_in x
    last_slot is = ap slot_in (sym (end.answer is))

    pub picking : (s : ℕ) (r : Record) → slot_in x ≡ Some s → calls.Reading ws l.map s r → Picking ws l (Some (r.key, r.first))
    picking s r e h = record { answer = λ is. sym (oldest_at ∙ ap item_in (place_item (l.map.len - 1) (Some r) (h.placed is (l.map.len - 1) (last_slot is ∙ e)))) }

    pub picking_none : slot_in x ≡ None → Picking ws l None
    picking_none e = record { answer = λ is. sym (oldest_at ∙ ap item_in (place_none (l.map.len - 1) (last_slot is ∙ e))) }

  pub choosing : (r : Option (ℕ × ℕ)) → Picking ws l r → Choosing ws l r
  unfolding victim oldest_of
  choosing r p = record { answer = p.answer }
