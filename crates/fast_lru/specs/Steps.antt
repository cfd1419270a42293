-- What the steps of the calls promise. They come once a call is admitted, so they refuse nothing.
use Rattle.std.specs.Prelude.{◌≡◌, false, List, ℕ, ◌-◌, ◌≤◌, length, Option, Some, None, option_map, slice_get}
use Rattle.linked_hash_map.specs.declared.map.Record.{Record}
use Rattle.linked_hash_map.specs.Map.{IsMap, slot_of, slot_at}
use Rattle.linked_hash_map.specs.Words as words
use Rattle.fast_lru.specs.declared.lru.FastLru.{FastLru}
use Rattle.fast_lru_model.specs.Model.{Item, Items, has, value_in, item_in, value_of, victim, inserted, oldest_of, rank_of}
use Rattle.fast_lru.specs.Lru.{item_of, model_of}

-- what the map holds or took out, read as an item
abbrev pub taking : Option Record → Option Item
taking o = option_map item_of o

-- a step of a call that may change the list: what it answers on one, and which model it leaves
pub record Stepping {A : Type 0} (ws : List ℕ) (l : FastLru) (answer_of : Items → A) (left_of : Items → Items) (ws' : List ℕ) (l' : FastLru) (a : A) : Type 0 where
  pub answer : IsMap ws l.map → a ≡ answer_of (model_of ws l)
  pub capacity : l'.map.capacity ≡ l.map.capacity
  pub map : IsMap ws l.map → IsMap ws' l'.map
  pub model : IsMap ws l.map → model_of ws' l' ≡ left_of (model_of ws l)
  pub kept : words.Kept l.map.capacity ws ws'

-- `value_at`: the value at a slot, which a key or a place has
pub record ValueAt (ws : List ℕ) (l : FastLru) (x r : Option ℕ) : Type 0 where
  pub nothing : x ≡ None → r ≡ None
  pub keyed : IsMap ws l.map → (k : ℕ) → slot_of ws l.map k ≡ x → r ≡ value_of k (model_of ws l)
  pub placed : IsMap ws l.map → (i : ℕ) → slot_at ws l.map i ≡ x → r ≡ value_in (slice_get (model_of ws l) i)

-- `oldest`
pub record Picking (ws : List ℕ) (l : FastLru) (r : Option (ℕ × ℕ)) : Type 0 where
  pub answer : IsMap ws l.map → r ≡ oldest_of (model_of ws l)

-- `victim`
pub record Choosing (ws : List ℕ) (l : FastLru) (r : Option (ℕ × ℕ)) : Type 0 where
  pub answer : IsMap ws l.map → r ≡ item_in (victim (model_of ws l))

-- `place`
abbrev pub Placing : List ℕ → FastLru → Record → List ℕ → FastLru → Option ℕ → Type 0
Placing ws l x ws' l' r = Stepping ws l (value_of x.key) (inserted l.map.capacity (item_of x)) ws' l' r

-- `place_evicting`: a new key in a full list
pub record PlacingFull (ws : List ℕ) (l : FastLru) (x : Record) (ws' : List ℕ) (l' : FastLru) : Type 0 where
  pub capacity : l'.map.capacity ≡ l.map.capacity
  pub map : IsMap ws l.map → IsMap ws' l'.map
  pub model : IsMap ws l.map → has x.key (model_of ws l) ≡ false → l.map.capacity ≤ length (model_of ws l) → model_of ws' l' ≡ inserted l.map.capacity (item_of x) (model_of ws l)
  pub kept : words.Kept l.map.capacity ws ws'

-- `rank_between`: the walks from the first item's slot and from the last one's
pub record RankBetween (ws : List ℕ) (l : FastLru) (x s t : ℕ) (r : Option ℕ) : Type 0 where
  pub answer : IsMap ws l.map → (k : ℕ) → slot_of ws l.map k ≡ Some x → slot_at ws l.map 0 ≡ Some s → slot_at ws l.map (l.map.len - 1) ≡ Some t → r ≡ rank_of k (model_of ws l)

-- `rank_of`
pub record RankOf (ws : List ℕ) (l : FastLru) (k : ℕ) (r : Option ℕ) : Type 0 where
  pub answer : IsMap ws l.map → r ≡ rank_of k (model_of ws l)
