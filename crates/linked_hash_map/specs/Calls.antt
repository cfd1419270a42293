-- What each call promises: on any words at all, and on a map.
use Rattle.std.specs.Prelude.{◌≡◌, Bool, true, false, cond, List, [], ℕ, ◌+◌, ◌*◌, ◌<◌, ◌≤◌, ltb, length, get_or, Option, Some, None, Result, Ok, Err, IsOk, IfOk}
use Rattle.limits.specs.Limits.{map_fits}
use Rattle.cells.specs.declared.Probe.{Probe}
use Rattle.cells.specs.declared.Probe.TheVariants.{At, Free}
use Rattle.cells.specs.Probe.{probe}
use Rattle.linked_hash_map.specs.declared.map.LinkedHashMap.{LinkedHashMap}
use Rattle.linked_hash_map.specs.declared.map.Record.{Record}
use Rattle.linked_hash_map.specs.declared.map.Unfit.{Unfit}
use Rattle.linked_hash_map.specs.declared.map.PutError.{PutError}
use Rattle.linked_hash_map.specs.declared.map.PutError.TheVariants as failed
use Rattle.linked_hash_map.specs.Words.{Kept}
use Rattle.linked_hash_map.specs.Numbers.{shrunk_map, longer_map, slot_from}
use Rattle.linked_hash_map.specs.Model.{has, lookup, nth, without, to_front, with_payload, placing, put, recycled}
use Rattle.linked_hash_map.specs.Map.{IsMap, model_of, slot_of, slot_at}

-- the answer where the capacity is above the limit or the words are too few for it
abbrev pub unfit : {A : Type 0} → Result A Unfit
unfit = Err (record {})

-- `open`: the empty map, whatever the words held
pub record Opening (ws : List ℕ) (n : ℕ) (ws' : List ℕ) (r : Result LinkedHashMap Unfit) : Type 0 where
  pub refused : map_fits n (length ws) ≡ false → (r ≡ unfit) × (ws' ≡ ws)
  pub opened : map_fits n (length ws) ≡ true → IsOk r
  pub capacity : IfOk r (λ m. m.capacity ≡ n)
  pub map : IfOk r (λ m. IsMap ws' m)
  pub model : IfOk r (λ m. model_of ws' m ≡ [])
  pub kept : Kept n ws ws'

-- `clear`: the empty map of the same capacity. Words that are no map need not become one: that is what `open` does.
pub record Clearing (ws : List ℕ) (m : LinkedHashMap) (ws' : List ℕ) (m' : LinkedHashMap) (r : Result Unit Unfit) : Type 0 where
  pub refused : map_fits m.capacity (length ws) ≡ false → (r ≡ unfit) × (m' ≡ m) × (ws' ≡ ws)
  pub cleared : map_fits m.capacity (length ws) ≡ true → IsOk r
  pub capacity : m'.capacity ≡ m.capacity
  pub map : IsMap ws m → IsMap ws' m'
  pub model : IsMap ws m → model_of ws' m' ≡ []
  pub kept : Kept m.capacity ws ws'

-- records removed until k are left
pub record Draining (ws : List ℕ) (m : LinkedHashMap) (k : ℕ) (ws' : List ℕ) (m' : LinkedHashMap) : Type 0 where
  pub capacity : m'.capacity ≡ m.capacity
  pub map : IsMap ws m → IsMap ws' m'
  pub left : IsMap ws m → length (model_of ws' m') ≡ k
  pub kept : Kept m.capacity ws ws'

-- `find`: the slot of a key's record
pub record Finding (ws : List ℕ) (m : LinkedHashMap) (k : ℕ) (r : Result (Option ℕ) Unfit) : Type 0 where
  pub refused : map_fits m.capacity (length ws) ≡ false → r ≡ unfit
  pub answer : IsMap ws m → r ≡ Ok (slot_of ws m k)

-- `touch`: the same, and the record moves to the front
pub record Touching (ws : List ℕ) (m : LinkedHashMap) (k : ℕ) (ws' : List ℕ) (r : Result (Option ℕ) Unfit) : Type 0 where
  pub refused : map_fits m.capacity (length ws) ≡ false → (r ≡ unfit) × (ws' ≡ ws)
  pub answer : IsMap ws m → r ≡ Ok (slot_of ws m k)
  pub map : IsMap ws m → IsMap ws' m
  pub model : IsMap ws m → model_of ws' m ≡ to_front k (model_of ws m)
  pub front : IsMap ws m → (s : ℕ) → r ≡ Ok (Some s) → slot_at ws' m 0 ≡ Some s
  pub kept : Kept m.capacity ws ws'

-- `record`: what stands at a slot, by its key or by its place; zeros where nothing can stand
abbrev pub zeros : Record
zeros = record { key = 0; first = 0; second = 0 }

pub record Reading (ws : List ℕ) (m : LinkedHashMap) (s : ℕ) (r : Record) : Type 0 where
  pub refused : map_fits m.capacity (length ws) ≡ false → r ≡ zeros
  pub past : m.capacity ≤ s → r ≡ zeros
  pub keyed : IsMap ws m → (k : ℕ) → slot_of ws m k ≡ Some s → lookup k (model_of ws m) ≡ Some r
  pub placed : IsMap ws m → (i : ℕ) → slot_at ws m i ≡ Some s → nth i (model_of ws m) ≡ Some r

-- `set_payload`: the record of the same key replaced in its place
pub record Writing (ws : List ℕ) (m : LinkedHashMap) (x : Record) (ws' : List ℕ) (r : Bool) : Type 0 where
  pub refused : map_fits m.capacity (length ws) ≡ false → (r ≡ false) × (ws' ≡ ws)
  pub answer : IsMap ws m → r ≡ has x.key (model_of ws m)
  pub map : IsMap ws m → IsMap ws' m
  pub model : IsMap ws m → model_of ws' m ≡ with_payload x (model_of ws m)
  pub slots : IsMap ws m → (i : ℕ) → slot_at ws' m i ≡ slot_at ws m i
  pub kept : Kept m.capacity ws ws'

-- `put`: the record at the front, in the place of its key's old one; with a new key and no free record, nothing
pub record Putting (ws : List ℕ) (m : LinkedHashMap) (x : Record) (ws' : List ℕ) (m' : LinkedHashMap) (r : Result (Option Record) PutError) : Type 0 where
  pub refused : map_fits m.capacity (length ws) ≡ false → (r ≡ Err failed.Unfit) × (m' ≡ m) × (ws' ≡ ws)
  pub answer : IsMap ws m → r ≡ placing m.capacity x (model_of ws m)
  pub capacity : m'.capacity ≡ m.capacity
  pub map : IsMap ws m → IsMap ws' m'
  pub model : IsMap ws m → model_of ws' m' ≡ put m.capacity x (model_of ws m)
  pub full : r ≡ Err failed.Full → (m' ≡ m) × (ws' ≡ ws)
  pub kept : Kept m.capacity ws ws'

-- `remove`: the key's record, which is then gone
pub record Removing (ws : List ℕ) (m : LinkedHashMap) (k : ℕ) (ws' : List ℕ) (m' : LinkedHashMap) (r : Result (Option Record) Unfit) : Type 0 where
  pub refused : map_fits m.capacity (length ws) ≡ false → (r ≡ unfit) × (m' ≡ m) × (ws' ≡ ws)
  pub answer : IsMap ws m → r ≡ Ok (lookup k (model_of ws m))
  pub capacity : m'.capacity ≡ m.capacity
  pub map : IsMap ws m → IsMap ws' m'
  pub model : IsMap ws m → model_of ws' m' ≡ without k (model_of ws m)
  pub kept : Kept m.capacity ws ws'

-- `seek`: where the probe of a key ends
unfoldable pub place_of : List ℕ → LinkedHashMap → ℕ → Result Probe Unfit
place_of ws m k = cond (map_fits m.capacity (length ws)) (Ok (probe ws m.capacity k)) unfit

-- `replace_at`: what `put` does where its key is at a slot
pub record ReplacingAt (ws : List ℕ) (m : LinkedHashMap) (s : ℕ) (x : Record) (ws' : List ℕ) (r : Record) : Type 0 where
  pub refused : map_fits m.capacity (length ws) ≡ false → (r ≡ x) × (ws' ≡ ws)
  pub put : (c : ℕ) → place_of ws m x.key ≡ Ok (At c s) → Putting ws m x ws' m (Ok (Some r))
  pub kept : Kept m.capacity ws ws'

-- `insert_at`: where its key is new, and there are fewer records than the capacity
pub record InsertingAt (ws : List ℕ) (m : LinkedHashMap) (c : ℕ) (x : Record) (ws' : List ℕ) (m' : LinkedHashMap) : Type 0 where
  pub refused : map_fits m.capacity (length ws) ≡ false → (m' ≡ m) × (ws' ≡ ws)
  pub put : place_of ws m x.key ≡ Ok (Free c) → m.len < m.capacity → Putting ws m x ws' m' (Ok None)
  pub numbers : place_of ws m x.key ≡ Ok (Free c) → m' ≡ longer_map m m'.refill_in
  pub capacity : m'.capacity ≡ m.capacity
  pub kept : Kept m.capacity ws ws'

-- `take_at`: what `remove` does where its key is at a cell and a slot, told by the first word of the record that is gone
pub record TakingAt (ws : List ℕ) (m : LinkedHashMap) (c s : ℕ) (ws' : List ℕ) (m' : LinkedHashMap) (r : ℕ) : Type 0 where
  pub gone : Record
  pub first : r ≡ gone.first
  pub refused : map_fits m.capacity (length ws) ≡ false → (r ≡ 0) × (m' ≡ m) × (ws' ≡ ws)
  pub remove : (k : ℕ) → place_of ws m k ≡ Ok (At c s) → Removing ws m k ws' m' (Ok (Some gone))
  pub numbers : (k : ℕ) → place_of ws m k ≡ Ok (At c s) → m' ≡ shrunk_map m
  pub capacity : m'.capacity ≡ m.capacity
  pub kept : Kept m.capacity ws ws'

-- `recycle`: a record at the front, in the place of another key's
pub record Recycling (ws : List ℕ) (m : LinkedHashMap) (k : ℕ) (x : Record) (ws' : List ℕ) (m' : LinkedHashMap) : Type 0 where
  pub refused : map_fits m.capacity (length ws) ≡ false → (m' ≡ m) × (ws' ≡ ws)
  pub capacity : m'.capacity ≡ m.capacity
  pub map : IsMap ws m → IsMap ws' m'
  pub model : IsMap ws m → model_of ws' m' ≡ recycled k x (model_of ws m)
  pub kept : Kept m.capacity ws ws'

-- the slot to which word i of the live ring's own node leads, and of a record's node
unfoldable pub end_of : List ℕ → LinkedHashMap → ℕ → Result (Option ℕ) Unfit
end_of ws m i = cond (map_fits m.capacity (length ws)) (Ok (slot_from m.capacity (get_or ws (5 * m.capacity + i) 0))) unfit

unfoldable pub beside : List ℕ → LinkedHashMap → ℕ → ℕ → Result (Option ℕ) Unfit
beside ws m s i = cond (map_fits m.capacity (length ws)) (Ok (cond (ltb s m.capacity) (slot_from m.capacity (get_or ws (5 * s + i) 0)) None)) unfit

-- `first` and `last`: the ends of the order
pub record Ending (ws : List ℕ) (m : LinkedHashMap) (i : ℕ) (r : Result (Option ℕ) Unfit) : Type 0 where
  pub refused : map_fits m.capacity (length ws) ≡ false → r ≡ unfit
  pub answer : IsMap ws m → r ≡ Ok (slot_at ws m i)

-- `next`: the slot after the i-th
pub record Next (ws : List ℕ) (m : LinkedHashMap) (s : ℕ) (r : Result (Option ℕ) Unfit) : Type 0 where
  pub refused : map_fits m.capacity (length ws) ≡ false → r ≡ unfit
  pub answer : IsMap ws m → (i : ℕ) → slot_at ws m i ≡ Some s → r ≡ Ok (slot_at ws m (i + 1))

-- `previous`: the slot before the i-th
pub record Previous (ws : List ℕ) (m : LinkedHashMap) (s : ℕ) (r : Result (Option ℕ) Unfit) : Type 0 where
  pub refused : map_fits m.capacity (length ws) ≡ false → r ≡ unfit
  pub front : IsMap ws m → slot_at ws m 0 ≡ Some s → r ≡ Ok None
  pub answer : IsMap ws m → (i : ℕ) → slot_at ws m (i + 1) ≡ Some s → r ≡ Ok (slot_at ws m i)

-- `check`: yes exactly for a map
pub record Checking (ws : List ℕ) (m : LinkedHashMap) (r : Bool) : Type 0 where
  pub sound : r ≡ true → IsMap ws m
  pub complete : IsMap ws m → r ≡ true
