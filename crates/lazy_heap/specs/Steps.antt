-- What the private steps promise, on the two parts of a heap. A step that a call is made of may leave the parts for a
-- moment without what they have to do with each other.
use Rattle.std.specs.Prelude.{◌≡◌, Bool, true, false, cond, List, ℕ, ◌+◌, ◌-◌, ◌*◌, ◌^◌, ◌<◌, ◌≤◌, eqb, leb, length, get_or, Option, None, Some, Result, Ok, Err}
use Rattle.binary_heap.specs.declared.entries.Entry.{Entry}
use Rattle.binary_heap.specs.Order.{insert, at_most}
use Rattle.binary_heap.specs.Heap.{fit, first, rest}
use Rattle.cells.specs.declared.Probe.{Probe}
use Rattle.cells.specs.declared.Probe.TheVariants.{At, Free, Full}
use Rattle.linked_hash_map.specs.declared.map.LinkedHashMap.{LinkedHashMap}
use Rattle.linked_hash_map.specs.declared.map.Record.{Record}
use Rattle.linked_hash_map.specs.declared.map.PutError.{PutError}
use Rattle.linked_hash_map.specs.Model.{lookup}
use Rattle.linked_hash_map.specs.Map.{slot_at}
use Rattle.linked_hash_map.specs.Map as map
use Rattle.linked_hash_map.specs.Calls.{Putting, Removing}
use Rattle.lazy_heap.specs.declared.heap.LazyMinHeap.{LazyMinHeap}
use Rattle.lazy_heap.specs.Words.{start, part, Kept}
use Rattle.lazy_heap_model.specs.Model.{live, stale_before, from_live, surplus, live_entries, numbered, renumbered, too_many, is_full, before_push, maybe_rebuilt, pushed, removed, held_score}
use Rattle.lazy_heap.specs.Heap.{held_of, entries_of, model_of, Parts}

-- the entries alone changed
pub record Entered (ws : List ℕ) (h : LazyMinHeap) (ws' : List ℕ) (h' : LazyMinHeap) : Type 0 where
  pub scores : h'.scores ≡ h.scores
  pub seq : h'.seq ≡ h.seq
  pub factor : h'.factor ≡ h.factor
  pub held : Parts ws h → held_of ws' h' ≡ held_of ws h
  pub places : Parts ws h → (i : ℕ) → slot_at ws' h.scores i ≡ slot_at ws h.scores i
  pub kept : Kept h.scores.capacity ws ws'

-- `push`
pub record Pushing (ws : List ℕ) (h : LazyMinHeap) (e : Entry) (ws' : List ℕ) (h' : LazyMinHeap) : Type 0 where
  pub entered : Entered ws h ws' h'
  pub count : Parts ws h → h.entries ≤ 8 * h.scores.capacity → h'.entries ≡ h.entries + 1
  pub parts : Parts ws h → h.entries ≤ 8 * h.scores.capacity → Parts ws' h'
  pub entries : Parts ws h → h.entries ≤ 8 * h.scores.capacity → entries_of ws' h' ≡ insert e (entries_of ws h)

-- whether the entries fit their words
abbrev pub in_words : List ℕ → LazyMinHeap → Bool
in_words ws h = fit h.entries (length (part h.scores.capacity ws))

-- `pop`
pub record Popping (ws : List ℕ) (h : LazyMinHeap) (ws' : List ℕ) (h' : LazyMinHeap) : Type 0 where
  pub entered : Entered ws h ws' h'
  pub shorter : in_words ws h ≡ true → h'.entries ≡ h.entries - 1
  pub count : Parts ws h → h'.entries ≡ h.entries - 1
  pub parts : Parts ws h → Parts ws' h'
  pub entries : Parts ws h → entries_of ws' h' ≡ rest (entries_of ws h)

-- the first entry gone, and a key
pub record Taking (ws : List ℕ) (h : LazyMinHeap) (k : ℕ) (ws' : List ℕ) (h' : LazyMinHeap) : Type 0 where
  pub capacity : h'.scores.capacity ≡ h.scores.capacity
  pub parts : Parts ws h → Parts ws' h'
  pub model : Parts ws h → model_of ws' h' ≡ removed k (record { limit = h.scores.capacity; factor = h.factor; next = h.seq; held = held_of ws h; entries = rest (entries_of ws h) })
  pub kept : Kept h.scores.capacity ws ws'

-- `take_top`
abbrev pub TakingTop : List ℕ → LazyMinHeap → Option Entry → List ℕ → LazyMinHeap → Type 0
TakingTop ws h (Some e) ws' h' = Taking ws h e.key ws' h'
TakingTop ws h None ws' h' = (h' ≡ h) × (ws' ≡ ws)

-- `top`
pub record Peeking (ws : List ℕ) (h : LazyMinHeap) (r : Option Entry) : Type 0 where
  pub refused : in_words ws h ≡ false → r ≡ None
  pub none : h.entries ≡ 0 → r ≡ None
  pub answer : Parts ws h → r ≡ first (entries_of ws h)

-- `count_entries`
pub record CountingEntries (ws : List ℕ) (h : LazyMinHeap) (score r : ℕ) : Type 0 where
  pub answer : Parts ws h → r ≡ at_most score (entries_of ws h)

-- `is_live`
pub record Living (ws : List ℕ) (h : LazyMinHeap) (e : Entry) (r : Bool) : Type 0 where
  pub answer : Parts ws h → r ≡ live (held_of ws h) e

abbrev pub settled_by : List ℕ → LazyMinHeap → Option Entry → Bool
settled_by ws h (Some e) = live (held_of ws h) e
settled_by ws h None = true

-- `is_settled`
pub record Settled (ws : List ℕ) (h : LazyMinHeap) (r : Bool) : Type 0 where
  pub refused : in_words ws h ≡ false → r ≡ true
  pub none : h.entries ≡ 0 → r ≡ true
  pub answer : Parts ws h → r ≡ settled_by ws h (first (entries_of ws h))

-- `settle`: stale entries gone from the top, and how many
pub record Discarding (ws : List ℕ) (h : LazyMinHeap) (ws' : List ℕ) (h' : LazyMinHeap) (d : ℕ) : Type 0 where
  pub entered : Entered ws h ws' h'
  pub left : h'.entries + d ≡ h.entries
  pub parts : Parts ws h → Parts ws' h'
  pub entries : Parts ws h → entries_of ws' h' ≡ from_live (held_of ws h) (entries_of ws h)
  pub discarded : Parts ws h → d ≡ stale_before (held_of ws h) (entries_of ws h)

-- what an entry tells of the best: its key and its score
abbrev pub best_of : Option Entry → Option (ℕ × ℕ)
best_of (Some e) = Some (e.key, e.score)
best_of None = None

-- an entry whose score is at most this one
abbrev pub within : ℕ → Option Entry → Option Entry
within s (Some e) = cond (leb e.score s) (Some e) None
within s None = None

-- the score in what `put` replaced
abbrev pub replaced_score : Result (Option Record) PutError → Option ℕ
replaced_score (Ok (Some r)) = Some r.first
replaced_score (Ok None) = None
replaced_score (Err why) = None

-- `store_at`
pub record Storing (ws : List ℕ) (m : LinkedHashMap) (x : Record) (ws' : List ℕ) (m' : LinkedHashMap) (r : Option ℕ) : Type 0 where
  pub put : Result (Option Record) PutError
  pub putting : Putting ws m x ws' m' put
  pub answer : r ≡ replaced_score put

-- `take_key`: what `remove` does to the scores, told by the score that is gone
pub record TakingKey (ws : List ℕ) (m : LinkedHashMap) (k : ℕ) (ws' : List ℕ) (m' : LinkedHashMap) (r : Option ℕ) : Type 0 where
  pub gone : Option Record
  pub removing : Removing ws m k ws' m' (Ok gone)
  pub numbers : m' ≡ record { capacity = m.capacity; len = m'.len; refill_in = m.refill_in }
  pub answer : r ≡ held_score gone

-- `rebuild_within`: the live entries alone, and how many there were more
pub record Rebuilding (ws : List ℕ) (h : LazyMinHeap) (ws' : List ℕ) (h' : LazyMinHeap) (d : ℕ) : Type 0 where
  pub entered : Entered ws h ws' h'
  pub count : Parts ws h → h'.entries ≡ h.scores.len
  pub parts : Parts ws h → Parts ws' h'
  pub entries : Parts ws h → entries_of ws' h' ≡ live_entries (held_of ws h)
  pub discarded : d ≡ h.entries - h.scores.len

-- `number`: numbers from 0, on the scores alone
pub record Numbered (ws : List ℕ) (m : LinkedHashMap) (ws' : List ℕ) : Type 0 where
  pub scores : map.IsMap ws m → map.IsMap ws' m
  pub held : map.IsMap ws m → map.model_of ws' m ≡ numbered (map.model_of ws m)
  pub size : length ws' ≡ length ws
  pub past : (j : ℕ) → start m.capacity ≤ j → get_or ws' j 0 ≡ get_or ws j 0

-- `renumber_within`
pub record Renumbering (ws : List ℕ) (h : LazyMinHeap) (ws' : List ℕ) (h' : LazyMinHeap) (d : ℕ) : Type 0 where
  pub scores : h'.scores ≡ h.scores
  pub factor : h'.factor ≡ h.factor
  pub parts : Parts ws h → Parts ws' h'
  pub model : Parts ws h → model_of ws' h' ≡ renumbered (model_of ws h)
  pub discarded : d ≡ h.entries - h.scores.len
  pub kept : Kept h.scores.capacity ws ws'

-- `fit_number`
pub record Fitting (ws : List ℕ) (h : LazyMinHeap) (ws' : List ℕ) (h' : LazyMinHeap) (d : ℕ) : Type 0 where
  pub word : h.seq < 2 ^ 64
  pub same : h.seq < 2 ^ 64 - 1 → (h' ≡ h) × (ws' ≡ ws)
  pub capacity : h'.scores.capacity ≡ h.scores.capacity
  pub factor : h'.factor ≡ h.factor
  pub parts : Parts ws h → Parts ws' h'
  pub model : Parts ws h → model_of ws' h' ≡ before_push (model_of ws h)
  pub discarded : Parts ws h → d ≡ cond (eqb h.seq (2 ^ 64 - 1)) (surplus (model_of ws h)) 0
  pub small : d ≤ h.entries
  pub kept : Kept h.scores.capacity ws ws'

-- `fit_entries`
pub record Trimming (ws : List ℕ) (h : LazyMinHeap) (f : ℕ) (ws' : List ℕ) (h' : LazyMinHeap) (d : ℕ) : Type 0 where
  pub scores : h'.scores ≡ h.scores
  pub parts : Parts ws h → Parts ws' h'
  pub model : Parts ws h → f ≤ 8 → model_of ws' h' ≡ maybe_rebuilt f (model_of ws h)
  pub discarded : Parts ws h → f ≤ 8 → d ≡ cond (too_many f (model_of ws h)) (surplus (model_of ws h)) 0
  pub small : d ≤ h.entries
  pub kept : Kept h.scores.capacity ws ws'

-- `hold`: where the key is held or there is room for another, and for its entry and its number
pub record Holding (ws : List ℕ) (h : LazyMinHeap) (k s : ℕ) (ws' : List ℕ) (h' : LazyMinHeap) (r : Option ℕ) : Type 0 where
  pub capacity : h'.scores.capacity ≡ h.scores.capacity
  pub factor : h'.factor ≡ h.factor
  pub parts : Parts ws h → h.entries ≤ 8 * h.scores.capacity → Parts ws' h'
  pub model : Parts ws h → h.entries ≤ 8 * h.scores.capacity → is_full k (model_of ws h) ≡ false → h.seq < 2 ^ 64 - 1 → model_of ws' h' ≡ pushed k s (model_of ws h)
  pub answer : Parts ws h → is_full k (model_of ws h) ≡ false → r ≡ held_score (lookup k (held_of ws h))
  pub kept : Kept h.scores.capacity ws ws'

-- `sum`: of counts that a heap can have, and else 0
abbrev pub sum : ℕ → ℕ → ℕ
sum a b = cond (leb a 32769) (cond (leb b 32769) (a + b) 0) 0

-- `is_over`: a new key, with as many held as the limit allows
abbrev pub is_over : Probe → ℕ → ℕ → Bool
is_over (At c s) l n = false
is_over (Free c) l n = leb n l
is_over Full l n = true
