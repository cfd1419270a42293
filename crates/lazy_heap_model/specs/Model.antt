-- The model of the heap: document 01, "lazy_heap.rs" and "Thrown by a call". It knows nothing of words.
use Rattle.std.specs.Prelude.{Bool, false, cond, not, ◌&&◌, List, [], ◌∷◌, map, ℕ, ◌+◌, ◌-◌, ◌*◌, ◌^◌, max, eqb, ltb, leb, length, Option, Some, None}
use Rattle.binary_heap.specs.declared.entries.Entry.{Entry}
use Rattle.binary_heap.specs.Order.{insert, sort}
use Rattle.linked_hash_map.specs.declared.map.Record.{Record}
use Rattle.linked_hash_map.specs.Model.{has, lookup, without}

-- A held key is a record of the scores' map: `first` is its score, `second` its sequence number.
pub record Heap : Type 0 where
  -- at most so many keys
  pub limit : ℕ
  -- rebuilt where entries > factor × keys held
  pub factor : ℕ
  -- the next sequence number
  pub next : ℕ
  -- the held keys, latest set first
  pub held : List Record
  -- the entries, ascending by (score, sequence number)
  pub entries : List Entry

-- the entry of a held key
abbrev pub entry_of : Record → Entry
entry_of r = record { score = r.first; seq = r.second; key = r.key }

-- "An entry is dead unless score and sequence equal those its key holds."
abbrev pub matches : Option Record → Entry → Bool
matches (Some r) e = eqb r.first e.score && eqb r.second e.seq
matches None e = false

unfoldable pub live : List Record → Entry → Bool
live held e = matches (lookup e.key held) e

-- the entries before the first live one, all if none is live: how many, and what is left without them
unfoldable pub stale_before : List Record → List Entry → ℕ
stale_before held [] = 0
stale_before held (e ∷ es) = cond (live held e) 0 (1 + stale_before held es)

unfoldable pub from_live : List Record → List Entry → List Entry
from_live held [] = []
from_live held (e ∷ es) = cond (live held e) (e ∷ es) (from_live held es)

-- factor 0 counts as 1
abbrev pub at_least_one : ℕ → ℕ
at_least_one f = max f 1

-- entries - held: what a rebuild, a renumbering or `clear` discards
abbrev pub surplus : Heap → ℕ
surplus h = length h.entries - length h.held

-- what the heap is asked
abbrev pub factor_of : Heap → ℕ
factor_of h = h.factor

abbrev pub len : Heap → ℕ
len h = length h.held

abbrev pub heap_len : Heap → ℕ
heap_len h = length h.entries

-- how many keys hold at most a score
unfoldable pub count_at_most : ℕ → List Record → ℕ
count_at_most s [] = 0
count_at_most s (r ∷ held) = cond (leb r.first s) 1 0 + count_at_most s held

abbrev pub at_most : ℕ → Heap → ℕ
at_most s h = count_at_most s h.held

-- ---- rebuilding and renumbering
-- the live entries alone
abbrev pub live_entries : List Record → List Entry
live_entries held = sort (map entry_of held)

unfoldable pub rebuilt : Heap → Heap
rebuilt h = record { limit = h.limit; factor = h.factor; next = h.next; held = h.held; entries = live_entries h.held }

-- numbers from 0 in the old sequence order: a record's number is how many were set before it
unfoldable pub numbered : List Record → List Record
numbered [] = []
numbered (r ∷ held) = record { key = r.key; first = r.first; second = length held } ∷ numbered held

unfoldable pub renumbered : Heap → Heap
renumbered h = record {
  limit = h.limit;
  factor = h.factor;
  next = length h.held;
  held = numbered h.held;
  entries = live_entries (numbered h.held);
}

-- entries > factor × keys held
abbrev pub too_many : ℕ → Heap → Bool
too_many f h = ltb (at_least_one f * length h.held) (length h.entries)

-- ---- the calls
-- the score that a key holds
abbrev pub held_score : Option Record → Option ℕ
held_score (Some r) = Some r.first
held_score None = None

-- the key and score of the first live entry
abbrev pub best_in : List Entry → Option (ℕ × ℕ)
best_in [] = None
best_in (e ∷ es) = Some (e.key, e.score)

unfoldable pub opened : ℕ → ℕ → ℕ → Heap
opened limit factor start = record { limit = limit; factor = at_least_one factor; next = start; held = []; entries = [] }

unfoldable pub with_factor : ℕ → Heap → Heap
with_factor f h = record { limit = h.limit; factor = at_least_one f; next = h.next; held = h.held; entries = h.entries }

-- refusal 4: a new key with as many held as the limit allows
unfoldable pub is_full : ℕ → Heap → Bool
is_full k h = not (has k h.held) && leb h.limit (length h.held)

-- "If the next number is u64::MAX, `update` first renumbers the live entries from 0 in their old sequence order."
unfoldable pub before_push : Heap → Heap
before_push h = cond (eqb h.next (2 ^ 64 - 1)) (renumbered h) h

-- "`update` takes the next number, pushes an entry (score, sequence, key)"
unfoldable pub pushed : ℕ → ℕ → Heap → Heap
pushed k s h =
    let r : Record = record { key = k; first = s; second = h.next } in
    record { limit = h.limit; factor = h.factor; next = h.next + 1; held = r ∷ without k h.held; entries = insert (entry_of r) h.entries }

-- "then rebuilds if entries > factor × keys held"
unfoldable pub maybe_rebuilt : ℕ → Heap → Heap
maybe_rebuilt f h = cond (too_many f h) (rebuilt h) h

unfoldable pub updated : ℕ → ℕ → Heap → Heap
updated k s h = maybe_rebuilt h.factor (pushed k s (before_push h))

-- "entries - held at a renumbering, before the push, plus entries - held at a rebuild, after it"
unfoldable pub update_discards : ℕ → ℕ → Heap → ℕ
update_discards k s h =
    cond (eqb h.next (2 ^ 64 - 1)) (surplus h) 0
    + (let p = pushed k s (before_push h) in cond (too_many h.factor p) (surplus p) 0)

-- "`remove` leaves its entry dead and never rebuilds."
unfoldable pub removed : ℕ → Heap → Heap
removed k h = record { limit = h.limit; factor = h.factor; next = h.next; held = without k h.held; entries = h.entries }

-- the stale entries before the first live one, and the best
abbrev pub stale : Heap → ℕ
stale h = stale_before h.held h.entries

abbrev pub best_of_heap : Heap → Option (ℕ × ℕ)
best_of_heap h = best_in (from_live h.held h.entries)

-- "`peek_best` throws dead entries away until the least live one"
unfoldable pub peeked : Heap → Heap
peeked h = record { limit = h.limit; factor = h.factor; next = h.next; held = h.held; entries = from_live h.held h.entries }

-- "`pop_best`" takes that one, and its key
abbrev pub popped_from : List Entry → Heap → Heap
popped_from [] h = peeked h
popped_from (e ∷ es) h = record { limit = h.limit; factor = h.factor; next = h.next; held = without e.key h.held; entries = es }

unfoldable pub popped : Heap → Heap
popped h = popped_from (from_live h.held h.entries) h

-- "`clear` keeps the next number."
unfoldable pub cleared : Heap → Heap
cleared h = record { limit = h.limit; factor = h.factor; next = h.next; held = []; entries = [] }
