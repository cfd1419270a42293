-- Document 01, "Thrown by a call": how many entries of the heap a call discards, and what it leaves of them.
use Rattle.std.specs.Prelude.{cond, ◌&&◌, List, [], ◌∷◌, ℕ, ◌+◌, ltb, Result, Ok, Err, ⊤}
use Rattle.time.specs.declared.tick.Tick.{Tick}
use Rattle.time.specs.declared.refusal.Refusal.{Refusal}
use Rattle.binary_heap.specs.declared.entries.Entry.{Entry}
use Rattle.linked_hash_map.specs.declared.map.Record.{Record}
use Rattle.lazy_heap_model.specs.Model.{Heap, live, surplus, updated, update_discards, removed, peeked, cleared, stale}
use Rattle.expiring_model.specs.Model.{Book, Call, Change, keep, set, drop, drop_expired, drop_all, look, change_of, refusal_of, or_same}

-- "the entries before the first live one with deadline > now (all if there is none)", and what is left without them
unfoldable pub expired_before : Tick → List Record → List Entry → ℕ
expired_before t held [] = 0
expired_before t held (e ∷ es) = cond (live held e && ltb t.0 e.score) 0 (1 + expired_before t held es)

unfoldable pub from_unexpired : Tick → List Record → List Entry → List Entry
from_unexpired t held [] = []
from_unexpired t held (e ∷ es) = cond (live held e && ltb t.0 e.score) (e ∷ es) (from_unexpired t held es)

unfoldable pub held_unexpired : Tick → List Record → List Record
held_unexpired t [] = []
held_unexpired t (r ∷ held) = cond (ltb t.0 r.first) (r ∷ held_unexpired t held) (held_unexpired t held)

unfoldable pub purged : Tick → Heap → Heap
purged t h = record { limit = h.limit; factor = h.factor; next = h.next; held = held_unexpired t h.held; entries = from_unexpired t h.held h.entries }

-- by what the call does to the deadlines
unfoldable pub discards : Change → Heap → ℕ
discards look h = stale h
discards (drop_expired t) h = expired_before t h.held h.entries
-- "entries - held at a renumbering, before the push, plus entries - held at a rebuild, after it"
discards (set k d) h = update_discards k d.0 h
discards drop_all h = surplus h
discards keep h = 0
discards (drop k) h = 0

unfoldable pub heap_after : Change → Heap → Heap
heap_after look h = peeked h
heap_after (drop_expired t) h = purged t h
heap_after (set k d) h = updated k d.0 h
heap_after drop_all h = cleared h
heap_after keep h = h
heap_after (drop k) h = removed k h

-- "A refusal reports 0 thrown."
abbrev or_none : Result ⊤ Refusal → ℕ → ℕ
or_none (Ok u) n = n
or_none (Err why) n = 0

unfoldable pub discarded_by : Tick → Call → Book → Heap → ℕ
discarded_by t c b h = or_none (refusal_of t c b) (discards (change_of t c b) h)

unfoldable pub heap_by : Tick → Call → Book → Heap → Heap
heap_by t c b h = or_same (refusal_of t c b) (heap_after (change_of t c b) h) h
