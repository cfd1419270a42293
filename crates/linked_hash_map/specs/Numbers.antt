-- What the calls do to the numbers, and when the cells are entered anew.
use Rattle.std.specs.Prelude.{◌≡◌, cond, List, ℕ, ◌+◌, ◌-◌, ◌*◌, ◌<◌, ◌≤◌, ltb, Option, Some, None}
use Rattle.rings.specs.Ring.{next, moved}
use Rattle.cells.specs.declared.Probe.TheVariants.{Free}
use Rattle.cells.specs.Probe.{probe}
use Rattle.linked_hash_map.specs.declared.map.LinkedHashMap.{LinkedHashMap}
use Rattle.linked_hash_map.specs.declared.map.Link.{Link}
use Rattle.linked_hash_map.specs.declared.map.Link.TheVariants as link
use Rattle.linked_hash_map.specs.declared.map.Record.{Record}
use Rattle.linked_hash_map.specs.Words.{refilled, put_in}

-- the empty map's numbers
abbrev pub empty_map : ℕ → LinkedHashMap
empty_map n = record { capacity = n; len = 0; refill_in = 6 * n + 96 }

-- one record less
unfoldable pub shrunk_map : LinkedHashMap → LinkedHashMap
shrunk_map m = record { capacity = m.capacity; len = m.len - 1; refill_in = m.refill_in }

-- the slot that a link leads to
unfoldable pub slot_from : ℕ → ℕ → Option ℕ
slot_from n x = cond (ltb x n) (Some x) None

-- which word of a node holds a link
abbrev pub word_of : Link → ℕ
word_of link.Previous = 3
word_of link.Next = 4

-- one record more
unfoldable pub len_after : LinkedHashMap → ℕ
len_after m = cond (ltb m.len m.capacity) (m.len + 1) m.capacity

-- the numbers after an insertion, with refill_in in hand
unfoldable pub longer_map : LinkedHashMap → ℕ → LinkedHashMap
longer_map m r = record { capacity = m.capacity; len = len_after m; refill_in = r }

-- the numbers and the words after an insertion that leaves k records: most often the words stay
pub record Grown (ws : List ℕ) (m : LinkedHashMap) (k : ℕ) (ws' : List ℕ) (r : LinkedHashMap) : Type 0 where
  pub capacity : r.capacity ≡ m.capacity
  pub count : r.len ≡ k
  pub opened : 1 ≤ r.refill_in
  pub words : ws' ≡ cond (ltb 1 m.refill_in) ws (refilled ws m.capacity k)

-- an insertion with the cell to take in hand; where there is no free record, it counts and writes nothing
pub record Inserting (ws : List ℕ) (m : LinkedHashMap) (x : Record) (c : ℕ) (ws' : List ℕ) (r : LinkedHashMap) : Type 0 where
  pub none : m.capacity ≤ next ws (m.capacity + 1) → (r ≡ longer_map m m.refill_in) × (ws' ≡ ws)
  pub grown : next ws (m.capacity + 1) < m.capacity → Grown (put_in ws m.capacity c (next ws (m.capacity + 1)) x) m (len_after m) ws' r

-- a record put over the one at slot s, which no cell holds; where its key is held, that one is free
pub record Renewing (ws : List ℕ) (m : LinkedHashMap) (x : Record) (s : ℕ) (ws' : List ℕ) (r : LinkedHashMap) : Type 0 where
  pub put : (c : ℕ) → probe ws m.capacity x.key ≡ Free c → Grown (put_in ws m.capacity c s x) m m.len ws' r
  pub freed : ((c : ℕ) → probe ws m.capacity x.key ≡ Free c → ⊥) → (r ≡ shrunk_map m) × (ws' ≡ moved (m.capacity + 2) ws (m.capacity + 1) s)
