-- The laws of the list's numbers in words: those of its map's.
use Rattle.std.specs.Prelude.{◌≡◌, List, ℕ, ◌≤◌, length, get_or}
use Rattle.fast_lru.specs.declared.lru.FastLru.{FastLru}
use Rattle.replay_linked_hash_map.specs.Laws.{map_stored, map_past}
use Rattle.replay_fast_lru.specs.Numbers.{lru_in, with_lru}

-- what is stored is read back
pub lru_stored : (ns : List ℕ) (l : FastLru) → 3 ≤ length ns → lru_in (with_lru ns l) ≡ l
lru_stored ns l q = λ i. record { map = map_stored ns l.map q i }

-- no other number changes
pub lru_past : (ns : List ℕ) (l : FastLru) (j : ℕ) → 3 ≤ j → get_or (with_lru ns l) j 0 ≡ get_or ns j 0
lru_past ns l j q = map_past ns l.map j q
