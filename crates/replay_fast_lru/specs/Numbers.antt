-- The list's numbers in words: those of its map.
use Rattle.std.specs.Prelude.{List, ℕ, Result, Ok, Err}
use Rattle.fast_lru.specs.declared.lru.FastLru.{FastLru}
use Rattle.replay_linked_hash_map.specs.Numbers.{map_in, with_map}

abbrev pub lru_in : List ℕ → FastLru
lru_in ns = record { map = map_in ns }

abbrev pub with_lru : List ℕ → FastLru → List ℕ
with_lru ns l = with_map ns l.map

-- the numbers after an opening, which are all 0 where it is refused
abbrev pub opened : {E : Type 0} → Result FastLru E → FastLru
opened (Ok l) = l
opened (Err e) = record { map = record { capacity = 0; len = 0; refill_in = 0 } }
