-- The map's numbers in words.
use Rattle.std.specs.Prelude.{List, ℕ, get_or, set, Result, Ok, Err}
use Rattle.linked_hash_map.specs.declared.map.LinkedHashMap.{LinkedHashMap}

abbrev pub map_in : List ℕ → LinkedHashMap
map_in ns = record { capacity = get_or ns 0 0; len = get_or ns 1 0; refill_in = get_or ns 2 0 }

abbrev pub with_map : List ℕ → LinkedHashMap → List ℕ
with_map ns m = set (set (set ns 0 m.capacity) 1 m.len) 2 m.refill_in

-- the numbers after an opening, which are all 0 where it is refused
abbrev pub opened : {E : Type 0} → Result LinkedHashMap E → LinkedHashMap
opened (Ok m) = m
opened (Err e) = record { capacity = 0; len = 0; refill_in = 0 }
