-- The laws of the map's numbers in words.
use Rattle.std.specs.Prelude.{◌≡◌, List, [], ◌∷◌, ℕ, ◌≤◌, length, get_or, refl}
use Rattle.std.proofs.Common.{arith}
use lib.Seq.{get_or-set_other}
use mathlib.Core.Logic.{◌≢◌}
use Rattle.linked_hash_map.specs.declared.map.LinkedHashMap.{LinkedHashMap}
use Rattle.replay_linked_hash_map.specs.Numbers.{map_in, with_map}

-- what is stored is read back
pub map_stored : (ns : List ℕ) (m : LinkedHashMap) → 3 ≤ length ns → map_in (with_map ns m) ≡ m
map_stored [] m h = absurd (omega arith)
map_stored (a ∷ []) m h = absurd (omega arith)
map_stored (a ∷ b ∷ []) m h = absurd (omega arith)
map_stored (a ∷ b ∷ c ∷ ns) m h = refl

-- no other number changes
pub map_past : (ns : List ℕ) (m : LinkedHashMap) (j : ℕ) → 3 ≤ j → get_or (with_map ns m) j 0 ≡ get_or ns j 0
map_past ns m j h =
    let a : j ≢ 0 = omega arith in
    let b : j ≢ 1 = omega arith in
    let c : j ≢ 2 = omega arith in
    simp get_or-set_other
