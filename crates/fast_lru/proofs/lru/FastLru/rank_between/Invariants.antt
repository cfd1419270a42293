use mathlib.Core.Path.{◌≡◌}
use Prim.Native.Nat.{ℕ, ◌-◌}
use Rattle.std.specs.Prelude.{Some}
use Rattle.linked_hash_map.specs.Map.{IsMap, slot_of, slot_at}
use Rattle.fast_lru.proofs.Ranks.{Walks}
use Rattle.fast_lru.proofs.lru.FastLru.rank_between.Given as goal

abbrev pub invariant-loop-rank : goal.invariant-loop-rank
invariant-loop-rank l = IsMap l.words l.self.map → (k : ℕ) → slot_of l.words l.self.map k ≡ Some l.slot → slot_at l.words l.self.map 0 ≡ Some l.first → slot_at l.words l.self.map (l.self.map.len - 1) ≡ Some l.last → Walks l.words l.self k l.front l.back l.rank (l.self.map.len - l.rank)
