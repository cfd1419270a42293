-- Document 01, "Turned back": refusals 1 and 2, in this order. `new` is refused as `list_limits` says, and the other calls for numbers that
-- are all 0 as well.
use Rattle.std.specs.Prelude.{Bool, cond, ◌||◌, ◌&&◌, ℕ, ◌+◌, ◌*◌, eqb, ltb, Result, Err, ⊤}
use Rattle.time.specs.declared.refusal.Refusal.{Refusal}
use Rattle.time.specs.declared.refusal.Refusal.TheVariants.{LimitOutOfRange}
use Rattle.limits.specs.Limits.{list_limits}
use Rattle.fast_lru.specs.declared.lru.FastLru.{FastLru}

-- the words of a list with room for c items
abbrev pub words_for : ℕ → ℕ
words_for c = 64 + 8 * c

-- the numbers that `default` makes
abbrev is_blank : FastLru → Bool
is_blank l = eqb l.map.capacity 0 && (eqb l.map.len 0 && eqb l.map.refill_in 0)

-- cause 1 at the later calls
unfoldable pub out_of_range : FastLru → Bool
out_of_range l = ltb 4096 l.map.capacity || is_blank l

-- the refusal of any call but `new`, or none
unfoldable pub admitted : FastLru → ℕ → Result ⊤ Refusal
admitted l size = cond (out_of_range l) (Err LimitOutOfRange) (list_limits l.map.capacity size)
