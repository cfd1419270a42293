-- What the layers above cite of lists, with the map out of sight. (`Lists` has what they cite of the model.)
use mathlib.Core.Path.{◌≡◌, sym, ap, ◌∙◌}
use mathlib.Core.List.{List}
use Prim.Native.Nat.{ℕ, ◌+◌, ◌<◌, ◌≤◌}
use native.Mathlib.Omega.{arith}
use lib.ListN.{length, get_or, drop, length-drop}
use lib.Seq.{ext_get_or, get_or-drop}
use Rattle.linked_hash_map.proofs.Laws as laws
use Rattle.fast_lru.specs.declared.lru.FastLru.{FastLru}
use Rattle.fast_lru.specs.Refusals.{words_for}
use Rattle.fast_lru_model.specs.Model.{Distinct}
use Rattle.fast_lru.specs.Lru.{IsList, items, model_of, Kept}
use Rattle.fast_lru.proofs.Slots as slots

-- the model has as many items as the numbers say
pub model_length : (ws : List ℕ) (l : FastLru) → length (model_of ws l) ≡ l.map.len
model_length = slots.model_length

module _ {ws : List ℕ} {l : FastLru} (is : IsList ws l) where
  pub list_limit : l.map.capacity ≤ 4096
  list_limit = is.map.room.limit

  pub model_bounded : length (model_of ws l) ≤ l.map.capacity
  model_bounded = omega (arith, slots.model_length ws l, is.map.count)

  pub model_distinct : Distinct (model_of ws l)
  model_distinct = slots.model_distinct ws l is.map

  -- words past the list's own do not matter
  module _ (ws' : List ℕ) (fits : words_for l.map.capacity ≤ length ws') (same : (j : ℕ) → j < words_for l.map.capacity → get_or ws' j 0 ≡ get_or ws j 0) where
    pub list_frame : IsList ws' l
    list_frame = record { map = laws.map_frame is.map ws' (omega arith) (λ j h. same j (omega arith)); words = fits }

    pub model_frame : model_of ws' l ≡ model_of ws l
    unfolding model_of
    model_frame = ap items (laws.model_frame is.map ws' (omega arith) (λ j h. same j (omega arith)))

-- and a call leaves them alone
pub kept_drop : (c : ℕ) (ws ws' : List ℕ) → Kept c ws ws' → drop (words_for c) ws' ≡ drop (words_for c) ws
kept_drop c ws ws' k =
    ext_get_or 0 (drop (words_for c) ws') (drop (words_for c) ws)
    (simp length-drop (omega (arith, k.size)))
    (λ i h. get_or-drop (words_for c) ws' i 0 ∙ k.past (words_for c + i) (omega arith) ∙ sym (get_or-drop (words_for c) ws i 0))
