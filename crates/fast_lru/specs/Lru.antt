-- What a recency list in words is, and which model it stands for.
use Rattle.std.specs.Prelude.{◌≡◌, List, map, ℕ, ◌≤◌, length, get_or}
use Rattle.linked_hash_map.specs.declared.map.Record.{Record}
use Rattle.linked_hash_map.specs.Model.{Model}
use Rattle.linked_hash_map.specs.Map as held
use Rattle.fast_lru.specs.declared.lru.FastLru.{FastLru}
use Rattle.fast_lru.specs.Refusals.{words_for}
use Rattle.fast_lru_model.specs.Model.{Item, Items}

-- the words and numbers form a list: a map, in enough words
pub record IsList (ws : List ℕ) (l : FastLru) : Type 0 where
  pub map : held.IsMap ws l.map
  pub words : words_for l.map.capacity ≤ length ws

-- a record read as an item; its second word says nothing
abbrev pub item_of : Record → Item
item_of r = record { key = r.key; value = r.first }

abbrev pub items : Model → Items
items m = map item_of m

-- the model that a list stands for
unfoldable pub model_of : List ℕ → FastLru → Items
model_of ws l = items (held.model_of ws l.map)

-- the words past a list's own are untouched
pub record Kept (c : ℕ) (ws ws' : List ℕ) : Type 0 where
  pub size : length ws' ≡ length ws
  pub past : (j : ℕ) → words_for c ≤ j → get_or ws' j 0 ≡ get_or ws j 0
