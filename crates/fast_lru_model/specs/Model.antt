-- The model: document 01, "fast_lru.rs". A list of items, newest first. It knows nothing of words.
use Rattle.std.specs.Prelude.{◌≡◌, Bool, false, cond, ◌||◌, List, [], ◌∷◌, ℕ, ◌+◌, eqb, ltb, length, Option, Some, None}

pub record Item : Type 0 where
  pub key : ℕ
  pub value : ℕ

abbrev pub Items : Type 0
Items = List Item

-- ---- parts of a list
-- the item of a key
unfoldable pub lookup : ℕ → Items → Option Item
lookup k [] = None
lookup k (i ∷ l) = cond (eqb i.key k) (Some i) (lookup k l)

-- whether a key is stored
unfoldable pub has : ℕ → Items → Bool
has k [] = false
has k (i ∷ l) = eqb i.key k || has k l

-- the items of all other keys
unfoldable pub without : ℕ → Items → Items
without k [] = []
without k (i ∷ l) = cond (eqb i.key k) (without k l) (i ∷ without k l)

-- the last item: the least recent one
unfoldable pub last : Items → Option Item
last [] = None
last (i ∷ []) = Some i
last (i ∷ (j ∷ l)) = last (j ∷ l)

-- the list with an item of it gone
abbrev pub less : Option Item → Items → Items
less None l = l
less (Some i) l = without i.key l

-- ---- answers
abbrev pub value_in : Option Item → Option ℕ
value_in None = None
value_in (Some i) = Some i.value

-- its key and its value
abbrev pub item_in : Option Item → Option (ℕ × ℕ)
item_in None = None
item_in (Some i) = Some (i.key, i.value)

-- ---- calls
-- `peek`: the value of a key, and nothing moves; `get`, `insert` and `remove` answer the same
unfoldable pub value_of : ℕ → Items → Option ℕ
value_of k l = value_in (lookup k l)

-- `get` and `touch`: the key's item moves to the front
abbrev in_front : Option Item → Items → Items → Items
in_front None rest l = l
in_front (Some i) rest l = i ∷ rest

unfoldable pub to_front : ℕ → Items → Items
to_front k l = in_front (lookup k l) (without k l) l

-- which item makes room for a new one: the last
unfoldable pub victim : Items → Option Item
victim l = last l

-- the list with its victim gone
unfoldable pub evicted : Items → Items
evicted l = less (victim l) l

-- `insert`: a new key in a full list evicts first; then the item stands at the front, in the place of its key's old one.
-- Capacity 0 stores nothing
unfoldable pub with_room : ℕ → ℕ → Items → Items
with_room c k l = cond (has k l || ltb (length l) c) l (evicted l)

unfoldable pub inserted : ℕ → Item → Items → Items
inserted c i l = cond (eqb c 0) l (i ∷ without i.key (with_room c i.key l))

-- `pop_lru` and `peek_lru`: the last item, which `pop_lru` takes out
unfoldable pub oldest_of : Items → Option (ℕ × ℕ)
oldest_of l = item_in (last l)

unfoldable pub popped : Items → Items
popped l = less (last l) l

-- `recency_rank`: the place of a key, the front being n
unfoldable pub rank_from : ℕ → ℕ → Items → Option ℕ
rank_from n k [] = None
rank_from n k (i ∷ l) = cond (eqb i.key k) (Some n) (rank_from (n + 1) k l)

unfoldable pub rank_of : ℕ → Items → Option ℕ
rank_of k l = rank_from 0 k l

-- no two items have one key
abbrev pub Distinct : Items → Type 0
Distinct [] = Unit {0}
Distinct (i ∷ l) = (has i.key l ≡ false) × Distinct l
