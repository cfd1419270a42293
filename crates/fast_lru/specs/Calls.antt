-- What each call promises. A call is refused as its numbers and words say, and not otherwise; a refused one changes nothing. On a list it
-- answers and leaves what the model's functions say. Whatever the words, it keeps the capacity, and the words past the list's own.
use Rattle.std.specs.Prelude.{◌≡◌, Bool, true, List, [], ℕ, eqb, length, Option, Result, Ok, Err, ⊤}
use Rattle.time.specs.declared.refusal.Refusal.{Refusal}
use Rattle.limits.specs.Limits.{list_limits}
use Rattle.fast_lru.specs.declared.lru.FastLru.{FastLru}
use Rattle.fast_lru.specs.Refusals.{admitted}
use Rattle.fast_lru_model.specs.Model.{Item, Items, has, without, value_of, to_front, inserted, oldest_of, popped, rank_of}
use Rattle.fast_lru.specs.Lru.{IsList, model_of, Kept}

-- a call that changes nothing, and what it answers on a list
pub record Asking {A : Type 0} (ws : List ℕ) (l : FastLru) (answer_of : Items → A) (r : Result A Refusal) : Type 0 where
  pub refused : (why : Refusal) → admitted l (length ws) ≡ Err why → r ≡ Err why
  pub only : (why : Refusal) → r ≡ Err why → admitted l (length ws) ≡ Err why
  pub answer : IsList ws l → r ≡ Ok (answer_of (model_of ws l))

-- a call that may change the list: what it answers on one, and which model it leaves
pub record Changing {A : Type 0} (ws : List ℕ) (l : FastLru) (answer_of : Items → A) (left_of : Items → Items) (ws' : List ℕ) (l' : FastLru) (r : Result A Refusal) : Type 0 where
  pub refused : (why : Refusal) → admitted l (length ws) ≡ Err why → (r ≡ Err why) × (l' ≡ l) × (ws' ≡ ws)
  pub only : (why : Refusal) → r ≡ Err why → admitted l (length ws) ≡ Err why
  pub answer : IsList ws l → r ≡ Ok (answer_of (model_of ws l))
  pub capacity : l'.map.capacity ≡ l.map.capacity
  pub list : IsList ws l → IsList ws' l'
  pub model : IsList ws l → model_of ws' l' ≡ left_of (model_of ws l)
  pub kept : Kept l.map.capacity ws ws'

-- ---- `new`: the empty list, whatever the words held
pub record IsNew (c : ℕ) (ws' : List ℕ) (l : FastLru) : Type 0 where
  pub capacity : l.map.capacity ≡ c
  pub list : IsList ws' l
  pub model : model_of ws' l ≡ []

pub record Opening (ws : List ℕ) (c : ℕ) (ws' : List ℕ) (r : Result FastLru Refusal) : Type 0 where
  pub refused : (why : Refusal) → list_limits c (length ws) ≡ Err why → (r ≡ Err why) × (ws' ≡ ws)
  pub only : (why : Refusal) → r ≡ Err why → list_limits c (length ws) ≡ Err why
  pub opened : (l : FastLru) → r ≡ Ok l → IsNew c ws' l
  pub kept : Kept c ws ws'

-- ---- the calls that change nothing
-- `len`
abbrev pub Length : List ℕ → FastLru → Result ℕ Refusal → Type 0
Length ws l r = Asking ws l (λ m. length m) r

-- `is_empty`
abbrev pub Emptiness : List ℕ → FastLru → Result Bool Refusal → Type 0
Emptiness ws l r = Asking ws l (λ m. eqb (length m) 0) r

-- `capacity`: of any words and numbers that are not refused
pub record Capacity (ws : List ℕ) (l : FastLru) (r : Result ℕ Refusal) : Type 0 where
  pub refused : (why : Refusal) → admitted l (length ws) ≡ Err why → r ≡ Err why
  pub only : (why : Refusal) → r ≡ Err why → admitted l (length ws) ≡ Err why
  pub answer : admitted l (length ws) ≡ Ok tt → r ≡ Ok l.map.capacity

-- `contains`
abbrev pub Containing : List ℕ → FastLru → ℕ → Result Bool Refusal → Type 0
Containing ws l k r = Asking ws l (has k) r

-- `peek`
abbrev pub Peeking : List ℕ → FastLru → ℕ → Result (Option ℕ) Refusal → Type 0
Peeking ws l k r = Asking ws l (value_of k) r

-- `peek_lru`
abbrev pub PeekingOldest : List ℕ → FastLru → Result (Option (ℕ × ℕ)) Refusal → Type 0
PeekingOldest ws l r = Asking ws l oldest_of r

-- `recency_rank`
abbrev pub Ranking : List ℕ → FastLru → ℕ → Result (Option ℕ) Refusal → Type 0
Ranking ws l k r = Asking ws l (rank_of k) r

-- `check`: yes exactly for a list
pub record Checking (ws : List ℕ) (l : FastLru) (r : Bool) : Type 0 where
  pub sound : r ≡ true → IsList ws l
  pub complete : IsList ws l → r ≡ true

-- ---- the calls that may change the list
-- `clear`: words that are no list need not become one: that is what `new` does
abbrev pub Clearing : List ℕ → FastLru → List ℕ → FastLru → Result ⊤ Refusal → Type 0
Clearing ws l ws' l' r = Changing {A = ⊤} ws l (λ m. tt) (λ m. []) ws' l' r

-- `get`
abbrev pub Getting : List ℕ → FastLru → ℕ → List ℕ → FastLru → Result (Option ℕ) Refusal → Type 0
Getting ws l k ws' l' r = Changing ws l (value_of k) (to_front k) ws' l' r

-- `insert`
abbrev pub Inserting : List ℕ → FastLru → Item → List ℕ → FastLru → Result (Option ℕ) Refusal → Type 0
Inserting ws l i ws' l' r = Changing ws l (value_of i.key) (inserted l.map.capacity i) ws' l' r

-- `remove`
abbrev pub Removing : List ℕ → FastLru → ℕ → List ℕ → FastLru → Result (Option ℕ) Refusal → Type 0
Removing ws l k ws' l' r = Changing ws l (value_of k) (without k) ws' l' r

-- `pop_lru`
abbrev pub Popping : List ℕ → FastLru → List ℕ → FastLru → Result (Option (ℕ × ℕ)) Refusal → Type 0
Popping ws l ws' l' r = Changing ws l oldest_of popped ws' l' r

-- `touch`
abbrev pub Touching : List ℕ → FastLru → ℕ → List ℕ → FastLru → Result Bool Refusal → Type 0
Touching ws l k ws' l' r = Changing ws l (has k) (to_front k) ws' l' r
