-- Worked examples: sample B12 of document 01, and lists with room for none, one and a few items.
use Rattle.std.specs.Prelude.{List, [], ◌∷◌, ℕ, Bool, true, false, eqb, length, Option, Some, None}
use Rattle.fast_lru_model.specs.Model.{Items, has, without, value_of, to_front, inserted, oldest_of, popped, rank_of}

pub data Call : Type 0 where
  len : Call
  is_empty : Call
  contains : ℕ → Call
  get : ℕ → Call
  peek : ℕ → Call
  insert : ℕ → ℕ → Call
  remove : ℕ → Call
  pop_lru : Call
  peek_lru : Call
  clear : Call
  touch : ℕ → Call
  recency_rank : ℕ → Call

pub data Answer : Type 0 where
  number : ℕ → Answer
  says : Bool → Answer
  value : Option ℕ → Answer
  item : Option (ℕ × ℕ) → Answer
  at : Option ℕ → Answer
  done : Answer

-- a list of calls on a fresh list with room for `capacity` items
pub record Sample : Type 0 where
  pub capacity : ℕ
  pub calls : List Call
  pub answers : List Answer

-- what the definitions answer, and the list after it, with room for c items
abbrev pub answer : Call → Items → Answer
answer len l = number (length l)
answer is_empty l = says (eqb (length l) 0)
answer (contains k) l = says (has k l)
answer (get k) l = value (value_of k l)
answer (peek k) l = value (value_of k l)
answer (insert k v) l = value (value_of k l)
answer (remove k) l = value (value_of k l)
answer pop_lru l = item (oldest_of l)
answer peek_lru l = item (oldest_of l)
answer clear l = done
answer (touch k) l = says (has k l)
answer (recency_rank k) l = at (rank_of k l)

abbrev pub after : ℕ → Call → Items → Items
after c len l = l
after c is_empty l = l
after c (contains k) l = l
after c (get k) l = to_front k l
after c (peek k) l = l
after c (insert k v) l = inserted c (record { key = k; value = v }) l
after c (remove k) l = without k l
after c pop_lru l = popped l
after c peek_lru l = l
after c clear l = []
after c (touch k) l = to_front k l
after c (recency_rank k) l = l

unfoldable pub answered : ℕ → Items → List Call → List Answer
answered c l [] = []
answered c l (x ∷ calls) = answer x l ∷ answered c (after c x l) calls

abbrev sample : ℕ → List Call → List Answer → Sample
sample c calls answers = record { capacity = c; calls = calls; answers = answers }

abbrev new : Answer
new = value None

abbrev old : ℕ → Answer
old v = value (Some v)

abbrev yes : Answer
yes = says true

abbrev no : Answer
no = says false

abbrev ranked : ℕ → Answer
ranked n = at (Some n)

abbrev unranked : Answer
unranked = at None

-- the least recent item, and that of an empty list
abbrev least : ℕ → ℕ → Answer
least k v = item (Some (k, v))

abbrev empty : Answer
empty = item None

abbrev pub samples : List Sample
samples =
    -- B12: 2 is pushed out; ranks 3:0, 1:1
    sample 2
    (insert 1 10 ∷ insert 2 20 ∷ get 1 ∷ insert 3 30 ∷ contains 2 ∷ recency_rank 3 ∷ recency_rank 1 ∷ recency_rank 2 ∷ [])
    (new ∷ new ∷ old 10 ∷ new ∷ no ∷ ranked 0 ∷ ranked 1 ∷ unranked ∷ [])
    -- the same with `peek`, which moves nothing: 1 is pushed out
    ∷ sample 2
    (insert 1 10 ∷ insert 2 20 ∷ peek 1 ∷ insert 3 30 ∷ contains 1 ∷ contains 2 ∷ len ∷ [])
    (new ∷ new ∷ old 10 ∷ new ∷ no ∷ yes ∷ number 2 ∷ [])
    -- an empty list
    ∷ sample 2
    (is_empty ∷ get 7 ∷ peek 7 ∷ remove 7 ∷ touch 7 ∷ recency_rank 7 ∷ pop_lru ∷ peek_lru ∷ clear ∷ len ∷ [])
    (yes ∷ new ∷ new ∷ new ∷ no ∷ unranked ∷ empty ∷ empty ∷ done ∷ number 0 ∷ [])
    -- capacity 0 stores nothing
    ∷ sample 0
    (insert 7 70 ∷ contains 7 ∷ len ∷ pop_lru ∷ [])
    (new ∷ no ∷ number 0 ∷ empty ∷ [])
    -- capacity 1: an insert over a key pushes nothing out, one of another key does
    ∷ sample 1
    (insert 7 70 ∷ insert 7 71 ∷ peek 7 ∷ insert 8 80 ∷ peek 7 ∷ peek 8 ∷ len ∷ is_empty ∷ [])
    (new ∷ old 70 ∷ old 71 ∷ new ∷ new ∷ old 80 ∷ number 1 ∷ no ∷ [])
    -- an insert over a key moves it to the front, and so does `touch`
    ∷ sample 3
    (insert 1 10 ∷ insert 2 20 ∷ insert 3 30 ∷ insert 1 11 ∷ recency_rank 1 ∷ peek_lru ∷ touch 2 ∷ pop_lru ∷ pop_lru ∷ pop_lru ∷ pop_lru ∷ [])
    (new ∷ new ∷ new ∷ old 10 ∷ ranked 0 ∷ least 2 20 ∷ yes ∷ least 3 30 ∷ least 1 11 ∷ least 2 20 ∷ empty ∷ [])
    -- a removal and `clear` make room
    ∷ sample 2
    (insert 1 10 ∷ insert 2 20 ∷ remove 2 ∷ insert 3 30 ∷ contains 1 ∷ clear ∷ len ∷ insert 4 40 ∷ len ∷ [])
    (new ∷ new ∷ old 20 ∷ new ∷ yes ∷ done ∷ number 0 ∷ new ∷ number 1 ∷ [])
    ∷ []
