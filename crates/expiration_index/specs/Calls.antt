-- What each call promises. In this order: when it is refused, that nothing else is, and that a refusal changes nothing; then,
-- on an index, the model after it and the heap after it, its answer, and how many entries it discarded; and what it keeps on
-- any words.
use Rattle.std.specs.Prelude.{◌≡◌, Bool, true, false, ◌⊎◌, List, [], ℕ, ◌^◌, ◌<◌, eqb, length, Option, Some, None, Result, Ok, Err, ⊤}
use Rattle.limits.specs.Limits.{heap_limits}
use Rattle.time.specs.declared.tick.Tick.{Tick}
use Rattle.time.specs.declared.refusal.Refusal.{Refusal}
use Rattle.time.specs.declared.refusal.Refusal.TheVariants.{KeyLimitReached}
use Rattle.lazy_heap.specs.Words.{Kept}
use Rattle.lazy_heap.specs.Answers.{outcome_of}
use Rattle.lazy_heap.specs.Calls.{counted, with_held}
use Rattle.lazy_heap_model.specs.declared.counted.Counted.{Counted}
use Rattle.lazy_heap_model.specs.Model.{Heap, heap_len, surplus, opened, updated, update_discards, removed, peeked, popped, cleared, stale}
use Rattle.expiration_index.specs.declared.index.ExpirationIndex.{ExpirationIndex}
use Rattle.expiration_index.specs.Answers.{beside}
use Rattle.expiration_index.specs.Model.{Pair, Pairs, has, without, deadline_of, set, is_full, set_answer, next_due, next_expired, expired_due, without_expired, expired_count}
use Rattle.expiration_index.specs.Index.{factor, IsIndex, deadlines, heap_of, model_of}

-- the key limit
abbrev pub limit : ExpirationIndex → ℕ
limit x = x.heap.scores.capacity

-- refusals 1 and 2 of an index's numbers
abbrev pub limits_in : List ℕ → ExpirationIndex → Result ⊤ Refusal
limits_in ws x = heap_limits (limit x) (length ws)

-- `open`: the empty index, whatever the words held
pub record Opening (ws : List ℕ) (d s : ℕ) (ws' : List ℕ) (r : Result ExpirationIndex Refusal) : Type 0 where
  pub outcome : outcome_of r ≡ heap_limits d (length ws)
  pub refused : (why : Refusal) → r ≡ Err why → ws' ≡ ws
  pub index : (x : ExpirationIndex) → r ≡ Ok x → IsIndex ws' x
  pub model : (x : ExpirationIndex) → r ≡ Ok x → model_of ws' x ≡ []
  pub heap : (x : ExpirationIndex) → r ≡ Ok x → heap_of ws' x ≡ opened d factor s
  pub kept : Kept d ws ws'

-- ---- calls that change nothing
pub record Asking {A : Type 0} (ws : List ℕ) (x : ExpirationIndex) (value : A) (r : Result A Refusal) : Type 0 where
  pub outcome : outcome_of r ≡ limits_in ws x
  pub answer : IsIndex ws x → r ≡ Ok value

-- `len`
abbrev pub Length : List ℕ → ExpirationIndex → Result ℕ Refusal → Type 0
Length ws x r = Asking ws x (length (model_of ws x)) r

-- `heap_len`
abbrev pub HeapLength : List ℕ → ExpirationIndex → Result ℕ Refusal → Type 0
HeapLength ws x r = Asking ws x (heap_len (heap_of ws x)) r

-- `is_empty`
abbrev pub Emptiness : List ℕ → ExpirationIndex → Result Bool Refusal → Type 0
Emptiness ws x r = Asking ws x (eqb (length (model_of ws x)) 0) r

-- `contains`
abbrev pub Containing : List ℕ → ExpirationIndex → ℕ → Result Bool Refusal → Type 0
Containing ws x k r = Asking ws x (has k (model_of ws x)) r

-- `deadline_of`
abbrev pub DeadlineOf : List ℕ → ExpirationIndex → ℕ → Result (Option Tick) Refusal → Type 0
DeadlineOf ws x k r = Asking ws x (deadline_of k (model_of ws x)) r

-- `expired_count`
abbrev pub ExpiredCount : List ℕ → ExpirationIndex → Tick → Result ℕ Refusal → Type 0
ExpiredCount ws x t r = Asking ws x (expired_count t (model_of ws x)) r

-- `check`: yes exactly for an index
pub record Checking (ws : List ℕ) (x : ExpirationIndex) (r : Bool) : Type 0 where
  pub sound : r ≡ true → IsIndex ws x
  pub complete : IsIndex ws x → r ≡ true

-- ---- calls that change the index
-- what they have in common
pub record Call {A : Type 0} (ws : List ℕ) (x : ExpirationIndex) (after : Pairs → Pairs) (next : Heap → Heap) (ws' : List ℕ) (x' : ExpirationIndex) (r : Result A Refusal) : Type 0 where
  pub outcome : outcome_of r ≡ limits_in ws x
  pub refused : (why : Refusal) → r ≡ Err why → (x' ≡ x) × (ws' ≡ ws)
  pub index : IsIndex ws x → IsIndex ws' x'
  pub model : IsIndex ws x → model_of ws' x' ≡ after (model_of ws x)
  pub heap : IsIndex ws x → heap_of ws' x' ≡ next (heap_of ws x)
  pub kept : Kept (limit x) ws ws'
  pub limit : limit x' ≡ limit x

-- `clear` answers how many entries it discarded
abbrev pub emptied : Pairs → Pairs
emptied l = []

pub record Clearing (ws : List ℕ) (x : ExpirationIndex) (ws' : List ℕ) (x' : ExpirationIndex) (r : Result ℕ Refusal) : Type 0 where
  pub call : Call ws x emptied cleared ws' x' r
  pub answer : IsIndex ws x → r ≡ Ok (surplus (heap_of ws x))

-- `remove`. Of the numbers it changes the count of deadlines held alone.
pub record Removing (ws : List ℕ) (x : ExpirationIndex) (k : ℕ) (ws' : List ℕ) (x' : ExpirationIndex) (r : Result (Counted (Option Tick)) Refusal) : Type 0 where
  pub call : Call ws x (without k) (removed k) ws' x' r
  pub numbers : x'.heap ≡ with_held x.heap x'.heap.scores.len
  pub answer : IsIndex ws x → r ≡ Ok (counted (deadline_of k (model_of ws x)) 0)

-- `next_deadline`
abbrev same : Pairs → Pairs
same l = l

pub record NextDeadline (ws : List ℕ) (x : ExpirationIndex) (ws' : List ℕ) (x' : ExpirationIndex) (r : Result (Counted (Option (ℕ × Tick))) Refusal) : Type 0 where
  pub call : Call ws x same peeked ws' x' r
  pub answer : IsIndex ws x → r ≡ Ok (counted (next_due (model_of ws x)) (stale (heap_of ws x)))

-- `pop_expired`: it looks at the next deadline, and takes it if it is expired. The live entry that it takes is not counted.
abbrev pub taken_if : Option Pair → Heap → Heap
taken_if None h = peeked h
taken_if (Some p) h = popped h

unfoldable pub popped_expired : Tick → Heap → Heap
popped_expired t h = taken_if (next_expired t (deadlines h)) h

pub record PoppingExpired (ws : List ℕ) (x : ExpirationIndex) (t : Tick) (ws' : List ℕ) (x' : ExpirationIndex) (r : Result (Counted (Option (ℕ × Tick))) Refusal) : Type 0 where
  pub call : Call ws x (without_expired t) (popped_expired t) ws' x' r
  pub answer : IsIndex ws x → r ≡ Ok (counted (expired_due t (model_of ws x)) (stale (heap_of ws x)))

-- `set_deadline`: refusal 4 comes after 1 and 2. On words that are no index it may come without its cause.
pub record Setting (ws : List ℕ) (x : ExpirationIndex) (k : ℕ) (t : Tick) (ws' : List ℕ) (x' : ExpirationIndex) (r : Result (Counted (Option Tick)) Refusal) : Type 0 where
  pub outcome : (outcome_of r ≡ limits_in ws x) ⊎ ((limits_in ws x ≡ Ok tt) × (r ≡ Err KeyLimitReached))
  pub refused : (why : Refusal) → r ≡ Err why → (x' ≡ x) × (ws' ≡ ws)
  pub answer : IsIndex ws x → r ≡ beside (update_discards k t.0 (heap_of ws x)) (set_answer (limit x) k (model_of ws x))
  pub index : IsIndex ws x → IsIndex ws' x'
  pub model : IsIndex ws x → is_full (limit x) k (model_of ws x) ≡ false → model_of ws' x' ≡ set k t (model_of ws x)
  pub heap : IsIndex ws x → is_full (limit x) k (model_of ws x) ≡ false → heap_of ws' x' ≡ updated k t.0 (heap_of ws x)
  -- the next sequence number is a word, as any number handed in
  pub word : x.heap.seq < 2 ^ 64
  pub kept : Kept (limit x) ws ws'
  pub limit : limit x' ≡ limit x
