-- What each call promises: on any words and numbers, and on a heap.
use Rattle.std.specs.Prelude.{◌≡◌, Bool, true, false, cond, ◌⊎◌, List, ℕ, eqb, leb, length, Option, None, Some, Result, Ok, Err, ⊤}
use Rattle.limits.specs.Limits.{heap_limits, heap_limits_with}
use Rattle.time.specs.declared.refusal.Refusal.{Refusal}
use Rattle.time.specs.declared.refusal.Refusal.TheVariants.{KeyLimitReached}
use Rattle.linked_hash_map.specs.Model.{lookup}
use Rattle.lazy_heap.specs.declared.heap.LazyMinHeap.{LazyMinHeap}
use Rattle.lazy_heap_model.specs.declared.counted.Counted.{Counted}
use Rattle.lazy_heap.specs.Answers.{outcome_of}
use Rattle.lazy_heap.specs.Words.{Kept}
use Rattle.lazy_heap_model.specs.Model.{Heap, surplus, too_many, len, held_score, stale, best_of_heap, opened, with_factor, is_full, updated, update_discards, removed, peeked, popped, rebuilt, maybe_rebuilt, renumbered, cleared}
use Rattle.lazy_heap.specs.Heap.{model_of, IsHeap}

-- refusals 1 and 2 of a heap's numbers
abbrev pub limits_in : List ℕ → LazyMinHeap → Result ⊤ Refusal
limits_in ws h = heap_limits h.scores.capacity (length ws)

-- an answer, and how many entries its call discarded
abbrev pub counted : {A : Type 0} → A → ℕ → Counted A
counted a d = record { answer = a; discarded = d }

-- `open`
pub record Opening (ws : List ℕ) (n f s : ℕ) (ws' : List ℕ) (r : Result LazyMinHeap Refusal) : Type 0 where
  pub outcome : outcome_of r ≡ heap_limits_with n (length ws) f
  pub refused : (why : Refusal) → r ≡ Err why → ws' ≡ ws
  pub heap : (h : LazyMinHeap) → r ≡ Ok h → IsHeap ws' h
  pub model : (h : LazyMinHeap) → r ≡ Ok h → model_of ws' h ≡ opened n f s
  pub kept : Kept n ws ws'

-- what all calls on a lent heap have in common: they refuse under the cause alone, a refusal changes nothing, on a heap the
-- next model is that of a definition, and on any words and numbers the key limit stays
pub record Call {A : Type 0} (ws : List ℕ) (h : LazyMinHeap) (cause : Result ⊤ Refusal) (next : Heap → Heap) (ws' : List ℕ) (h' : LazyMinHeap) (r : Result A Refusal) : Type 0 where
  pub outcome : outcome_of r ≡ cause
  pub refused : (why : Refusal) → r ≡ Err why → (h' ≡ h) × (ws' ≡ ws)
  pub heap : cause ≡ Ok tt → IsHeap ws h → IsHeap ws' h'
  pub model : cause ≡ Ok tt → IsHeap ws h → model_of ws' h' ≡ next (model_of ws h)
  pub capacity : h'.scores.capacity ≡ h.scores.capacity
  pub kept : Kept h.scores.capacity ws ws'

-- `set_auto_rebuild`
abbrev pub Resetting : List ℕ → LazyMinHeap → ℕ → LazyMinHeap → Result ⊤ Refusal → Type 0
Resetting ws h f h' r = Call ws h (heap_limits_with h.scores.capacity (length ws) f) (with_factor f) ws h' r

-- the calls that answer how many entries they discarded
pub record Discards (ws : List ℕ) (h : LazyMinHeap) (cause : Result ⊤ Refusal) (next : Heap → Heap) (count : Heap → ℕ) (ws' : List ℕ) (h' : LazyMinHeap) (r : Result ℕ Refusal) : Type 0 where
  pub call : Call ws h cause next ws' h' r
  pub answer : cause ≡ Ok tt → IsHeap ws h → r ≡ Ok (count (model_of ws h))

-- `rebuild`
abbrev pub RebuildingNow : List ℕ → LazyMinHeap → List ℕ → LazyMinHeap → Result ℕ Refusal → Type 0
RebuildingNow ws h ws' h' r = Discards ws h (limits_in ws h) rebuilt surplus ws' h' r

-- `maybe_rebuild`
abbrev pub maybe_discards : ℕ → Heap → ℕ
maybe_discards f h = cond (too_many f h) (surplus h) 0

abbrev pub RebuildingMaybe : List ℕ → LazyMinHeap → ℕ → List ℕ → LazyMinHeap → Result ℕ Refusal → Type 0
RebuildingMaybe ws h f ws' h' r = Discards ws h (heap_limits_with h.scores.capacity (length ws) f) (maybe_rebuilt f) (maybe_discards f) ws' h' r

-- `renumber_seqs`
abbrev pub RenumberingNow : List ℕ → LazyMinHeap → List ℕ → LazyMinHeap → Result ℕ Refusal → Type 0
RenumberingNow ws h ws' h' r = Discards ws h (limits_in ws h) renumbered surplus ws' h' r

-- `clear`
abbrev pub Clearing : List ℕ → LazyMinHeap → List ℕ → LazyMinHeap → Result ℕ Refusal → Type 0
Clearing ws h ws' h' r = Discards ws h (limits_in ws h) cleared surplus ws' h' r

-- the calls that ask and change nothing
pub record Asking {A : Type 0} (ws : List ℕ) (h : LazyMinHeap) (value : Heap → A) (r : Result A Refusal) : Type 0 where
  pub outcome : outcome_of r ≡ limits_in ws h
  pub answer : IsHeap ws h → r ≡ Ok (value (model_of ws h))

-- `is_empty`
abbrev pub is_empty : Heap → Bool
is_empty h = eqb (len h) 0

-- `score_of`
abbrev pub score_of : ℕ → Heap → Option ℕ
score_of k h = held_score (lookup k h.held)

-- the numbers with another count of keys held
abbrev pub with_held : LazyMinHeap → ℕ → LazyMinHeap
with_held h n = record { scores = record { capacity = h.scores.capacity; len = n; refill_in = h.scores.refill_in }; entries = h.entries; seq = h.seq; factor = h.factor }

-- `remove`. Of the numbers it changes the count of keys held alone, so that a caller need not store the others.
pub record Removing (ws : List ℕ) (h : LazyMinHeap) (k : ℕ) (ws' : List ℕ) (h' : LazyMinHeap) (r : Result (Counted (Option ℕ)) Refusal) : Type 0 where
  pub call : Call ws h (limits_in ws h) (removed k) ws' h' r
  pub numbers : h' ≡ with_held h h'.scores.len
  pub answer : IsHeap ws h → r ≡ Ok (counted (score_of k (model_of ws h)) 0)

-- the calls that answer the best, or none, and how many stale entries they discarded before it
pub record Besting (ws : List ℕ) (h : LazyMinHeap) (next : Heap → Heap) (best : Heap → Option (ℕ × ℕ)) (ws' : List ℕ) (h' : LazyMinHeap) (r : Result (Counted (Option (ℕ × ℕ))) Refusal) : Type 0 where
  pub call : Call ws h (limits_in ws h) next ws' h' r
  pub answer : IsHeap ws h → r ≡ Ok (counted (best (model_of ws h)) (stale (model_of ws h)))

-- `peek_best`
abbrev pub PeekingBest : List ℕ → LazyMinHeap → List ℕ → LazyMinHeap → Result (Counted (Option (ℕ × ℕ))) Refusal → Type 0
PeekingBest ws h ws' h' r = Besting ws h peeked best_of_heap ws' h' r

-- `pop_best`
abbrev pub PoppingBest : List ℕ → LazyMinHeap → List ℕ → LazyMinHeap → Result (Counted (Option (ℕ × ℕ))) Refusal → Type 0
PoppingBest ws h ws' h' r = Besting ws h popped best_of_heap ws' h' r

-- of the best what has at most a score, and what is left then
abbrev pub within_best : ℕ → Option (ℕ × ℕ) → Option (ℕ × ℕ)
within_best s (Some b) = cond (leb b.1 s) (Some b) None
within_best s None = None

abbrev pub taken_within : ℕ → Option (ℕ × ℕ) → Heap → Heap
taken_within s (Some b) h = cond (leb b.1 s) (popped h) (peeked h)
taken_within s None h = peeked h

abbrev pub best_at_most : ℕ → Heap → Option (ℕ × ℕ)
best_at_most s h = within_best s (best_of_heap h)

abbrev pub popped_at_most : ℕ → Heap → Heap
popped_at_most s h = taken_within s (best_of_heap h) h

-- `pop_at_most`
abbrev pub PoppingAtMost : List ℕ → LazyMinHeap → ℕ → List ℕ → LazyMinHeap → Result (Counted (Option (ℕ × ℕ))) Refusal → Type 0
PoppingAtMost ws h s ws' h' r = Besting ws h (popped_at_most s) (best_at_most s) ws' h' r

-- `update`: refusal 4 comes after 1 and 2. On words that are no heap it may come without its cause.
abbrev pub update_answer : ℕ → ℕ → Heap → Result (Counted (Option ℕ)) Refusal
update_answer k s h = cond (is_full k h) (Err KeyLimitReached) (Ok (counted (score_of k h) (update_discards k s h)))

pub record Updating (ws : List ℕ) (h : LazyMinHeap) (k s : ℕ) (ws' : List ℕ) (h' : LazyMinHeap) (r : Result (Counted (Option ℕ)) Refusal) : Type 0 where
  pub outcome : (outcome_of r ≡ limits_in ws h) ⊎ ((limits_in ws h ≡ Ok tt) × (r ≡ Err KeyLimitReached))
  pub refused : (why : Refusal) → r ≡ Err why → (h' ≡ h) × (ws' ≡ ws)
  pub answer : IsHeap ws h → r ≡ update_answer k s (model_of ws h)
  pub heap : IsHeap ws h → IsHeap ws' h'
  pub model : IsHeap ws h → is_full k (model_of ws h) ≡ false → model_of ws' h' ≡ updated k s (model_of ws h)
  pub capacity : h'.scores.capacity ≡ h.scores.capacity
  pub kept : Kept h.scores.capacity ws ws'

-- `check`: yes exactly for a heap
pub record Checking (ws : List ℕ) (h : LazyMinHeap) (r : Bool) : Type 0 where
  pub sound : r ≡ true → IsHeap ws h
  pub complete : IsHeap ws h → r ≡ true
