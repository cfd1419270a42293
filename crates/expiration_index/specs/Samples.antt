-- Worked examples: what samples B2, B4, B5, B7 and B9 to B11 of document 01 come to on the index, which has the deadlines
-- alone, and calls beside them.
use Rattle.std.specs.Prelude.{Bool, true, false, cond, List, [], ◌∷◌, ℕ, eqb, length, Option, Some, None, Result, Ok, Err}
use Rattle.time.specs.declared.tick.Tick.{Tick}
use Rattle.time.specs.declared.refusal.Refusal.{Refusal}
use Rattle.time.specs.declared.refusal.Refusal.TheVariants.{KeyLimitReached}
use Rattle.time.specs.Duration.{millis_of}
use Rattle.time.specs.Deadline.{deadline_from}
use Rattle.lazy_heap_model.specs.Model.{Heap, heap_len, surplus, opened, updated, update_discards, removed, peeked, cleared, stale}
use Rattle.expiration_index.specs.Model.{Pairs, has, without, deadline_of, set, is_full, set_answer, next_due, expired_due, without_expired, expired_count}
use Rattle.expiration_index.specs.Answers.{tick}
use Rattle.expiration_index.specs.Index.{factor, deadlines}
use Rattle.expiration_index.specs.Calls.{popped_expired}

pub data Call : Type 0 where
  set_deadline : ℕ → Tick → Call
  deadline_for : ℕ → Call
  contains : ℕ → Call
  remove : ℕ → Call
  next_deadline : Call
  pop_expired : ℕ → Call
  count_expired : ℕ → Call
  len : Call
  is_empty : Call
  clear : Call

pub data Answer : Type 0 where
  holds : Result (Option Tick) Refusal → Answer
  first : Option (ℕ × Tick) → Answer
  says : Bool → Answer
  number : ℕ → Answer
  done : Answer

-- an answer, how many entries were discarded, and how many are in the heap after it
pub record Answered : Type 0 where
  pub answer : Answer
  pub discarded : ℕ
  pub entries : ℕ

-- a list of calls on a fresh index
pub record Sample : Type 0 where
  pub limit : ℕ
  pub start : ℕ
  pub calls : List Call
  pub told : List Answered

-- what the definitions answer on a model for d keys, and the model after it
abbrev answer : ℕ → Call → Pairs → Answer
answer d (set_deadline k t) l = holds (set_answer d k l)
answer d (deadline_for k) l = holds (Ok (deadline_of k l))
answer d (contains k) l = says (has k l)
answer d (remove k) l = holds (Ok (deadline_of k l))
answer d next_deadline l = first (next_due l)
answer d (pop_expired t) l = first (expired_due (tick t) l)
answer d (count_expired t) l = number (expired_count (tick t) l)
answer d len l = number (length l)
answer d is_empty l = says (eqb (length l) 0)
answer d clear l = done

abbrev after : ℕ → Call → Pairs → Pairs
after d (set_deadline k t) l = cond (is_full d k l) l (set k t l)
after d (deadline_for k) l = l
after d (contains k) l = l
after d (remove k) l = without k l
after d next_deadline l = l
after d (pop_expired t) l = without_expired (tick t) l
after d (count_expired t) l = l
after d len l = l
after d is_empty l = l
after d clear l = []

-- the heap after it, and the entries discarded
abbrev heap_after : Call → Heap → Heap
heap_after (set_deadline k t) h = cond (is_full h.limit k (deadlines h)) h (updated k t.0 h)
heap_after (deadline_for k) h = h
heap_after (contains k) h = h
heap_after (remove k) h = removed k h
heap_after next_deadline h = peeked h
heap_after (pop_expired t) h = popped_expired (tick t) h
heap_after (count_expired t) h = h
heap_after len h = h
heap_after is_empty h = h
heap_after clear h = cleared h

abbrev discards : Call → Heap → ℕ
discards (set_deadline k t) h = cond (is_full h.limit k (deadlines h)) 0 (update_discards k t.0 h)
discards (deadline_for k) h = 0
discards (contains k) h = 0
discards (remove k) h = 0
discards next_deadline h = stale h
discards (pop_expired t) h = stale h
discards (count_expired t) h = 0
discards len h = 0
discards is_empty h = 0
discards clear h = surplus h

unfoldable pub told_by : ℕ → List Call → Pairs → Heap → List Answered
told_by d [] l h = []
told_by d (c ∷ cs) l h = record { answer = answer d c l; discarded = discards c h; entries = heap_len (heap_after c h) } ∷ told_by d cs (after d c l) (heap_after c h)

abbrev pub run : Sample → List Answered
run s = told_by s.limit s.calls [] (opened s.limit factor s.start)

abbrev sample : ℕ → ℕ → List Call → List Answered → Sample
sample d s calls told = record { limit = d; start = s; calls = calls; told = told }

abbrev a : Answer → ℕ → ℕ → Answered
a x d e = record { answer = x; discarded = d; entries = e }

-- set to a tick, or for a lifetime that starts at one
abbrev to : ℕ → ℕ → Call
to k t = set_deadline k (tick t)

abbrev lasting : ℕ → ℕ → ℕ → ℕ → Call
lasting k s n t = set_deadline k (deadline_from (tick t) (record { 0 = millis_of (record { secs = s; nanos = n }) }))

abbrev was : ℕ → Answer
was t = holds (Ok (Some (tick t)))

abbrev new : Answer
new = holds (Ok None)

abbrev full : Answer
full = holds (Err KeyLimitReached)

abbrev pair : ℕ → ℕ → Answer
pair k t = first (Some (k, tick t))

abbrev none : Answer
none = first None

abbrev pub samples : List Sample
samples =
    -- B2: live at 2999, expired at 3000, and missing after it was taken
    sample 4 0
    (lasting 7 2 0 1000 ∷ deadline_for 7 ∷ count_expired 2999 ∷ pop_expired 2999 ∷ count_expired 3000 ∷ pop_expired 3000 ∷ deadline_for 7 ∷ is_empty ∷ [])
    (a new 0 1 ∷ a (was 3000) 0 1 ∷ a (number 0) 0 1 ∷ a none 0 1 ∷ a (number 1) 0 1 ∷ a (pair 7 3000) 0 0 ∷ a new 0 0 ∷ a (says true) 0 0 ∷ [])
    -- B4: the old entry of 7 is discarded on the way to 8
    ∷ sample 4 0
    (to 7 3000 ∷ to 8 3000 ∷ to 7 3000 ∷ next_deadline ∷ [])
    (a new 0 1 ∷ a new 0 2 ∷ a (was 3000) 0 3 ∷ a (pair 8 3000) 1 2 ∷ [])
    -- B5: the third setting rebuilds
    ∷ sample 4 0
    (to 7 3000 ∷ to 7 3000 ∷ to 7 3000 ∷ [])
    (a new 0 1 ∷ a (was 3000) 0 2 ∷ a (was 3000) 2 1 ∷ [])
    -- B7: the third setting renumbers, and of equal deadlines the one set first comes first
    ∷ sample 4 18446744073709551613
    (to 7 100 ∷ to 8 100 ∷ to 9 100 ∷ next_deadline ∷ pop_expired 99 ∷ pop_expired 100 ∷ pop_expired 100 ∷ pop_expired 100 ∷ pop_expired 100 ∷ [])
    (a new 0 1 ∷ a new 0 2 ∷ a new 0 3 ∷ a (pair 7 100) 0 3 ∷ a none 0 3 ∷ a (pair 7 100) 0 2 ∷ a (pair 8 100) 0 1 ∷ a (pair 9 100) 0 0 ∷ a none 0 0 ∷ [])
    -- B9: a deadline is held whether or not a value is
    ∷ sample 4 0
    (lasting 7 0 5000000 0 ∷ next_deadline ∷ contains 7 ∷ [])
    (a new 0 1 ∷ a (pair 7 5) 0 1 ∷ a (says true) 0 1 ∷ [])
    -- B10: the longest lifetimes end one tick before the last
    ∷ sample 4 0
    (lasting 7 18446744073709551 615000000 0 ∷ next_deadline ∷ lasting 7 18446744073709551 616000000 0 ∷ pop_expired 18446744073709551613 ∷ next_deadline ∷ [])
    (a new 0 1 ∷ a (pair 7 18446744073709551614) 0 1 ∷ a (was 18446744073709551614) 0 2 ∷ a none 1 1 ∷ a (pair 7 18446744073709551614) 0 1 ∷ [])
    -- B11: a key beyond the limit is refused, and taken after another was removed
    ∷ sample 1 0
    (to 7 5 ∷ to 8 5 ∷ to 7 6 ∷ remove 7 ∷ to 8 9 ∷ deadline_for 8 ∷ contains 7 ∷ pop_expired 9 ∷ [])
    (a new 0 1 ∷ a full 0 1 ∷ a (was 5) 0 2 ∷ a (was 6) 0 2 ∷ a new 2 1 ∷ a (was 9) 0 1 ∷ a (says false) 0 1 ∷ a (pair 8 9) 0 0 ∷ [])
    -- a removal leaves its entry until it comes to the top, and `clear` counts those that no key holds
    ∷ sample 4 0
    (to 7 5 ∷ to 8 6 ∷ to 9 7 ∷ remove 7 ∷ pop_expired 5 ∷ count_expired 6 ∷ remove 9 ∷ len ∷ clear ∷ next_deadline ∷ len ∷ [])
    (a new 0 1 ∷ a new 0 2 ∷ a new 0 3 ∷ a (was 5) 0 3 ∷ a none 1 2 ∷ a (number 1) 0 2 ∷ a (was 7) 0 2 ∷ a (number 1) 0 2 ∷ a done 1 0 ∷ a none 0 0 ∷ a (number 0) 0 0 ∷ [])
    ∷ []
