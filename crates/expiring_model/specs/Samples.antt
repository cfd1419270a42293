-- Samples B1 to B12 of document 01, and two more: calls on a fresh book, and what the definitions are to give.
use Rattle.std.specs.Prelude.{List, [], ◌∷◌, ℕ, ◌+◌, ◌*◌, length, Option, Some, None}
use Rattle.time.specs.declared.tick.Tick.{Tick}
use Rattle.time.specs.declared.duration.Duration.{Duration}
use Rattle.time.specs.declared.refusal.Refusal.TheVariants.{KeyLimitReached}
use Rattle.lazy_heap_model.specs.Model.{Heap, heap_len, opened}
use Rattle.expiration_index.specs.Index.{factor}
use Rattle.expiring_model.specs.declared.answers.Answer.{Answer}
use Rattle.expiring_model.specs.declared.answers.Answer.TheVariants.{Nothing, Value, Yes, No, Missing, Immortal, Expired, Live, Count, Due, Item, Rank, Done, Refused}
use Rattle.expiring_model.specs.Model.{Book, Call, contains, peek, get, insert, remove, clear, insert_with_ttl, ttl_status, set_ttl, purge_expired, live_len, expirations, next_deadline, touch, recency_rank, pop_lru, peek_lru, fresh, answer_of, book_after}
use Rattle.expiring_model.specs.Discards.{discarded_by, heap_by}
use Rattle.expiring_model.specs.Model.{default_of}
use Rattle.expiring_model.specs.Lists.{Calls}

-- an answer, how many entries were discarded, and how many are in the heap after it
pub record Answered : Type 0 where
  pub answer : Answer
  pub discarded : ℕ
  pub entries : ℕ

-- both sides of the sum when all calls have been made
pub record Sum : Type 0 where
  pub discarded : ℕ
  pub entries : ℕ
  pub held : ℕ
  pub replaced : ℕ
  pub removed : ℕ

abbrev pub entries_side : Sum → ℕ
entries_side s = s.discarded + s.entries

abbrev pub pairs_side : Sum → ℕ
pairs_side s = s.held + s.replaced + s.removed

pub record Told : Type 0 where
  pub answers : List Answered
  pub sum : Sum

pub record Sample : Type 0 where
  pub capacity : ℕ
  pub limit : ℕ
  pub start : ℕ
  pub lifetime : Option Duration
  pub calls : Calls
  pub told : Told

-- ---- the model, and the heap beside it from whose entries the discarded counts are read
abbrev sum_of : ℕ → Book → Heap → Sum
sum_of n p h = record { discarded = n; entries = heap_len h; held = length p.deadlines; replaced = p.replaced; removed = p.removed }

abbrev with : Answered → Told → Told
with a told = record { answers = a ∷ told.answers; sum = told.sum }

-- n were discarded before
unfoldable pub told_by : Calls → ℕ → Book → Heap → Told
told_by [] n p h = record { answers = []; sum = sum_of n p h }
told_by ((t, c) ∷ cs) n p h =
    with
    (record { answer = answer_of t c p; discarded = discarded_by t c p h; entries = heap_len (heap_by t c p h) })
    (told_by cs (n + discarded_by t c p h) (book_after t c p) (heap_by t c p h))

abbrev pub run : Sample → Told
run s = told_by s.calls 0 (fresh s.capacity s.limit (default_of s.lifetime)) (opened s.limit factor s.start)

-- ---- the samples
abbrev at : ℕ → Call → Tick × Call
at t c = (record { 0 = t }, c)

abbrev lasting : ℕ → ℕ → Duration
lasting s n = record { secs = s; nanos = n }

-- a lifetime of a few milliseconds
abbrev ms : ℕ → Duration
ms n = lasting 0 (n * 1000000)

abbrev timed : ℕ → Duration → Call
timed k d = insert_with_ttl k (k * 10) d

abbrev live : ℕ → ℕ → Answer
live l d = Live (record { 0 = l }) (record { 0 = d })

abbrev due : ℕ → ℕ → Answer
due k d = Due k (record { 0 = d })

abbrev a : Answer → ℕ → ℕ → Answered
a x d e = record { answer = x; discarded = d; entries = e }

abbrev sum : ℕ → ℕ → ℕ → ℕ → ℕ → Sum
sum d e h p m = record { discarded = d; entries = e; held = h; replaced = p; removed = m }

abbrev opening : ℕ → ℕ → ℕ → Option Duration → Calls → List Answered → Sum → Sample
opening c d s l calls answers sum = record { capacity = c; limit = d; start = s; lifetime = l; calls = calls; told = record { answers = answers; sum = sum } }

-- "C 2, D 4, sequence 0, no default, unless said."
abbrev sample : Calls → List Answered → Sum → Sample
sample = opening 2 4 0 None

abbrev pub samples : List Sample
samples =
    -- B1: empty
    sample
    (at 0 (get 7) ∷ at 0 purge_expired ∷ at 0 next_deadline ∷ [])
    (a Nothing 0 0 ∷ a (Count 0) 0 0 ∷ a Nothing 0 0 ∷ [])
    (sum 0 0 0 0 0)
    -- B2: 7 with 2 s at 1000: 1 remaining at 2999, expired at 3000; then `get` none, expirations 1, missing
    ∷ sample
    (at 1000 (timed 7 (lasting 2 0)) ∷ at 2999 (ttl_status 7) ∷ at 3000 (ttl_status 7) ∷ at 3000 (get 7) ∷ at 3000 expirations ∷ at 3000 (ttl_status 7) ∷ [])
    (a Nothing 0 1 ∷ a (live 1 3000) 0 1 ∷ a Expired 0 1 ∷ a Nothing 0 1 ∷ a (Count 1) 0 1 ∷ a Missing 0 1 ∷ [])
    (sum 0 1 0 0 1)
    -- B3: the clock back to 500
    ∷ sample
    (at 1000 (timed 7 (lasting 2 0)) ∷ at 500 (ttl_status 7) ∷ [])
    (a Nothing 0 1 ∷ a (live 2500 3000) 0 1 ∷ [])
    (sum 0 1 1 0 0)
    -- B4: 7, 8, 7 set to 3000: next due 8, discarded 1, entries 2; 1 + 2 = 2 + 1 + 0
    ∷ sample
    (at 1000 (timed 7 (lasting 2 0)) ∷ at 1000 (timed 8 (lasting 2 0)) ∷ at 1000 (timed 7 (lasting 2 0)) ∷ at 1000 next_deadline ∷ [])
    (a Nothing 0 1 ∷ a Nothing 0 2 ∷ a (Value 70) 0 3 ∷ a (due 8 3000) 1 2 ∷ [])
    (sum 1 2 2 1 0)
    -- B5: 7 set three times: the third discards 2, entries 1
    ∷ sample
    (at 1000 (timed 7 (lasting 2 0)) ∷ at 1000 (timed 7 (lasting 2 0)) ∷ at 1000 (timed 7 (lasting 2 0)) ∷ [])
    (a Nothing 0 1 ∷ a (Value 70) 0 2 ∷ a (Value 70) 2 1 ∷ [])
    (sum 2 1 1 2 0)
    -- B6: C 1: 7 for 5 ms, 8 for 100 ms, both at 0. At 10 `live_len` is 0 though 8 is live; purge 1; then 1
    ∷ opening 1 4 0 None
    (at 0 (timed 7 (ms 5)) ∷ at 0 (timed 8 (ms 100)) ∷ at 10 live_len ∷ at 10 (ttl_status 8) ∷ at 10 purge_expired ∷ at 10 live_len ∷ [])
    (a Nothing 0 1 ∷ a Nothing 0 2 ∷ a (Count 0) 0 2 ∷ a (live 90 100) 0 2 ∷ a (Count 1) 1 1 ∷ a (Count 1) 0 1 ∷ [])
    (sum 1 1 1 0 1)
    -- B7: C 3, and 7, 8, 9 set to 100; the third renumbers; next due 7
    ∷ opening 3 4 18446744073709551613 None
    (at 0 (timed 7 (ms 100)) ∷ at 0 (timed 8 (ms 100)) ∷ at 0 (timed 9 (ms 100)) ∷ at 0 next_deadline ∷ [])
    (a Nothing 0 1 ∷ a Nothing 0 2 ∷ a Nothing 0 3 ∷ a (due 7 100) 0 3 ∷ [])
    (sum 0 3 3 0 0)
    -- B8: 999,999 ns at 50: stored, expired at 50. On an immortal key `set_ttl` with it at 50 removes, false
    ∷ sample
    (at 50 (timed 7 (lasting 0 999999)) ∷ at 50 (ttl_status 7) ∷ at 50 (insert 8 80) ∷ at 50 (ttl_status 8) ∷ at 50 (set_ttl 8 (lasting 0 999999)) ∷ at 50 (ttl_status 8) ∷ [])
    (a Nothing 0 1 ∷ a Expired 0 1 ∷ a Nothing 0 1 ∷ a Immortal 0 1 ∷ a No 0 1 ∷ a Missing 0 1 ∷ [])
    (sum 0 1 1 0 0)
    -- B9: C 0, default 5 ms, `insert` 7 at 0: none stored, next due (7, 5)
    ∷ opening 0 4 0 (Some (ms 5))
    (at 0 (insert 7 70) ∷ at 0 (ttl_status 7) ∷ at 0 next_deadline ∷ [])
    (a Nothing 0 1 ∷ a Missing 0 1 ∷ a (due 7 5) 0 1 ∷ [])
    (sum 0 1 1 0 0)
    -- B10: the longest lifetime but for the cap, from 0: deadline u64::MAX - 1. One more millisecond gives the same
    ∷ sample
    (at 0 (timed 7 (lasting 18446744073709551 615000000)) ∷ at 0 next_deadline ∷ at 0 (timed 7 (lasting 18446744073709551 616000000)) ∷ at 0 (ttl_status 7) ∷ [])
    (a Nothing 0 1 ∷ a (due 7 18446744073709551614) 0 1 ∷ a (Value 70) 0 2 ∷ a (live 18446744073709551614 18446744073709551614) 0 2 ∷ [])
    (sum 0 2 1 1 0)
    -- B11: D 1: 7 timed, 8 gets refusal 4, 7 again accepted; 7 removed, 8 accepted
    ∷ opening 2 1 0 None
    (at 0 (timed 7 (ms 5)) ∷ at 0 (timed 8 (ms 5)) ∷ at 0 (timed 7 (ms 5)) ∷ at 0 (remove 7) ∷ at 0 (timed 8 (ms 5)) ∷ [])
    (a Nothing 0 1 ∷ a (Refused KeyLimitReached) 0 1 ∷ a (Value 70) 0 2 ∷ a (Value 70) 0 2 ∷ a Nothing 2 1 ∷ [])
    (sum 2 1 1 1 1)
    -- B12: insert 1, 2, `get` 1, insert 3: 2 is pushed out; ranks 3:0, 1:1
    ∷ sample
    (at 0 (insert 1 10) ∷ at 0 (insert 2 20) ∷ at 0 (get 1) ∷ at 0 (insert 3 30) ∷ at 0 (contains 2) ∷ at 0 (contains 1) ∷ at 0 (recency_rank 3) ∷ at 0 (recency_rank 1) ∷ [])
    (a Nothing 0 0 ∷ a Nothing 0 0 ∷ a (Value 10) 0 0 ∷ a Nothing 0 0 ∷ a No 0 0 ∷ a Yes 0 0 ∷ a (Rank 0) 0 0 ∷ a (Rank 1) 0 0 ∷ [])
    (sum 0 0 0 0 0)
    -- beside those: the list's own calls, `peek` and `clear`
    ∷ sample
    (at 0 (insert 1 10) ∷ at 0 (timed 2 (ms 5)) ∷ at 0 (peek 1) ∷ at 0 peek_lru ∷ at 0 (touch 1) ∷ at 0 peek_lru ∷ at 0 pop_lru ∷ at 0 next_deadline ∷ at 0 clear ∷ at 0 (contains 1) ∷ at 0 next_deadline ∷ [])
    (a Nothing 0 0 ∷ a Nothing 0 1 ∷ a (Value 10) 0 1 ∷ a (Item 1 10) 0 1 ∷ a Yes 0 1 ∷ a (Item 2 20) 0 1 ∷ a (Item 2 20) 0 1 ∷ a (due 2 5) 0 1 ∷ a Done 0 0 ∷ a No 0 0 ∷ a Nothing 0 0 ∷ [])
    (sum 0 0 0 0 0)
    -- a stale entry behind the next due stays
    ∷ sample
    (at 0 (timed 7 (ms 5)) ∷ at 0 (timed 8 (ms 1)) ∷ at 0 (timed 7 (ms 6)) ∷ at 0 next_deadline ∷ [])
    (a Nothing 0 1 ∷ a Nothing 0 2 ∷ a (Value 70) 0 3 ∷ a (due 8 1) 0 3 ∷ [])
    (sum 0 3 2 1 0)
    ∷ []
