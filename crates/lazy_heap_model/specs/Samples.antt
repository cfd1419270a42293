-- Worked examples: what samples B4, B5, B7 and B11 of document 01 come to on the heap, and `clear` and `pop_best` beside them.
use Rattle.std.specs.Prelude.{cond, List, [], ◌∷◌, ℕ, Option, Some, None, Result, Ok, Err}
use Rattle.time.specs.declared.refusal.Refusal.{Refusal}
use Rattle.time.specs.declared.refusal.Refusal.TheVariants.{KeyLimitReached}
use Rattle.linked_hash_map.specs.Model.{lookup}
use Rattle.lazy_heap_model.specs.Model.{Heap, heap_len, surplus, held_score, opened, is_full, updated, update_discards, removed, peeked, popped, rebuilt, cleared, stale, best_of_heap}

pub data Call : Type 0 where
  update : ℕ → ℕ → Call
  remove : ℕ → Call
  score_of : ℕ → Call
  peek_best : Call
  pop_best : Call
  rebuild : Call
  clear : Call

pub data Answer : Type 0 where
  holds : Result (Option ℕ) Refusal → Answer
  first : Option (ℕ × ℕ) → Answer
  done : Answer

-- an answer, how many entries were discarded, and how many are in the heap after it
pub record Told : Type 0 where
  pub answer : Answer
  pub discarded : ℕ
  pub entries : ℕ

-- a list of calls on a fresh heap
pub record Sample : Type 0 where
  pub limit : ℕ
  pub factor : ℕ
  pub start : ℕ
  pub calls : List Call
  pub told : List Told

abbrev answer : Call → Heap → Answer
answer (update k s) h = holds (cond (is_full k h) (Err KeyLimitReached) (Ok (held_score (lookup k h.held))))
answer (remove k) h = holds (Ok (held_score (lookup k h.held)))
answer (score_of k) h = holds (Ok (held_score (lookup k h.held)))
answer peek_best h = first (best_of_heap h)
answer pop_best h = first (best_of_heap h)
answer rebuild h = done
answer clear h = done

abbrev after : Call → Heap → Heap
after (update k s) h = cond (is_full k h) h (updated k s h)
after (remove k) h = removed k h
after (score_of k) h = h
after peek_best h = peeked h
after pop_best h = popped h
after rebuild h = rebuilt h
after clear h = cleared h

abbrev discards : Call → Heap → ℕ
discards (update k s) h = cond (is_full k h) 0 (update_discards k s h)
discards (remove k) h = 0
discards (score_of k) h = 0
discards peek_best h = stale h
discards pop_best h = stale h
discards rebuild h = surplus h
discards clear h = surplus h

unfoldable pub told_by : List Call → Heap → List Told
told_by [] h = []
told_by (c ∷ cs) h = record { answer = answer c h; discarded = discards c h; entries = heap_len (after c h) } ∷ told_by cs (after c h)

abbrev pub run : Sample → List Told
run s = told_by s.calls (opened s.limit s.factor s.start)

abbrev t : Answer → ℕ → ℕ → Told
t a d e = record { answer = a; discarded = d; entries = e }

-- the score that a call answers, or none; the first key with its score
abbrev was : ℕ → Answer
was s = holds (Ok (Some s))

abbrev none : Answer
none = holds (Ok None)

abbrev due : ℕ → ℕ → Answer
due k s = first (Some (k, s))

abbrev pub samples : List Sample
samples =
    -- B4: the old entry of 7 is discarded on the way to 8
    record {
      limit = 4;
      factor = 2;
      start = 0;
      calls = update 7 3000 ∷ update 8 3000 ∷ update 7 3000 ∷ peek_best ∷ [];
      told = t none 0 1 ∷ t none 0 2 ∷ t (was 3000) 0 3 ∷ t (due 8 3000) 1 2 ∷ [];
    }
    -- B5: the third setting rebuilds
    ∷ record {
      limit = 4;
      factor = 2;
      start = 0;
      calls = update 7 3000 ∷ update 7 3000 ∷ update 7 3000 ∷ [];
      told = t none 0 1 ∷ t (was 3000) 0 2 ∷ t (was 3000) 2 1 ∷ [];
    }
    -- B7: the third setting renumbers, and of equal scores the one set first comes first
    ∷ record {
      limit = 4;
      factor = 2;
      start = 18446744073709551613;
      calls = update 7 100 ∷ update 8 100 ∷ update 9 100 ∷ peek_best ∷ pop_best ∷ pop_best ∷ pop_best ∷ pop_best ∷ [];
      told = t none 0 1 ∷ t none 0 2 ∷ t none 0 3 ∷ t (due 7 100) 0 3 ∷ t (due 7 100) 0 2 ∷ t (due 8 100) 0 1 ∷ t (due 9 100) 0 0 ∷ t (first None) 0 0 ∷ [];
    }
    -- B11: a key beyond the limit is refused, and taken after another was removed
    ∷ record {
      limit = 1;
      factor = 2;
      start = 0;
      calls = update 7 5 ∷ update 8 5 ∷ update 7 6 ∷ remove 7 ∷ update 8 9 ∷ score_of 8 ∷ pop_best ∷ [];
      told = t none 0 1 ∷ t (holds (Err KeyLimitReached)) 0 1 ∷ t (was 5) 0 2 ∷ t (was 6) 0 2 ∷ t none 2 1 ∷ t (was 9) 0 1 ∷ t (due 8 9) 0 0 ∷ [];
    }
    -- an entry of the same score under an old number is stale, also after `clear`
    ∷ record {
      limit = 2;
      factor = 8;
      start = 0;
      calls = update 7 5 ∷ remove 7 ∷ update 8 6 ∷ update 7 5 ∷ rebuild ∷ clear ∷ update 7 5 ∷ pop_best ∷ [];
      told = t none 0 1 ∷ t (was 5) 0 1 ∷ t none 0 2 ∷ t none 0 3 ∷ t done 1 2 ∷ t done 0 0 ∷ t none 0 1 ∷ t (due 7 5) 0 0 ∷ [];
    }
    -- `clear` keeps the next number, so that the third setting renumbers, and discards the entry of 7
    ∷ record {
      limit = 4;
      factor = 8;
      start = 18446744073709551613;
      calls = update 7 5 ∷ clear ∷ update 7 5 ∷ remove 7 ∷ update 8 6 ∷ pop_best ∷ score_of 8 ∷ [];
      told = t none 0 1 ∷ t done 0 0 ∷ t none 0 1 ∷ t (was 5) 0 1 ∷ t none 1 1 ∷ t (due 8 6) 0 0 ∷ t none 0 0 ∷ [];
    }
    -- renumbering keeps the order of setting, before all that is set later
    ∷ record {
      limit = 4;
      factor = 2;
      start = 18446744073709551613;
      calls = update 7 5 ∷ update 8 6 ∷ update 9 5 ∷ pop_best ∷ pop_best ∷ pop_best ∷ [];
      told = t none 0 1 ∷ t none 0 2 ∷ t none 0 3 ∷ t (due 7 5) 0 2 ∷ t (due 9 5) 0 1 ∷ t (due 8 6) 0 0 ∷ [];
    }
    ∷ []
