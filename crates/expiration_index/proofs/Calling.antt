-- What the calls come to: the heap's own promise, read on the pairs.
use mathlib.Core.Path.{◌≡◌, refl, sym, ap, ◌∙◌, subst}
use mathlib.Core.Bool.{Bool, true, false, cond}
use mathlib.Core.Logic.{inl, inr, ⊎_elim}
use mathlib.Core.List.{List, [], ◌∷◌}
use Prim.Native.Nat.{ℕ, ◌-◌, ◌^◌, ◌<◌}
use native.Mathlib.Omega.{arith}
use lib.Dec.{eqb, leb}
use lib.ListN.{length}
use Rattle.std.specs.Prelude.{Option, Some, None, is_some, Result, Ok, Err, ⊤}
use Rattle.std.specs.Result.{result_map_both}
use Rattle.limits.specs.Limits.{heap_limits, heap_limits_with}
use Rattle.time.specs.declared.tick.Tick.{Tick}
use Rattle.time.specs.declared.refusal.Refusal.{Refusal}
use Rattle.time.specs.declared.refusal.Refusal.TheVariants.{KeyLimitReached}
use Rattle.binary_heap.specs.declared.entries.Entry.{Entry}
use Rattle.lazy_heap.specs.declared.heap.LazyMinHeap.{LazyMinHeap}
use Rattle.lazy_heap_model.specs.declared.counted.Counted.{Counted}
use Rattle.lazy_heap.specs.Answers.{outcome_of}
use Rattle.lazy_heap_model.specs.Model.{Heap, len, heap_len, at_most, held_score, from_live, too_many, rebuilt, renumbered, before_push, pushed, maybe_rebuilt, opened, updated, update_discards, removed, peeked, popped, popped_from, best_of_heap, cleared, stale}
use Rattle.lazy_heap_model.specs.Model as lazy
use Rattle.lazy_heap.specs.Heap.{IsHeap}
use Rattle.lazy_heap.specs.Calls.{counted, score_of, taken_within, popped_at_most}
use Rattle.lazy_heap.specs.Calls as heap
use Rattle.lazy_heap.proofs.Calling.{with_refused, with_small}
use Rattle.lazy_heap.proofs.Laws.{room_limits}
use Rattle.expiration_index.specs.declared.index.ExpirationIndex.{ExpirationIndex}
use Rattle.expiration_index.specs.Model.{Pairs, is_full, without_expired}
use Rattle.expiration_index.specs.Answers.{deadline_in, due_in, beside}
use Rattle.expiration_index.specs.Index.{IsIndex, deadlines, heap_of, model_of}
use Rattle.expiration_index.specs.Calls.{limit, limits_in, Opening, Asking, Length, Emptiness, Containing, ExpiredCount, DeadlineOf, Call, emptied, Clearing, Removing, NextDeadline, popped_expired, PoppingExpired, Setting}
use Rattle.expiration_index.proofs.Pairs.{deadline_pairs, held_pairs, expired_deadlines, deadlines_length, deadlines_opened, deadlines_cleared, deadlines_removed, deadlines_peeked, deadlines_updated, full_deadlines}
use Rattle.expiration_index.proofs.Nexts.{best_due, expired_due_lem, expired_heap, expired_pairs}

-- ---- an answer read
-- the value of an answer, read by f, with a refusal as it is
abbrev pub reading : {A B : Type 0} → (A → B) → Result A Refusal → Result B Refusal
reading f r = result_map_both f (λ e. e) r

-- and of one with a count
abbrev pub within : {A B : Type 0} → (A → B) → Counted A → Counted B
within f c = counted (f c.answer) c.discarded

reading_outcome : {A B : Type 0} (f : A → B) (r : Result A Refusal) → outcome_of (reading f r) ≡ outcome_of r
reading_outcome f (Ok a) = refl
reading_outcome f (Err why) = refl

reading_refused : {A B : Type 0} (f : A → B) (r : Result A Refusal) {why : Refusal} → reading f r ≡ Err why → r ≡ Err why
reading_refused f (Ok a) e = cc
reading_refused f (Err why) e = cc

-- ---- the factor stays
factor_popped : (m : Heap) → (popped m).factor ≡ m.factor
unfolding popped peeked
factor_popped m = go (from_live m.held m.entries)
  where
    go : (l : List Entry) → (popped_from l m).factor ≡ m.factor
    go [] = refl
    go (e ∷ l) = refl

factor_at_most : (s : ℕ) (m : Heap) → (popped_at_most s m).factor ≡ m.factor
unfolding peeked
factor_at_most s m = go (best_of_heap m)
  where
    by : (b : Bool) → (cond b (popped m) (peeked m)).factor ≡ m.factor
    by true = factor_popped m
    by false = refl

    go : (b : Option (ℕ × ℕ)) → (taken_within s b m).factor ≡ m.factor
    go (Some b) = by (leb b.1 s)
    go None = refl

factor_updated : (k s : ℕ) (m : Heap) → (updated k s m).factor ≡ m.factor
unfolding updated maybe_rebuilt rebuilt pushed before_push renumbered
factor_updated k s m = rebuilds (too_many m.factor (pushed k s (before_push m))) ∙ numbers (eqb m.next (2 ^ 64 - 1))
  where
    numbers : (b : Bool) → (cond b (renumbered m) m).factor ≡ m.factor
    numbers true = refl
    numbers false = refl

    rebuilds : (b : Bool) → (cond b (rebuilt (pushed k s (before_push m))) (pushed k s (before_push m))).factor ≡ (before_push m).factor
    rebuilds true = refl
    rebuilds false = refl

index_after : {ws ws' : List ℕ} {x x' : ExpirationIndex} {m : Heap} → IsIndex ws x → IsHeap ws' x'.heap → heap_of ws' x' ≡ m → m.factor ≡ x.heap.factor → IsIndex ws' x'
index_after is h e f = record { heap = h; factor = ap (λ (m : Heap). m.factor) e ∙ f ∙ is.factor }

-- read as it is
itself : {A : Type 0} (r : Result A Refusal) → reading (λ a. a) r ≡ r
itself (Ok a) = refl
itself (Err why) = refl

-- refusal 4 comes in the place of the answer
told_full : (b : Bool) (s : Option ℕ) (d : ℕ) → reading (within deadline_in) (cond b (Err KeyLimitReached) (Ok (counted s d))) ≡ beside d (cond b (Err KeyLimitReached) (Ok (deadline_in s)))
told_full true s d = refl
told_full false s d = refl

-- the best read as the next due, beside the same count
due_told : {r : Result (Counted (Option (ℕ × ℕ))) Refusal} {best : Option (ℕ × ℕ)} {due : Option (ℕ × Tick)} {d : ℕ} → r ≡ Ok (counted best d) → due_in best ≡ due → reading (within due_in) r ≡ Ok (counted due d)
due_told {d = d} e q = ap (reading (within due_in)) e ∙ ap (λ (t : Option (ℕ × Tick)). Ok (counted t d)) q

-- ---- opening
with_two : (d l : ℕ) → heap_limits_with d l 2 ≡ heap_limits d l
with_two d l = go (heap_limits d l) refl
  where
    go : (o : Result ⊤ Refusal) → heap_limits d l ≡ o → heap_limits_with d l 2 ≡ heap_limits d l
    go (Err why) q = sym (q ∙ with_refused d l 2 q)
    go (Ok u) q = sym (q ∙ with_small d l 2 q (omega arith))

factor_opened : (d s : ℕ) → (opened d 2 s).factor ≡ 2
unfolding opened
factor_opened d s = omega arith

-- an index of a heap
abbrev pub index_of : LazyMinHeap → ExpirationIndex
index_of h = record { heap = h }

pub opening : {ws ws' : List ℕ} {d s : ℕ} {r : Result LazyMinHeap Refusal} {a : Result ExpirationIndex Refusal} → heap.Opening ws d 2 s ws' r → a ≡ reading index_of r → Opening ws d s ws' a
opening {ws} {ws'} {d} {s} {r} o e = rw e (record {
  outcome = reading_outcome index_of r ∙ o.outcome ∙ with_two d (length ws);
  refused = λ why q. o.refused why (reading_refused index_of r q);
  index = λ x q. record { heap = o.heap x.heap (opened_as x q); factor = ap (λ (m : Heap). m.factor) (o.model x.heap (opened_as x q)) ∙ factor_opened d s };
  model = λ x q. ap deadlines (o.model x.heap (opened_as x q)) ∙ deadlines_opened d 2 s;
  heap = λ x q. o.model x.heap (opened_as x q);
  kept = o.kept;
})
  where
    opened_as : (x : ExpirationIndex) → reading index_of r ≡ Ok x → r ≡ Ok x.heap
    opened_as x q = go r q
      where
        go : (r : Result LazyMinHeap Refusal) → reading index_of r ≡ Ok x → r ≡ Ok x.heap
        go (Ok h) w = let e : index_of h ≡ x = cc in ap (λ (y : ExpirationIndex). Ok y.heap) e
        go (Err why) w = cc

-- ---- calls that change nothing
module _ {ws : List ℕ} {x : ExpirationIndex} where
  -- asked of the heap, and its answer read by f
  asking : {A B : Type 0} (f : A → B) {value : Heap → A} {v : B} {r : Result A Refusal} → (IsIndex ws x → f (value (heap_of ws x)) ≡ v) → heap.Asking ws x.heap value r → Asking ws x v (reading f r)
  asking f {r = r} q o = record { outcome = reading_outcome f r ∙ o.outcome; answer = λ is. ap (reading f) (o.answer is.heap) ∙ ap Ok (q is) }

  -- and as it is
  asked : {A : Type 0} {value : Heap → A} {v : A} {r : Result A Refusal} → value (heap_of ws x) ≡ v → heap.Asking ws x.heap value r → Asking ws x v r
  asked q o = record { outcome = o.outcome; answer = λ is. o.answer is.heap ∙ ap Ok q }

  pub length_asked : {r : Result ℕ Refusal} → heap.Asking ws x.heap len r → Length ws x r
  length_asked o = asked (sym (deadlines_length (heap_of ws x))) o

  pub expired_asked : (t : Tick) {r : Result ℕ Refusal} → heap.Asking ws x.heap (at_most t.0) r → ExpiredCount ws x t r
  expired_asked t o = asked (expired_deadlines t (heap_of ws x)) o

  pub emptiness : {r : Result Bool Refusal} → heap.Asking ws x.heap heap.is_empty r → Emptiness ws x r
  emptiness o = asked (ap (λ (n : ℕ). eqb n 0) (sym (deadlines_length (heap_of ws x)))) o

  pub containing : (k : ℕ) {r : Result (Option ℕ) Refusal} {a : Result Bool Refusal} → heap.Asking ws x.heap (score_of k) r → a ≡ reading is_some r → Containing ws x k a
  unfolding deadlines
  containing k o e = rw e (asking is_some (λ is. held_pairs k (heap_of ws x).held) o)

  pub deadline_told : (k : ℕ) {r : Result (Option ℕ) Refusal} {a : Result (Option Tick) Refusal} → heap.Asking ws x.heap (score_of k) r → a ≡ reading deadline_in r → DeadlineOf ws x k a
  unfolding deadlines
  deadline_told k o e = rw e (asking deadline_in (λ is. deadline_pairs k (heap_of ws x).held is.heap.valid.keys) o)

-- ---- calls that change the index
module _ {ws ws' : List ℕ} {x : ExpirationIndex} {h : LazyMinHeap} where
  call : {A B : Type 0} (f : A → B) {r : Result A Refusal} {after : Pairs → Pairs} {next : Heap → Heap} → heap.Call ws x.heap (limits_in ws x) next ws' h r → (IsIndex ws x → deadlines (next (heap_of ws x)) ≡ after (model_of ws x)) → (next (heap_of ws x)).factor ≡ x.heap.factor → Call ws x after next ws' (index_of h) (reading f r)
  call f {r} o model factor = record {
    outcome = reading_outcome f r ∙ o.outcome;
    refused = λ why q. let n = o.refused why (reading_refused f r q) in (ap index_of n.0, n.1);
    index = λ is. index_after is (o.heap (done is) is.heap) (o.model (done is) is.heap) factor;
    model = λ is. ap deadlines (o.model (done is) is.heap) ∙ model is;
    heap = λ is. o.model (done is) is.heap;
    kept = o.kept;
    limit = o.capacity;
  }
    where
      done : IsIndex ws x → limits_in ws x ≡ Ok tt
      done is = room_limits is.heap.parts.room

  pub clearing : {r : Result ℕ Refusal} → heap.Clearing ws x.heap ws' h r → Clearing ws x ws' (index_of h) r
  unfolding cleared
  clearing {r} o = record {
    call = subst (λ (u : Result ℕ Refusal). Call ws x emptied cleared ws' (index_of h) u) (itself r) (call (λ n. n) o.call (λ is. deadlines_cleared (heap_of ws x)) refl);
    answer = λ is. o.answer (room_limits is.heap.parts.room) is.heap;
  }

  pub removing : {k : ℕ} {r : Result (Counted (Option ℕ)) Refusal} {a : Result (Counted (Option Tick)) Refusal} → heap.Removing ws x.heap k ws' h r → a ≡ reading (within deadline_in) r → Removing ws x k ws' (index_of h) a
  unfolding removed deadlines
  removing {k} o e = rw e (record {
    call = call (within deadline_in) o.call (λ is. deadlines_removed k (heap_of ws x)) refl;
    numbers = o.numbers;
    answer = λ is. ap (reading (within deadline_in)) (o.answer is.heap) ∙ ap (λ (d : Option Tick). Ok (counted d 0)) (deadline_pairs k (heap_of ws x).held is.heap.valid.keys);
  })

  pub looking : {r : Result (Counted (Option (ℕ × ℕ))) Refusal} {a : Result (Counted (Option (ℕ × Tick))) Refusal} → heap.PeekingBest ws x.heap ws' h r → a ≡ reading (within due_in) r → NextDeadline ws x ws' (index_of h) a
  unfolding peeked
  looking o e = rw e (record {
    call = call (within due_in) o.call (λ is. deadlines_peeked (heap_of ws x)) refl;
    answer = λ is. due_told (o.answer is.heap) (best_due (heap_of ws x) is.heap.valid);
  })

  pub popping : {t : Tick} {r : Result (Counted (Option (ℕ × ℕ))) Refusal} {a : Result (Counted (Option (ℕ × Tick))) Refusal} → heap.PoppingAtMost ws x.heap t.0 ws' h r → a ≡ reading (within due_in) r → PoppingExpired ws x t ws' (index_of h) a
  popping {t} {r} o e = rw e (record {
    call = record { outcome = c.outcome; refused = c.refused; index = c.index; model = c.model; heap = λ is. c.heap is ∙ left is; kept = c.kept; limit = c.limit };
    answer = λ is. due_told (o.answer is.heap) (expired_due_lem t (heap_of ws x) is.heap.valid);
  })
    where
      left : IsIndex ws x → popped_at_most t.0 (heap_of ws x) ≡ popped_expired t (heap_of ws x)
      left is = expired_heap t (heap_of ws x) is.heap.valid

      c : Call ws x (without_expired t) (popped_at_most t.0) ws' (index_of h) (reading (within due_in) r)
      c = call (within due_in) o.call (λ is. ap deadlines (left is) ∙ expired_pairs t (heap_of ws x) is.heap.valid) (factor_at_most t.0 (heap_of ws x))

  pub setting : {k : ℕ} {t : Tick} {r : Result (Counted (Option ℕ)) Refusal} {a : Result (Counted (Option Tick)) Refusal} → heap.Updating ws x.heap k t.0 ws' h r → a ≡ reading (within deadline_in) r → x.heap.seq < 2 ^ 64 → Setting ws x k t ws' (index_of h) a
  unfolding deadlines
  setting {k} {t} {r} o e word = rw e (record {
    outcome = ⊎_elim (λ q. inl (reading_outcome (within deadline_in) r ∙ q)) (λ q. inr (q.0, ap (reading (within deadline_in)) q.1)) o.outcome;
    refused = λ why q. let n = o.refused why (reading_refused (within deadline_in) r q) in (ap index_of n.0, n.1);
    answer = λ is. ap (reading (within deadline_in)) (o.answer is.heap) ∙ told_full (lazy.is_full k (heap_of ws x)) (score_of k (heap_of ws x)) (update_discards k t.0 (heap_of ws x)) ∙ rw (full_deadlines k (heap_of ws x), sym (deadline_pairs k (heap_of ws x).held is.heap.valid.keys));
    index = λ is. by_full is (lazy.is_full k (heap_of ws x)) refl;
    model = λ is new. ap deadlines (o.model is.heap (room new)) ∙ deadlines_updated k t.0 (heap_of ws x);
    heap = λ is new. o.model is.heap (room new);
    word = word;
    kept = o.kept;
    limit = o.capacity;
  })
    where
      room : is_full (limit x) k (model_of ws x) ≡ false → lazy.is_full k (heap_of ws x) ≡ false
      room new = sym (full_deadlines k (heap_of ws x)) ∙ new

      full : IsIndex ws x → lazy.is_full k (heap_of ws x) ≡ true → r ≡ Err KeyLimitReached
      full is q = o.answer is.heap ∙ rw q

      by_full : IsIndex ws x → (b : Bool) → lazy.is_full k (heap_of ws x) ≡ b → IsIndex ws' (index_of h)
      by_full is true q = record { heap = o.heap is.heap; factor = ap (λ (g : LazyMinHeap). g.factor) (o.refused KeyLimitReached (full is q)).0 ∙ is.factor }
      by_full is false q = index_after is (o.heap is.heap) (o.model is.heap q) (factor_updated k t.0 (heap_of ws x))
