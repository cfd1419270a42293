-- What the layers above cite of an index, with the heap out of sight.
use mathlib.Core.Path.{◌≡◌, sym, ap, ◌∙◌, subst}
use mathlib.Core.Bool.{false}
use mathlib.Core.List.{List}
use Prim.Native.Nat.{ℕ, ◌+◌, ◌*◌, ◌<◌, ◌≤◌}
use native.Mathlib.Omega.{arith}
use lib.ListN.{length, get_or, drop, length-drop}
use lib.Seq.{ext_get_or, get_or-drop}
use Rattle.std.specs.Prelude.{Option, Some, None, Result, Ok}
use Rattle.time.specs.declared.tick.Tick.{Tick}
use Rattle.time.specs.declared.refusal.Refusal.{Refusal}
use Rattle.linked_hash_map.proofs.Putting as map
use Rattle.lazy_heap.specs.Words.{words_for, Kept}
use Rattle.lazy_heap.specs.Calls.{counted}
use Rattle.lazy_heap_model.specs.declared.counted.Counted.{Counted}
use Rattle.lazy_heap_model.specs.Model.{Heap, heap_len, surplus, removed, cleared, updated, update_discards}
use Rattle.lazy_heap.proofs.Laws as lazy
use Rattle.expiration_index.specs.declared.index.ExpirationIndex.{ExpirationIndex}
use Rattle.expiration_index.specs.Model.{Pair, Distinct, without, deadline_of, is_full, next_expired}
use Rattle.expiration_index.specs.Index.{IsIndex, deadlines, heap_of, model_of}
use Rattle.expiration_index.specs.Calls.{limit, Clearing, Removing, NextDeadline, PoppingExpired, popped_expired, taken_if, Setting}
use Rattle.expiration_index.proofs.Pairs.{distinct_pairs, deadlines_length, full_deadlines}
use Rattle.expiration_index.proofs.Pairs as pairs
use Rattle.expiration_index.proofs.Nexts.{best_taken}

-- the numbers tell how many deadlines there are
pub model_length : (ws : List ℕ) (x : ExpirationIndex) → length (model_of ws x) ≡ x.heap.scores.len
model_length ws x = deadlines_length (heap_of ws x) ∙ map.model_length ws x.heap.scores

-- a key that holds no deadline is removed for nothing
pub removed_none : (k : ℕ) (m : Heap) → deadline_of k (deadlines m) ≡ None → (removed k m ≡ m) × (without k (deadlines m) ≡ deadlines m)
removed_none k m e = let q = pairs.removed_none k m e in (q, sym (pairs.deadlines_removed k m) ∙ ap deadlines q)

module _ {ws : List ℕ} {x : ExpirationIndex} (is : IsIndex ws x) where
  pub limit_some : 1 ≤ limit x
  limit_some = is.heap.parts.room.some

  pub limit_bound : limit x ≤ 4096
  limit_bound = is.heap.parts.room.limit

  pub index_words : words_for (limit x) ≤ length ws
  index_words = is.heap.parts.room.words

  -- no key holds two deadlines, and no more than the limit hold one
  pub model_distinct : Distinct (model_of ws x)
  unfolding deadlines
  model_distinct = distinct_pairs (heap_of ws x).held is.heap.valid.keys

  pub model_bounded : length (model_of ws x) ≤ limit x
  model_bounded = omega (arith, deadlines_length (heap_of ws x), is.heap.valid.few)

  -- words past the index's own do not matter
  module _ (ws' : List ℕ) (fits : words_for (limit x) ≤ length ws') (same : (j : ℕ) → j < words_for (limit x) → get_or ws' j 0 ≡ get_or ws j 0) where
    pub index_frame : IsIndex ws' x
    index_frame = record { heap = lazy.heap_frame is.heap ws' fits same; factor = is.factor }

    pub heap_frame : heap_of ws' x ≡ heap_of ws x
    heap_frame = lazy.model_frame is.heap ws' fits same

    pub model_frame : model_of ws' x ≡ model_of ws x
    model_frame = ap deadlines heap_frame

-- and a call leaves them alone
pub kept_drop : (d : ℕ) (ws ws' : List ℕ) → Kept d ws ws' → drop (words_for d) ws' ≡ drop (words_for d) ws
kept_drop d ws ws' k =
    ext_get_or 0 (drop (words_for d) ws') (drop (words_for d) ws)
    (simp length-drop (omega (arith, k.size)))
    (λ i h. get_or-drop (words_for d) ws' i 0 ∙ k.past (words_for d + i) (omega arith) ∙ sym (get_or-drop (words_for d) ws i 0))

-- ---- entries discarded and entries left are the entries that were, and one more for a setting
-- the count in an answer
count_in : {A : Type 0} {c : Counted A} {a : A} {d : ℕ} → ◌≡◌ {A = Result (Counted A) Refusal} (Ok c) (Ok (counted a d)) → c.discarded ≡ d
count_in {A} {c} {a} {d} e = let q : c ≡ counted a d = cc in ap (λ (x : Counted A). x.discarded) q

module _ {ws ws' : List ℕ} {x x' : ExpirationIndex} (is : IsIndex ws x) where
  module _ {k : ℕ} {t : Tick} {c : Counted (Option Tick)} (o : Setting ws x k t ws' x' (Ok c)) (new : is_full (limit x) k (model_of ws x) ≡ false) where
    entries_set : heap_len (heap_of ws' x') ≡ length (updated k t.0 (heap_of ws x)).entries
    entries_set = ap heap_len (o.heap is new)

    discarded_set : c.discarded ≡ update_discards k t.0 (heap_of ws x)
    discarded_set = count_in {a = deadline_of k (model_of ws x)} (o.answer is ∙ rw new)

    pub setting_accounts : c.discarded + heap_len (heap_of ws' x') ≡ heap_len (heap_of ws x) + 1
    setting_accounts =
        omega (arith, discarded_set, entries_set, lazy.updated_accounts k t.0 (heap_of ws x) (lazy.fair_heap is.heap) is.heap.parts.room.limit o.word (sym (full_deadlines k (heap_of ws x)) ∙ new))

    -- after an accepted setting entries are at most twice the deadlines held
    pub setting_bound : heap_len (heap_of ws' x') ≤ 2 * length (model_of ws' x')
    setting_bound =
        let b : length (updated k t.0 (heap_of ws x)).entries ≤ 2 * length (updated k t.0 (heap_of ws x)).held = subst (λ (f : ℕ). length (updated k t.0 (heap_of ws x)).entries ≤ f * length (updated k t.0 (heap_of ws x)).held) is.factor (lazy.updated_bound k t.0 (heap_of ws x) (omega (arith, is.factor))) in
        omega (arith, b, entries_set, deadlines_length (heap_of ws' x'), ap (λ (m : Heap). length m.held) (o.heap is new))

  pub removing_accounts : {k : ℕ} {c : Counted (Option Tick)} → Removing ws x k ws' x' (Ok c) → c.discarded + heap_len (heap_of ws' x') ≡ heap_len (heap_of ws x)
  unfolding removed
  removing_accounts o = omega (arith, count_in (o.answer is), ap heap_len (o.call.heap is))

  -- the entries of held keys go with their keys
  pub clearing_accounts : {d : ℕ} → Clearing ws x ws' x' (Ok d) → d + length (model_of ws x) ≡ heap_len (heap_of ws x)
  clearing_accounts {d} o = let q : d ≡ surplus (heap_of ws x) = cc (o.answer is) in omega (arith, q, deadlines_length (heap_of ws x), lazy.cleared_accounts (heap_of ws x) is.heap.valid)

  pub clearing_entries : {r : Result ℕ Refusal} → Clearing ws x ws' x' r → heap_len (heap_of ws' x') ≡ 0
  unfolding cleared
  clearing_entries o = ap heap_len (o.call.heap is)

  pub next_accounts : {c : Counted (Option (ℕ × Tick))} → NextDeadline ws x ws' x' (Ok c) → c.discarded + heap_len (heap_of ws' x') ≡ heap_len (heap_of ws x)
  next_accounts o = omega (arith, count_in (o.answer is), ap heap_len (o.call.heap is), lazy.peeked_accounts (heap_of ws x))

  -- the entry of a deadline that is taken goes uncounted
  module _ {t : Tick} {c : Counted (Option (ℕ × Tick))} (o : PoppingExpired ws x t ws' x' (Ok c)) where
    pub popping_accounts : {p : Pair} → next_expired t (model_of ws x) ≡ Some p → c.discarded + heap_len (heap_of ws' x') + 1 ≡ heap_len (heap_of ws x)
    unfolding popped_expired
    popping_accounts {p} e =
        omega (arith, count_in (o.answer is), ap heap_len (o.call.heap is ∙ ap (λ (q : Option Pair). taken_if q (heap_of ws x)) e), best_taken t (heap_of ws x) is.heap.valid e, lazy.peeked_accounts (heap_of ws x), lazy.popped_accounts (heap_of ws x))

    pub left_accounts : next_expired t (model_of ws x) ≡ None → c.discarded + heap_len (heap_of ws' x') ≡ heap_len (heap_of ws x)
    unfolding popped_expired
    left_accounts e = omega (arith, count_in (o.answer is), ap heap_len (o.call.heap is ∙ ap (λ (q : Option Pair). taken_if q (heap_of ws x)) e), lazy.peeked_accounts (heap_of ws x))
