-- What a heap is asked and answers without a change.
use mathlib.Core.Path.{◌≡◌, refl, sym, ap, ◌∙◌}
use mathlib.Core.Bool.{true}
use mathlib.Core.Logic.{⊎_elim}
use mathlib.Core.List.{List, [], ◌∷◌, Memᴰ}
use mathlib.Core.List.Memᴰ.{cases_cons}
use mathlib.Core.List.Memᴰ.{head}
use mathlib.Core.List.Memᴰ.{not-nil}
use mathlib.Core.List.Memᴰ.{tail}
use Prim.Native.Nat.{ℕ, ◌<◌}
use native.Mathlib.Omega.{arith}
use borrow.Author.Tests.{lt-leb}
use Rattle.binary_heap.specs.declared.entries.Entry.{Entry}
use Rattle.binary_heap.specs.Order.{le, Sorted}
use Rattle.binary_heap.proofs.Laws.{le_scores, count_mem, model_length as array-length}
use Rattle.linked_hash_map.specs.declared.map.Record.{Record}
use Rattle.linked_hash_map.specs.declared.map.Unfit.{Unfit}
use Rattle.linked_hash_map.specs.Map as map
use Rattle.linked_hash_map.specs.Calls.{Finding, Reading}
use Rattle.linked_hash_map.proofs.Putting.{model_length}
use Rattle.limits.specs.Limits.{heap_limits}
use Rattle.std.specs.Prelude.{Option, None, Some, Result, Ok}
use lib.ListN.{length}
use Rattle.lazy_heap.specs.declared.heap.LazyMinHeap.{LazyMinHeap}
use Rattle.lazy_heap.specs.Words.{part}
use Rattle.lazy_heap_model.specs.Model.{Heap, entry_of, count_at_most, at_most, held_score}
use Rattle.lazy_heap.specs.Valid.{Valid}
use Rattle.lazy_heap.specs.Heap.{model_of, IsHeap}
use Rattle.lazy_heap.specs.Calls.{Asking, score_of}
use Rattle.lazy_heap.specs.Steps.{CountingEntries}
use Rattle.lazy_heap.specs.Walks.{CountingWithin}
use Rattle.lazy_heap.proofs.Valid.{sorted_cons}
use Rattle.lazy_heap.proofs.Own.{live_at_most}
use Rattle.lazy_heap.proofs.Slots.{slot_in}
use Rattle.lazy_heap.proofs.Settling.{slot_nothing}
use Rattle.lazy_heap.proofs.Calling.{asking_done}

-- ---- no key holds at most a score
-- where every key's is above it
none_at_most : (s : ℕ) (held : List Record) → ((r : Record) → Memᴰ r held → s < r.first) → count_at_most s held ≡ 0
unfolding count_at_most
none_at_most s [] above = refl
none_at_most s (r ∷ held) above = rw (lt-leb r.first s (above r (head refl))) (omega (arith, none_at_most s held (λ x m. above x (tail m))))

-- and so where every entry's is, since each key has an entry
module _ (m : Heap) (v : Valid m) (s : ℕ) where
  all_above : ((e : Entry) → Memᴰ e m.entries → s < e.score) → at_most s m ≡ 0
  all_above above = none_at_most s m.held (λ r q. above (entry_of r) (count_mem (entry_of r) m.entries (omega (arith, v.once r q))))

  -- as where there is none
  pub none_above : m.entries ≡ [] → at_most s m ≡ 0
  none_above q = all_above (λ e i. absurd (not-nil (rw q at i)))

  -- or where the first's is, which none is below
  pub first_above : (e : Entry) (es : List Entry) → m.entries ≡ e ∷ es → s < e.score → at_most s m ≡ 0
  first_above e es q l = all_above (λ x i. ⊎_elim (λ w. rw w l) (λ t. omega (arith, le_scores e x (first.0 x t))) (cases_cons (rw q at i)))
    where
      first : ((x : Entry) → Memᴰ x es → le e x ≡ true) × Sorted es
      first = sorted_cons e es (rw q at v.sorted)

-- ---- where there are as many entries as keys the entries tell
pub counting_entries : {ws : List ℕ} {h : LazyMinHeap} → h.entries ≡ h.scores.len → {s r : ℕ} → CountingEntries ws h s r → CountingWithin ws h s r
counting_entries {ws} {h} e {s} c = record {
  answer = λ p v. c.answer p ∙ live_at_most (model_of ws h) v s (array-length (part h.scores.capacity ws) h.entries ∙ e ∙ sym (model_length ws h.scores));
}

-- ---- a key's score
module _ {ws : List ℕ} {h : LazyMinHeap} {k : ℕ} {at : Result (Option ℕ) Unfit} (ok : heap_limits h.scores.capacity (length ws) ≡ Ok tt) (find : Finding ws h.scores k at) where
  slot_is : {slot : Option ℕ} → slot_in at ≡ slot → IsHeap ws h → map.slot_of ws h.scores k ≡ slot
  slot_is q is = sym (ap slot_in (find.answer is.parts.scores)) ∙ q

  pub score_told : {s : ℕ} {r : Record} → slot_in at ≡ Some s → Reading ws h.scores s r → Asking ws h (score_of k) (Ok (Some r.first))
  score_told q read = asking_done ok (λ is. sym (ap held_score (read.keyed is.parts.scores k (slot_is q is))))

  pub score_none : slot_in at ≡ None → Asking ws h (score_of k) (Ok None)
  score_none q = asking_done ok (λ is. sym (ap held_score (slot_nothing ws h.scores k (slot_is q is))))
