-- Steps on one part of a book, as the layer below promises them, and one step after another.
use mathlib.Core.Path.{◌≡◌, refl, sym, ap, ◌∙◌}
use mathlib.Core.List.{List}
use Prim.Native.Nat.{ℕ, ◌+◌, ◌-◌, ◌*◌, ◌≤◌}
use native.Mathlib.Omega.{arith}
use lib.ListN.{length, length-drop}
use borrow.Author.Tests.{ne_eqb, le-ltb}
use lib.ListN as words
use borrow.Rule.Slice.PartMut.{mid_of, put_mid}
use Rattle.std.specs.Prelude.{Option, Result, Ok, IsOk}
use Rattle.limits.specs.Limits.{heap_limits}
use Rattle.lazy_heap.specs.Answers.{outcome_of}
use Rattle.time.specs.declared.tick.Tick.{Tick}
use Rattle.time.specs.declared.refusal.Refusal.{Refusal}
use Rattle.lazy_heap_model.specs.declared.counted.Counted.{Counted}
use Rattle.lazy_heap_model.specs.Model.{Heap, surplus, stale}
use Rattle.lazy_heap.specs.Words as heap
use Rattle.fast_lru.specs.declared.lru.FastLru.{FastLru}
use Rattle.fast_lru_model.specs.Model.{Items}
use Rattle.fast_lru.specs.Lru as lru
use Rattle.fast_lru.proofs.Laws as list
use Rattle.expiration_index.specs.declared.index.ExpirationIndex.{ExpirationIndex}
use Rattle.expiration_index.specs.Model.{Pairs}
use Rattle.expiration_index.specs.Index as index
use Rattle.expiration_index.specs.Calls as calls
use Rattle.expiring.specs.declared.expiring.Expiring.{Expiring}
use Rattle.expiring_model.specs.Model.{Change, keep, drop, drop_all, look, pairs_after}
use Rattle.expiring_model.specs.Discards.{discards, heap_after}
use Rattle.expiring.specs.Book.{start, Room, capacity_of, limit_of, rest, IsBook, heap_of, Kept}
use Rattle.expiring.specs.Steps.{with_list, with_index, deadlines_of, Moved, same}
use Rattle.expiring.proofs.Limits.{same_value, never_refused}
use Rattle.expiring.proofs.Frames.{rest_is, rest_back, rest_length, rest_before, rest_kept, kept_then, kept_list}

-- ---- what keeps the deadlines
pub pairs_keep : (l : Pairs) → pairs_after keep l ≡ l
unfolding pairs_after
pairs_keep l = refl

pub heap_keep : (h : Heap) → heap_after keep h ≡ h
unfolding heap_after
heap_keep h = refl

pub discards_keep : (h : Heap) → discards keep h ≡ 0
unfolding discards
discards_keep h = refl

-- ---- a step on the values
module _ {ws ws' : List ℕ} (b : Expiring) (l : FastLru) (c : l.map.capacity ≡ capacity_of b) (k : lru.Kept (capacity_of b) ws ws') where
  pub rest_list : rest ws' (with_list b l) ≡ rest ws b
  rest_list = ap (λ (n : ℕ). words.drop (start n) ws') c ∙ list.kept_drop (capacity_of b) ws ws' k

  pub moved_list : (f : Items → Items) → (lru.IsList ws b.inner → lru.IsList ws' l) → (lru.IsList ws b.inner → lru.model_of ws' l ≡ f (lru.model_of ws b.inner)) → Moved ws b keep f ws' (with_list b l) 0
  moved_list f is model = record {
    capacity = c;
    limit = refl;
    lifetime = refl;
    expirations = refl;
    book = λ o. record { list = is o.list; index = rw rest_list o.index };
    stored = λ o. model o.list;
    deadlines = λ o. ap (λ (x : List ℕ). index.model_of x b.index) rest_list ∙ sym (pairs_keep (deadlines_of ws b));
    heap = λ o. ap (λ (x : List ℕ). index.heap_of x b.index) rest_list ∙ sym (heap_keep (heap_of ws b));
    discarded = λ o. sym (discards_keep (heap_of ws b));
    kept = kept_list (capacity_of b) (limit_of b) k;
  }

-- ---- a step on the deadlines
-- the index's part of the words, as it is lent
abbrev pub lent : List ℕ → Expiring → List ℕ
lent ws b = mid_of (start (capacity_of b)) (length ws - start (capacity_of b)) ws

-- and the words with it put back
abbrev pub back : List ℕ → Expiring → List ℕ → List ℕ
back ws b ys = put_mid (start (capacity_of b)) (length ws - start (capacity_of b)) ws ys

room_start : (ws : List ℕ) (b : Expiring) → Room (length ws) (capacity_of b) (limit_of b) → start (capacity_of b) ≤ length ws
room_start ws b r = omega (arith, r.words)

module _ (ws : List ℕ) (b : Expiring) (room : Room (length ws) (capacity_of b) (limit_of b)) where
  pub lent_is : lent ws b ≡ rest ws b
  lent_is = rest_is ws (start (capacity_of b)) (room_start ws b room)

  pub lent_index : IsBook ws b → index.IsIndex (lent ws b) b.index
  lent_index o = rw lent_is o.index

  -- there is room for the index behind a book's list, so that it refuses nothing
  pub rest_limits : calls.limits_in (rest ws b) b.index ≡ Ok tt
  unfolding heap_limits
  rest_limits =
      let d = limit_of b in
      let size : 64 + 32 * d ≤ length (rest ws b) = omega (arith, length-drop (start (capacity_of b)) ws, room.words) in
      rw (ne_eqb d 0 (λ q. omega (arith, room.some)), le-ltb 4096 d room.limit, le-ltb (length (rest ws b)) (64 + 32 * d) size)

  pub rest_answers : {A : Type 0} (r : Result A Refusal) → outcome_of r ≡ calls.limits_in (rest ws b) b.index → IsOk r
  rest_answers r e = never_refused r (e ∙ rest_limits)

  pub lent_limits : calls.limits_in (lent ws b) b.index ≡ Ok tt
  lent_limits = ap (λ (l : List ℕ). calls.limits_in l b.index) lent_is ∙ rest_limits

  pub lent_answers : {A : Type 0} (r : Result A Refusal) → outcome_of r ≡ calls.limits_in (lent ws b) b.index → IsOk r
  lent_answers r e = never_refused r (e ∙ lent_limits)

  module _ {ys : List ℕ} (x : ExpirationIndex) (k : heap.Kept (limit_of b) (lent ws b) ys) where
    pub rest_index : rest (back ws b ys) (with_index b x) ≡ ys
    rest_index = rest_back ws (start (capacity_of b)) (room_start ws b room) ys k.size

    pub list_same : IsBook ws b → lru.IsList (back ws b ys) b.inner × (lru.model_of (back ws b ys) b.inner ≡ lru.model_of ws b.inner)
    list_same o =
        let n = rest_length ws (start (capacity_of b)) (room_start ws b room) ys k.size in
        let s = rest_before ws (start (capacity_of b)) (room_start ws b room) ys k.size in
        (list.list_frame o.list (back ws b ys) (omega (arith, n, o.list.words)) s, list.model_frame o.list (back ws b ys) (omega (arith, n, o.list.words)) s)

    pub index_kept : Kept (capacity_of b) (limit_of b) ws (back ws b ys)
    index_kept = rest_kept ws (start (capacity_of b)) (room_start ws b room) ys k.size (capacity_of b) (limit_of b) refl k

    pub moved_index : (ch : Change) {d : ℕ} → calls.limit x ≡ limit_of b → (IsBook ws b → index.IsIndex ys x) → (IsBook ws b → index.model_of ys x ≡ pairs_after ch (deadlines_of ws b)) → (IsBook ws b → index.heap_of ys x ≡ heap_after ch (heap_of ws b)) → (IsBook ws b → d ≡ discards ch (heap_of ws b)) → Moved ws b ch same (back ws b ys) (with_index b x) d
    moved_index ch limit is model after count = record {
      capacity = refl;
      limit = limit;
      lifetime = refl;
      expirations = refl;
      book = λ o. record { list = (list_same o).0; index = rw rest_index (is o) };
      stored = λ o. (list_same o).1;
      deadlines = λ o. ap (λ (l : List ℕ). index.model_of l x) rest_index ∙ model o;
      heap = λ o. ap (λ (l : List ℕ). index.heap_of l x) rest_index ∙ after o;
      discarded = count;
      kept = index_kept;
    }

  -- as an index call has it
  pub moved_call : (ch : Change) {A : Type 0} {after : Pairs → Pairs} {next : Heap → Heap} {ys : List ℕ} {x : ExpirationIndex} {r : Result A Refusal} {d : ℕ} → calls.Call (lent ws b) b.index after next ys x r → ((l : Pairs) → after l ≡ pairs_after ch l) → ((h : Heap) → next h ≡ heap_after ch h) → (IsBook ws b → d ≡ discards ch (heap_of ws b)) → Moved ws b ch same (back ws b ys) (with_index b x) d
  moved_call ch {A} {after} {next} {ys} {x} {r} {d} k a n e =
      let model = ap (λ (l : List ℕ). index.model_of l b.index) lent_is in
      let state = ap (λ (l : List ℕ). index.heap_of l b.index) lent_is in
      moved_index x k.kept ch k.limit (λ o. k.index (lent_index o)) (λ o. k.model (lent_index o) ∙ a _ ∙ ap (pairs_after ch) model) (λ o. k.heap (lent_index o) ∙ n _ ∙ ap (heap_after ch) state) e

  module _ {ys : List ℕ} {x : ExpirationIndex} where
    pub moved_drop : {k : ℕ} {r : Result (Counted (Option Tick)) Refusal} → calls.Removing (lent ws b) b.index k ys x r → Moved ws b (drop k) same (back ws b ys) (with_index b x) 0
    unfolding pairs_after heap_after discards
    moved_drop {k} o = moved_call (drop k) o.call (λ l. refl) (λ h. refl) (λ is. refl)

    pub moved_clear : {r : Result ℕ Refusal} {n : ℕ} → calls.Clearing (lent ws b) b.index ys x r → r ≡ Ok n → Moved ws b drop_all same (back ws b ys) (with_index b x) n
    unfolding pairs_after heap_after discards
    moved_clear o e = moved_call drop_all o.call (λ l. refl) (λ h. refl) (λ is. same_value (sym e ∙ o.answer (lent_index is)) ∙ ap (λ (l : List ℕ). surplus (index.heap_of l b.index)) lent_is)

    pub moved_look : {r : Result (Counted (Option (ℕ × Tick))) Refusal} {n : Counted (Option (ℕ × Tick))} → calls.NextDeadline (lent ws b) b.index ys x r → r ≡ Ok n → Moved ws b look same (back ws b ys) (with_index b x) n.discarded
    unfolding pairs_after heap_after discards
    moved_look o e = moved_call look o.call (λ l. refl) (λ h. refl) (λ is. ap (λ (c : Counted (Option (ℕ × Tick))). c.discarded) (same_value (sym e ∙ o.answer (lent_index is))) ∙ ap (λ (l : List ℕ). stale (index.heap_of l b.index)) lent_is)

-- ---- a step on the values and then one on the deadlines
module _ {ws ws₁ ws₂ : List ℕ} {b b₁ b₂ : Expiring} {f : Items → Items} {ch : Change} {d : ℕ} where
  pub moved_then : Moved ws b keep f ws₁ b₁ 0 → Moved ws₁ b₁ ch same ws₂ b₂ d → Moved ws b ch f ws₂ b₂ d
  moved_then p q = record {
    capacity = q.capacity ∙ p.capacity;
    limit = q.limit ∙ p.limit;
    lifetime = q.lifetime ∙ p.lifetime;
    expirations = q.expirations ∙ p.expirations;
    book = λ o. q.book (p.book o);
    stored = λ o. q.stored (p.book o) ∙ p.stored o;
    deadlines = λ o. q.deadlines (p.book o) ∙ ap (pairs_after ch) (p.deadlines o ∙ pairs_keep (deadlines_of ws b));
    heap = λ o. q.heap (p.book o) ∙ ap (heap_after ch) (p.heap o ∙ heap_keep (heap_of ws b));
    discarded = λ o. q.discarded (p.book o) ∙ ap (discards ch) (p.heap o ∙ heap_keep (heap_of ws b));
    kept = kept_then p.capacity p.limit p.kept q.kept;
  }

-- ---- and the other way round
module _ {ws ws₁ ws₂ : List ℕ} {b b₁ b₂ : Expiring} {f : Items → Items} {ch : Change} {d : ℕ} where
  pub moved_later : Moved ws b ch same ws₁ b₁ d → Moved ws₁ b₁ keep f ws₂ b₂ 0 → Moved ws b ch f ws₂ b₂ d
  moved_later p q = record {
    capacity = q.capacity ∙ p.capacity;
    limit = q.limit ∙ p.limit;
    lifetime = q.lifetime ∙ p.lifetime;
    expirations = q.expirations ∙ p.expirations;
    book = λ o. q.book (p.book o);
    stored = λ o. q.stored (p.book o) ∙ ap f (p.stored o);
    deadlines = λ o. q.deadlines (p.book o) ∙ pairs_keep (deadlines_of ws₁ b₁) ∙ p.deadlines o;
    heap = λ o. q.heap (p.book o) ∙ heap_keep (heap_of ws₁ b₁) ∙ p.heap o;
    discarded = p.discarded;
    kept = kept_then p.capacity p.limit p.kept q.kept;
  }

-- ---- no step at all
pub moved_same : (ws : List ℕ) (b : Expiring) → Moved ws b keep same ws b 0
moved_same ws b = record {
  capacity = refl;
  limit = refl;
  lifetime = refl;
  expirations = refl;
  book = λ o. o;
  stored = λ o. refl;
  deadlines = λ o. sym (pairs_keep (deadlines_of ws b));
  heap = λ o. sym (heap_keep (heap_of ws b));
  discarded = λ o. sym (discards_keep (heap_of ws b));
  kept = record { size = refl; past = λ j h. refl };
}
