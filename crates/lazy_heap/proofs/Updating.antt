-- An update: a number made to fit, a score held, the entries made to fit.
use mathlib.Core.Path.{◌≡◌, refl, sym, ap, ◌∙◌}
use mathlib.Core.Bool.{Bool, true, false, true≢false, cond, not, ◌&&◌, ◌||◌}
use mathlib.Core.Logic.{inl, inr}
use mathlib.Core.List.{List, [], ◌∷◌}
use Prim.Native.Nat.{ℕ, ◌+◌, ◌-◌, ◌*◌, ◌^◌, ◌<◌, ◌≤◌}
use native.Mathlib.Omega.{arith}
use native.Mathlib.Nat.{mul-le-mul}
use lib.Dec.{eqb, leb}
use lib.ListN.{length}
use borrow.Author.Tests.{lt-ltb, le-leb, eqb-false}
use Rattle.std.specs.Prelude.{Option, Some, Ok, Err}
use Rattle.cells.specs.declared.Probe.{Probe}
use Rattle.cells.specs.declared.Probe.TheVariants.{At, Free, Full}
use Rattle.rings.proofs.Counts.{by_lt}
use Rattle.binary_heap.proofs.Laws.{insert_length}
use Rattle.binary_heap.proofs.Laws.{model_length as array-length}
use Rattle.linked_hash_map.specs.declared.map.Record.{Record}
use Rattle.linked_hash_map.specs.Model.{has, lookup, without}
use Rattle.linked_hash_map.specs.Calls.{place_of}
use Rattle.linked_hash_map.proofs.Probed.{free_not_at, hit, miss, ends}
use Rattle.linked_hash_map.proofs.Places.{full_no_map}
use Rattle.linked_hash_map.proofs.Putting.{model_length}
use Rattle.time.specs.declared.refusal.Refusal.TheVariants.{KeyLimitReached}
use Rattle.lazy_heap.specs.declared.heap.LazyMinHeap.{LazyMinHeap}
use Rattle.lazy_heap.specs.Words.{part, Room}
use Rattle.lazy_heap_model.specs.Model.{Heap, entry_of, at_least_one, surplus, too_many, numbered, held_score, is_full, before_push, renumbered, pushed, rebuilt, maybe_rebuilt, updated, update_discards}
use Rattle.lazy_heap.specs.Valid.{Valid}
use Rattle.lazy_heap.specs.Heap.{entries_of, model_of, Parts, IsHeap}
use Rattle.lazy_heap.specs.Steps.{is_over, sum, Fitting, Holding, Trimming}
use Rattle.lazy_heap.specs.Calls.{counted, Updating}
use Rattle.lazy_heap.proofs.Helds.{length_without_le}
use Rattle.lazy_heap.proofs.Valid.{valid_rebuilt, valid_pushed, live_length, numbered_length, numbered_has}
use Rattle.lazy_heap.proofs.Stepping.{same_capacity, kept_same}
use Rattle.lazy_heap.proofs.Calling.{room_limits, Fair, fair_heap, fair_renumbered, heap_again}

-- ---- as many keys held as the limit allows
module _ (k : ℕ) (m : Heap) where
  held_not_full : has k m.held ≡ true → is_full k m ≡ false
  unfolding is_full
  held_not_full e = rw e

  new_full : has k m.held ≡ false → is_full k m ≡ leb m.limit (length m.held)
  unfolding is_full
  new_full e = rw e

-- the place of a key tells whether it is held
pub over_full : {ws : List ℕ} (h : LazyMinHeap) (k : ℕ) {p : Probe} → place_of ws h.scores k ≡ Ok p → Parts ws h → is_full k (model_of ws h) ≡ is_over p h.scores.len h.scores.capacity
over_full {ws} h k {p = At c s} e q = held_not_full k (model_of ws h) (hit q.scores k (ends ws h.scores k e).at).held
over_full {ws} h k {p = Free c} e q = new_full k (model_of ws h) (miss q.scores k (free_not_at (ends ws h.scores k e).at)).held ∙ ap (leb h.scores.capacity) (model_length ws h.scores)
over_full h k {p = Full} e q = absurd (full_no_map k e q.scores)

-- what a number made to fit leaves of a place
pub place_kept : {ws ws' : List ℕ} {h h' : LazyMinHeap} {d : ℕ} {p : Probe} (k : ℕ) → Fitting ws h ws' h' d → place_of ws h.scores k ≡ Ok p → h.seq < 2 ^ 64 - 1 → place_of ws' h'.scores k ≡ Ok p
place_kept k fit e more = let q = fit.same more in rw (q.0, q.1) e

-- ---- a held key leaves room for itself
without_held : (k : ℕ) (l : List Record) → has k l ≡ true → length (without k l) < length l
unfolding has without
without_held k [] e = absurd (true≢false (sym e))
without_held k (r ∷ l) e = go (eqb r.key k) refl e (without_held k l)
  where
    go : (b : Bool) → eqb r.key k ≡ b → (b || has k l) ≡ true → (has k l ≡ true → length (without k l) < length l) → length (cond b (without k l) (r ∷ without k l)) < length (r ∷ l)
    go true q w ih = omega (arith, length_without_le k l)
    go false q w ih = omega (arith, ih w)

pub room_without : (k : ℕ) (m : Heap) → length m.held ≤ m.limit → is_full k m ≡ false → length (without k m.held) < m.limit
unfolding is_full
room_without k m b e = go (has k m.held) refl e
  where
    go : (u : Bool) → has k m.held ≡ u → (not u && leb m.limit (length m.held)) ≡ false → length (without k m.held) < m.limit
    go true q w = omega (arith, without_held k m.held q)
    go false q w = by_lt (length m.held) m.limit (λ g. omega (arith, length_without_le k m.held)) (λ g. absurd (true≢false (sym (le-leb m.limit (length m.held) g) ∙ w)))

-- ---- renumbered first, if need be
numbered_score : (k : ℕ) (l : List Record) → held_score (lookup k (numbered l)) ≡ held_score (lookup k l)
unfolding numbered lookup
numbered_score k [] = refl
numbered_score k (r ∷ l) = go (eqb r.key k) (numbered_score k l)
  where
    x : Record
    x = record { key = r.key; first = r.first; second = length l }

    go : (b : Bool) → held_score (lookup k (numbered l)) ≡ held_score (lookup k l) → held_score (cond b (Some x) (lookup k (numbered l))) ≡ held_score (cond b (Some r) (lookup k l))
    go true ih = refl
    go false ih = ih

-- what the first step leaves as it is
pub record Ready (k : ℕ) (m : Heap) (n : Heap) : Type 0 where
  pub fair : Fair n
  pub full : is_full k n ≡ is_full k m
  pub score : held_score (lookup k n.held) ≡ held_score (lookup k m.held)
  pub factor : n.factor ≡ m.factor
  pub limit : n.limit ≡ m.limit
  pub next : n.next < 2 ^ 64 - 1

pub ready : (k : ℕ) (m : Heap) → Fair m → m.limit ≤ 4096 → m.next < 2 ^ 64 → Ready k m (before_push m)
unfolding before_push renumbered is_full
ready k m f l b = go (eqb m.next (2 ^ 64 - 1)) refl
  where
    go : (u : Bool) → eqb m.next (2 ^ 64 - 1) ≡ u → Ready k m (cond u (renumbered m) m)
    go true q = record {
      fair = fair_renumbered f;
      full = rw (numbered_has k m.held, numbered_length m.held);
      score = numbered_score k m.held;
      factor = refl;
      limit = refl;
      next = omega (arith, f.valid.few);
    }
    go false q = record {
      fair = f;
      full = refl;
      score = refl;
      factor = refl;
      limit = refl;
      next = let d = eqb-false m.next (2 ^ 64 - 1) q in omega arith;
    }

-- ---- pushed, and rebuilt if need be
pub push_length : (k s : ℕ) (n : Heap) → length (pushed k s n).entries ≡ length n.entries + 1
unfolding pushed
push_length k s n = insert_length (entry_of (record { key = k; first = s; second = n.next })) n.entries

push_frame : (k s : ℕ) (n : Heap) → ((pushed k s n).limit ≡ n.limit) × ((pushed k s n).factor ≡ n.factor)
unfolding pushed
push_frame k s n = (refl, refl)

fair_fit : (g : ℕ) (n : Heap) → Valid n → g ≤ 8 → (1 ≤ n.factor) × (n.factor ≤ 8) → length n.entries ≤ 8 * n.limit + 1 → Fair (maybe_rebuilt g n)
unfolding maybe_rebuilt rebuilt
fair_fit g n v b f e = go (too_many g n) refl
  where
    go : (u : Bool) → too_many g n ≡ u → Fair (cond u (rebuilt n) n)
    go true q = record { valid = valid_rebuilt n v; few = omega (arith, live_length n.held, v.few); factor = f }
    go false q = record {
      valid = v;
      few = by_lt (at_least_one g * length n.held) (length n.entries) (λ w. absurd (true≢false (sym (lt-ltb (at_least_one g * length n.held) (length n.entries) w) ∙ q))) (λ w. let c : at_least_one g ≤ 8 = omega arith in omega (arith, mul-le-mul c v.few));
      factor = f;
    }

sum_small : {a c : ℕ} → a ≤ 32769 → c ≤ 32769 → sum a c ≡ a + c
sum_small {a} {c} p q = rw (le-leb a 32769 p, le-leb c 32769 q)

module _ {ws ws₁ ws₂ ws' : List ℕ} {h h₁ h₂ h' : LazyMinHeap} {k s a c : ℕ} {b : Option ℕ} (fit : Fitting ws h ws₁ h₁ a) (hold : Holding ws₁ h₁ k s ws₂ h₂ b) (trim : Trimming ws₂ h₂ h₂.factor ws' h' c) (ok : Room (length ws) h.scores.capacity) where
  module _ (is : IsHeap ws h) (new : is_full k (model_of ws h) ≡ false) where
    abbrev m : Heap
    m = model_of ws h

    abbrev m₁ : Heap
    m₁ = before_push m

    is_ready : Ready k m m₁
    is_ready = ready k m (fair_heap is) ok.limit fit.word

    first_is : model_of ws₁ h₁ ≡ m₁
    first_is = fit.model is.parts

    heap₁ : IsHeap ws₁ h₁
    heap₁ = heap_again (fit.parts is.parts) first_is is_ready.fair

    new₁ : is_full k (model_of ws₁ h₁) ≡ false
    new₁ = ap (is_full k) first_is ∙ is_ready.full ∙ new

    number₁ : h₁.seq < 2 ^ 64 - 1
    number₁ = let q : h₁.seq ≡ m₁.next = ap (λ (n : Heap). n.next) first_is in omega (arith, is_ready.next)

    second_is : model_of ws₂ h₂ ≡ pushed k s m₁
    second_is = hold.model (fit.parts is.parts) heap₁.few new₁ number₁ ∙ ap (pushed k s) first_is

    parts₂ : Parts ws₂ h₂
    parts₂ = hold.parts (fit.parts is.parts) heap₁.few

    factor₂ : h₂.factor ≡ h.factor
    factor₂ = hold.factor ∙ fit.factor

    few_factor : h₂.factor ≤ 8
    few_factor = omega (arith, factor₂, is.factor)

    third_is : model_of ws' h' ≡ updated k s m
    unfolding updated
    third_is = trim.model parts₂ few_factor ∙ (λ i. maybe_rebuilt (factor₂ i) (second_is i))

    fair₃ : Fair (updated k s m)
    unfolding updated
    fair₃ =
        let r = is_ready in
        let p = push_frame k s m₁ in
        fair_fit h.factor (pushed k s m₁) (valid_pushed k s m₁ r.fair.valid (room_without k m₁ r.fair.valid.few (r.full ∙ new))) is.factor.1
        (rw p.1 r.fair.factor)
        (omega (arith, push_length k s m₁, p.0, r.fair.few))

    heap₃ : IsHeap ws' h'
    heap₃ = heap_again (trim.parts parts₂) third_is fair₃

    answer₃ : b ≡ held_score (lookup k m.held)
    answer₃ = hold.answer (fit.parts is.parts) new₁ ∙ ap (λ (n : Heap). held_score (lookup k n.held)) first_is ∙ is_ready.score

    -- both counts are those of a heap, so that they are added
    few_first : a ≤ 32769
    few_first = omega (arith, fit.small, is.few, ok.limit)

    few_second : c ≤ 32769
    few_second =
        let n = h₂.scores.capacity in
        let e : length (entries_of ws₂ h₂) ≡ length (pushed k s m₁).entries = ap (λ (x : Heap). length x.entries) second_is in
        omega (arith, trim.small, array-length (part n ws₂) h₂.entries, e, push_length k s m₁, is_ready.fair.few, is_ready.limit, ok.limit)

    discarded₃ : a + c ≡ update_discards k s m
    unfolding update_discards
    discarded₃ =
        ap (λ (x : ℕ). x + c) (fit.discarded is.parts)
        ∙ ap (λ (x : ℕ). cond (eqb h.seq (2 ^ 64 - 1)) (surplus m) 0 + x) (trim.discarded parts₂ few_factor ∙ (λ i. cond (too_many (factor₂ i) (second_is i)) (surplus (second_is i)) 0))

  pub updating : {d : ℕ} → (Parts ws h → is_full k (model_of ws h) ≡ false) → d ≡ sum a c → Updating ws h k s ws' h' (Ok (counted b d))
  updating {d} room add = record {
    outcome = inl (sym (room_limits ok));
    refused = λ why q. cc;
    answer = λ is.
        let new = room is.parts in
        let total : d ≡ update_discards k s (model_of ws h) = add ∙ sum_small (few_first is new) (few_second is new) ∙ discarded₃ is new in
        (λ i. Ok (counted (answer₃ is new i) (total i))) ∙ sym (rw new);
    heap = λ is. heap₃ is (room is.parts);
    model = λ is new. third_is is new;
    capacity = same_capacity trim.scores ∙ hold.capacity ∙ fit.capacity;
    kept = record {
      size = trim.kept.size ∙ hold.kept.size ∙ fit.kept.size;
      past = λ j g. trim.kept.past j (rw hold.capacity (rw fit.capacity g)) ∙ hold.kept.past j (rw fit.capacity g) ∙ fit.kept.past j g;
    };
  }

-- refused: nothing changes
pub updating_full : {ws : List ℕ} {h : LazyMinHeap} {k s : ℕ} → (Parts ws h → is_full k (model_of ws h) ≡ true) → Room (length ws) h.scores.capacity → Updating ws h k s ws h (Err KeyLimitReached)
updating_full {ws} {h} full ok = record {
  outcome = inr (room_limits ok, refl);
  refused = λ why q. (refl, refl);
  answer = λ is. sym (rw (full is.parts));
  heap = λ is. is;
  model = λ is new. absurd (true≢false (sym (full is.parts) ∙ new));
  capacity = refl;
  kept = kept_same h.scores.capacity ws;
}
