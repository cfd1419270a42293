-- What the layers above may cite.
use mathlib.Core.Path.{◌≡◌, refl, sym, ap, ◌∙◌, subst}
use mathlib.Core.Bool.{Bool, true, false, true≢false, cond}
use mathlib.Core.Logic.{⊎_elim}
use mathlib.Core.List.{List, [], ◌∷◌, Memᴰ}
use mathlib.Core.List.Memᴰ.{cases_cons}
use mathlib.Core.List.Memᴰ.{not-nil}
use Prim.Native.Nat.{ℕ, ◌+◌, ◌-◌, ◌*◌, ◌<◌, ◌≤◌}
use native.Mathlib.Omega.{arith}
use native.Mathlib.Nat.{mul-le-mul}
use lib.ListN.{length, get_or, drop}
use lib.Seq.{ext_get_or, get_or-take, get_or-drop}
use borrow.Author.Tests.{lt-ltb}
use Rattle.binary_heap.specs.declared.entries.Entry.{Entry}
use Rattle.binary_heap.specs.Order.{le, Sorted}
use Rattle.binary_heap.specs.Heap as array
use Rattle.binary_heap.proofs.Laws.{le_same, le_both, count_mem}
use Rattle.rings.proofs.Counts.{by_lt}
use Rattle.linked_hash_map.specs.declared.map.Record.{Record}
use Rattle.linked_hash_map.proofs.Laws as map
use Rattle.lazy_heap.specs.declared.heap.LazyMinHeap.{LazyMinHeap}
use Rattle.lazy_heap.specs.Words.{words_for, start, part}
use Rattle.lazy_heap_model.specs.Model.{Heap, entry_of, live, from_live, at_least_one, too_many, rebuilt, maybe_rebuilt, updated}
use Rattle.lazy_heap.specs.Valid.{Valid}
use Rattle.lazy_heap.specs.Heap.{model_of, IsHeap}
use Rattle.lazy_heap.proofs.Parts.{part_length}
use Rattle.lazy_heap.proofs.Helds.{held_live, live_held}
use Rattle.lazy_heap.proofs.Valid.{live_length, sorted_from, sorted_cons, first_live}
use Rattle.lazy_heap.proofs.Stepping.{same_heap}
-- a heap is within its limits, and its model keeps what every heap's does
pub use Rattle.lazy_heap.proofs.Calling.{limits_room, room_limits, with_room_lem, Fair, fair_heap}
-- as many entries as held keys, or more
pub use Rattle.lazy_heap.proofs.Own.{live_fit}
-- entries discarded and entries left are entries there were, and one more for an update
pub use Rattle.lazy_heap.proofs.Accounts.{rebuilt_accounts, renumbered_accounts, maybe_rebuilt_accounts, cleared_accounts, peeked_accounts, popped_accounts, updated_accounts}
-- no two entries share a sequence number, whatever is called
pub use Rattle.lazy_heap.proofs.Numbers.{different_none, different_rebuilt, different_renumbered, different_maybe_rebuilt, different_updated, different_removed, different_peeked, different_popped}

-- ---- the best entry is the least of the live ones
module _ (held : List Record) where
  live_stays : (es : List Entry) (x : Entry) → live held x ≡ true → Memᴰ x es → Memᴰ x (from_live held es)
  unfolding from_live
  live_stays [] x l m = absurd (not-nil m)
  live_stays (e ∷ es) x l m = go (live held e) refl (live_stays es x l)
    where
      go : (b : Bool) → live held e ≡ b → (Memᴰ x es → Memᴰ x (from_live held es)) → Memᴰ x (cond b (e ∷ es) (from_live held es))
      go true q ih = m
      go false q ih = ⊎_elim (λ w. absurd (true≢false (sym l ∙ ap (live held) w ∙ q))) ih (cases_cons m)

pub best_least : (m : Heap) → Valid m → (e : Entry) (es : List Entry) → from_live m.held m.entries ≡ e ∷ es → (x : Entry) → Memᴰ x m.entries → live m.held x ≡ true → le e x ≡ true
best_least m v e es q x in_heap l =
    ⊎_elim (λ w. subst (λ (y : Entry). le e y ≡ true) (sym w) (le_same e)) (first.0 x)
    (cases_cons (subst (Memᴰ x) q (live_stays m.held m.entries x l in_heap)))
  where
    first : ((y : Entry) → Memᴰ y es → le e y ≡ true) × Sorted es
    first = sorted_cons e es (rw q at (sorted_from m.held m.entries v.sorted))

-- ---- the held key whose entry is the least is the best
pub best_is : (m : Heap) → Valid m → (r : Record) → Memᴰ r m.held → ((q : Record) → Memᴰ q m.held → le (entry_of r) (entry_of q) ≡ true) → (es : List Entry) × (from_live m.held m.entries ≡ entry_of r ∷ es)
best_is m v r in_held least = go (from_live m.held m.entries) refl
  where
    in_heap : Memᴰ (entry_of r) m.entries
    in_heap = count_mem (entry_of r) m.entries (omega (arith, v.once r in_held))

    is_live : live m.held (entry_of r) ≡ true
    is_live = held_live m.held v.keys r in_held

    go : (l : List Entry) → from_live m.held m.entries ≡ l → (es : List Entry) × (from_live m.held m.entries ≡ entry_of r ∷ es)
    go [] q = absurd (not-nil (subst (Memᴰ (entry_of r)) q (live_stays m.held m.entries (entry_of r) is_live in_heap)))
    go (e ∷ es) q =
        let o = live_held m.held e (first_live m.held m.entries e es q) in
        let before : le (entry_of r) e ≡ true = rw (sym o.1.1) (least o.0 o.1.0) in
        let same : e ≡ entry_of r = le_both e (entry_of r) (best_least m v e es q (entry_of r) in_heap is_live) before in
        (es, q ∙ ap (λ (x : Entry). x ∷ es) same)

-- and with no key held there is none
pub best_none : (m : Heap) → m.held ≡ [] → from_live m.held m.entries ≡ []
best_none m none = go (from_live m.held m.entries) refl
  where
    go : (l : List Entry) → from_live m.held m.entries ≡ l → from_live m.held m.entries ≡ []
    go [] q = q
    go (e ∷ es) q = absurd (not-nil (subst (Memᴰ o.0) none o.1.0))
      where
        o : (r : Record) × (Memᴰ r m.held × (entry_of r ≡ e))
        o = live_held m.held e (first_live m.held m.entries e es q)

-- ---- words past the heap's own do not matter
module _ {ws : List ℕ} {h : LazyMinHeap} (is : IsHeap ws h) (ws' : List ℕ) (fits : words_for h.scores.capacity ≤ length ws') (same : (j : ℕ) → j < words_for h.scores.capacity → get_or ws' j 0 ≡ get_or ws j 0) where
  part_frame : part h.scores.capacity ws' ≡ part h.scores.capacity ws
  part_frame =
      let n = h.scores.capacity in
      let k = words_for n - start n in
      let a : length (part n ws') ≡ k = part_length ws' (start n) (words_for n) (omega arith) fits in
      let b : length (part n ws) ≡ k = part_length ws (start n) (words_for n) (omega arith) is.parts.room.words in
      ext_get_or 0 (part n ws') (part n ws) (a ∙ sym b)
      (λ i g.
      let c : i < k = omega arith in
      get_or-take k (drop (start n) ws') i 0 c ∙ get_or-drop (start n) ws' i 0 ∙ same (start n + i) (omega arith) ∙ sym (get_or-drop (start n) ws i 0) ∙ sym (get_or-take k (drop (start n) ws) i 0 c))

  pub model_frame : model_of ws' h ≡ model_of ws h
  model_frame =
      same_heap refl refl refl
      (map.model_frame is.parts.scores ws' (omega arith) (λ j g. same j (omega arith)))
      (ap (λ (ys : List ℕ). array.model_of ys h.entries) part_frame)

  pub heap_frame : IsHeap ws' h
  heap_frame = record {
    parts = record {
      room = record { some = is.parts.room.some; limit = is.parts.room.limit; words = fits };
      scores = map.map_frame is.parts.scores ws' (omega arith) (λ j g. same j (omega arith));
      entries = rw part_frame is.parts.entries;
    };
    valid = rw model_frame is.valid;
    few = is.few;
    factor = is.factor;
  }

-- ---- after an update there are at most factor × keys held entries
maybe_rebuilt_bound : (f : ℕ) (m : Heap) → 1 ≤ f → length (maybe_rebuilt f m).entries ≤ f * length (maybe_rebuilt f m).held
unfolding maybe_rebuilt rebuilt
maybe_rebuilt_bound f m one = go (too_many f m) refl
  where
    go : (b : Bool) → too_many f m ≡ b → length (cond b (rebuilt m) m).entries ≤ f * length (cond b (rebuilt m) m).held
    go true q = let self : length m.held ≤ length m.held = omega arith in omega (arith, live_length m.held, mul-le-mul one self)
    go false q =
        let same : at_least_one f ≡ f = omega arith in
        by_lt (at_least_one f * length m.held) (length m.entries) (λ w. absurd (true≢false (sym (lt-ltb (at_least_one f * length m.held) (length m.entries) w) ∙ q))) (λ w. rw same at w)

pub updated_bound : (k s : ℕ) (m : Heap) → 1 ≤ m.factor → length (updated k s m).entries ≤ m.factor * length (updated k s m).held
unfolding updated
updated_bound k s m one = maybe_rebuilt_bound m.factor _ one
