-- Rebuilding and renumbering walk the scores from the earliest set to the latest, and what is done to them so far is what is
-- done to the records from some place on.
use mathlib.Core.Path.{◌≡◌, refl, sym, ap, ◌∙◌}
use mathlib.Core.Bool.{Bool, true, false, true≢false, cond, ◌||◌}
use mathlib.Core.List.{List, [], ◌∷◌, ◌++◌, map, append-nil}
use Prim.Native.Nat.{ℕ, zero, suc, ◌+◌, ◌-◌, ◌*◌, ◌<◌, ◌≤◌}
use native.Mathlib.Omega.{arith}
use lib.Dec.{eqb}
use lib.ListN.{length, get_or, take, drop, length-drop, drop_of_length-le}
use lib.Seq.{take_all}
use borrow.Author.Tests.{eq-eqb, eqb-true}
use Rattle.std.specs.Prelude.{Option, Some, Result}
use Rattle.binary_heap.specs.declared.entries.Entry.{Entry}
use Rattle.binary_heap.specs.Order.{insert, sort}
use Rattle.binary_heap.specs.Heap as array
use Rattle.binary_heap.proofs.Laws.{model_none}
use Rattle.linked_hash_map.specs.declared.map.LinkedHashMap.{LinkedHashMap}
use Rattle.linked_hash_map.specs.declared.map.Record.{Record}
use Rattle.linked_hash_map.specs.declared.map.Unfit.{Unfit}
use Rattle.linked_hash_map.specs.Model.{has, nth, with_payload, Distinct}
use Rattle.linked_hash_map.specs.Map as map
use Rattle.linked_hash_map.specs.Calls.{Writing, Ending}
use Rattle.linked_hash_map.proofs.Laws.{map_distinct}
use Rattle.linked_hash_map.proofs.Putting.{model_length}
use Rattle.lazy_heap.specs.declared.heap.LazyMinHeap.{LazyMinHeap}
use Rattle.lazy_heap.specs.Words.{part}
use Rattle.lazy_heap_model.specs.Model.{entry_of, numbered}
use Rattle.lazy_heap.specs.Heap.{held_of, entries_of, Parts}
use Rattle.lazy_heap.specs.Steps.{Entered, Pushing}
use Rattle.lazy_heap.specs.Walks.{RecordAt, SlotBefore}
use Rattle.lazy_heap.proofs.Slots.{slot_in}
use Rattle.lazy_heap.proofs.Settling.{entered_then, entered_same}

-- the records from a place on
pub nth_drop : (i : ℕ) (l : List Record) (r : Record) → nth i l ≡ Some r → drop i l ≡ r ∷ drop (suc i) l
unfolding nth
nth_drop i [] r q = cc
nth_drop zero (x ∷ l) r q = let same : x ≡ r = cc in ap (λ (y : Record). y ∷ l) same
nth_drop (suc i) (x ∷ l) r q = nth_drop i l r q

sort_none : sort [] ≡ []
unfolding sort
sort_none = refl

sort_cons : (e : Entry) (l : List Entry) → sort (e ∷ l) ≡ insert e (sort l)
unfolding sort
sort_cons e l = refl

-- so many records are still to be entered, and the slot is that of the last of them
pub record Refilling (ws₀ : List ℕ) (h₀ : LazyMinHeap) (ws : List ℕ) (h : LazyMinHeap) (left : ℕ) (slot : Option ℕ) : Type 0 where
  pub entered : Entered ws₀ h₀ ws h
  pub parts : Parts ws₀ h₀ → Parts ws h
  pub count : Parts ws₀ h₀ → h.entries + left ≡ h₀.scores.len
  pub filled : Parts ws₀ h₀ → entries_of ws h ≡ sort (map entry_of (drop left (held_of ws₀ h₀)))
  pub place : Parts ws₀ h₀ → 0 < left → map.slot_at ws₀ h₀.scores (left - 1) ≡ slot

pub refilling_start : (ws : List ℕ) (h : LazyMinHeap) {at : Result (Option ℕ) Unfit} → h.entries ≡ 0 → Ending ws h.scores (h.scores.len - 1) at → Refilling ws h ws h h.scores.len (slot_in at)
refilling_start ws h none last = record {
  entered = entered_same ws h;
  parts = λ p. p;
  count = λ p. omega arith;
  filled = λ p. ap (array.model_of (part h.scores.capacity ws)) none ∙ model_none (part h.scores.capacity ws) ∙ sym (ap (λ (l : List Record). sort (map entry_of l)) (nothing p) ∙ sort_none);
  place = λ p b. sym (ap slot_in (last.answer p.scores));
}
  where
    nothing : Parts ws h → drop h.scores.len (held_of ws h) ≡ []
    nothing p = drop_of_length-le (held_of ws h) {i = h.scores.len} (omega (arith, model_length ws h.scores))

-- one more is entered, and the walk goes on to the one set after it
module _ {ws₀ ws ws' : List ℕ} {h₀ h h' : LazyMinHeap} {left rest : ℕ} {slot : Option ℕ} (f : Refilling ws₀ h₀ ws h left slot) (one : suc rest ≡ left) {x : Record} (read : RecordAt ws h₀.scores slot x) (push : Pushing ws h (entry_of x) ws' h') {on : Option ℕ} (back : SlotBefore ws' h₀.scores slot on) where
  -- the scores are those of the start
  scores_now : Parts ws₀ h₀ → map.IsMap ws h₀.scores
  scores_now p = rw f.entered.scores at (f.parts p).scores

  held_now : Parts ws₀ h₀ → map.model_of ws h₀.scores ≡ held_of ws₀ h₀
  held_now p = ap (map.model_of ws) (sym f.entered.scores) ∙ f.entered.held p

  room : Parts ws₀ h₀ → h.entries ≤ 8 * h.scores.capacity
  room p = omega (arith, f.count p, p.scores.count, p.room.some, ap (λ (m : LinkedHashMap). m.capacity) f.entered.scores)

  here : (p : Parts ws₀ h₀) → map.slot_at ws₀ h₀.scores rest ≡ slot
  here p = let e : left - 1 ≡ rest = omega arith in ap (map.slot_at ws₀ h₀.scores) (sym e) ∙ f.place p (omega arith)

  taken_from : (p : Parts ws₀ h₀) → drop rest (held_of ws₀ h₀) ≡ x ∷ drop left (held_of ws₀ h₀)
  taken_from p =
      nth_drop rest (held_of ws₀ h₀) x (ap (nth rest) (sym (held_now p)) ∙ read.answer (scores_now p) rest (omega (arith, f.count p)) (f.entered.places p rest ∙ here p))
      ∙ ap (λ (i : ℕ). x ∷ drop i (held_of ws₀ h₀)) one

  pub refilling_on : Refilling ws₀ h₀ ws' h' rest on
  refilling_on = record {
    entered = entered_then f.entered f.parts push.entered;
    parts = λ p. push.parts (f.parts p) (room p);
    count = λ p. omega (arith, push.count (f.parts p) (room p), f.count p);
    filled = λ p.
        push.entries (f.parts p) (room p)
        ∙ ap (insert (entry_of x)) (f.filled p)
        ∙ sym (sort_cons (entry_of x) (map entry_of (drop left (held_of ws₀ h₀))))
        ∙ ap (λ (l : List Record). sort (map entry_of l)) (sym (taken_from p));
    place = before;
  }
    where
      scores_then : Parts ws₀ h₀ → map.IsMap ws' h₀.scores
      scores_then p = rw (push.entered.scores ∙ f.entered.scores) at (push.parts (f.parts p) (room p)).scores

      places_then : (p : Parts ws₀ h₀) (i : ℕ) → map.slot_at ws' h₀.scores i ≡ map.slot_at ws₀ h₀.scores i
      places_then p i = (entered_then f.entered f.parts push.entered).places p i

      before : (p : Parts ws₀ h₀) → 0 < rest → map.slot_at ws₀ h₀.scores (rest - 1) ≡ on
      before p b =
          let e : rest - 1 + 1 ≡ rest = omega arith in
          sym (back.answer (scores_then p) (rest - 1) (omega (arith, f.count p)) (places_then p (rest - 1 + 1) ∙ ap (map.slot_at ws₀ h₀.scores) e ∙ here p) ∙ places_then p (rest - 1))

-- ---- renumbering
nth_front : (i k : ℕ) (l b : List Record) → i < k → k ≤ length l → nth i (take k l ++ b) ≡ nth i l
unfolding nth
nth_front i zero l b h g = absurd (omega arith)
nth_front i (suc k) [] b h g = absurd (omega arith)
nth_front zero (suc k) (x ∷ l) b h g = refl
nth_front (suc i) (suc k) (x ∷ l) b h g = nth_front i k l b (omega arith) (omega arith)

take_split : (i : ℕ) (l : List Record) (r : Record) (b : List Record) → nth i l ≡ Some r → take (suc i) l ++ b ≡ take i l ++ (r ∷ b)
unfolding nth
take_split i [] r b q = cc
take_split zero (x ∷ l) r b q = let same : x ≡ r = cc in ap (λ (y : Record). y ∷ b) same
take_split (suc i) (x ∷ l) r b q = ap (λ (m : List Record). x ∷ m) (take_split i l r b q)

payload_absent : (x : Record) (l : List Record) → has x.key l ≡ false → with_payload x l ≡ l
unfolding has with_payload
payload_absent x [] e = refl
payload_absent x (y ∷ l) e = go (eqb y.key x.key) e (payload_absent x l)
  where
    go : (b : Bool) → (b || has x.key l) ≡ false → (has x.key l ≡ false → with_payload x l ≡ l) → cond b x y ∷ with_payload x l ≡ y ∷ l
    go true f ih = absurd (true≢false f)
    go false f ih = ap (λ (m : List Record). y ∷ m) (ih f)

in_middle : (y r : Record) (a b : List Record) → y.key ≡ r.key → has y.key (a ++ (r ∷ b)) ≡ false → ⊥
unfolding has
in_middle y r [] b e f = true≢false (rw (eq-eqb r.key y.key (sym e)) at f)
in_middle y r (x ∷ a) b e f = go (eqb x.key y.key) f (in_middle y r a b e)
  where
    go : (t : Bool) → (t || has y.key (a ++ (r ∷ b))) ≡ false → (has y.key (a ++ (r ∷ b)) ≡ false → ⊥) → ⊥
    go true f ih = true≢false f
    go false f ih = ih f

-- a record is written in the middle alone, since keys differ
payload_middle : (x r : Record) (a b : List Record) → r.key ≡ x.key → Distinct (a ++ (r ∷ b)) → with_payload x (a ++ (r ∷ b)) ≡ a ++ (x ∷ b)
unfolding with_payload
payload_middle x r [] b k d =
    rw (eq-eqb r.key x.key k) (ap (λ (m : List Record). x ∷ m) (payload_absent x b (ap (λ (j : ℕ). has j b) (sym k) ∙ d.0)))
payload_middle x r (y ∷ a) b k d = go (eqb y.key x.key) refl (payload_middle x r a b k d.1)
  where
    go : (t : Bool) → eqb y.key x.key ≡ t → with_payload x (a ++ (r ∷ b)) ≡ a ++ (x ∷ b) → cond t x y ∷ with_payload x (a ++ (r ∷ b)) ≡ y ∷ (a ++ (x ∷ b))
    go true t ih = absurd (in_middle y r a b (eqb-true _ _ t ∙ sym k) d.0)
    go false t ih = ap (λ (m : List Record). y ∷ m) ih

-- so many records still have their old number, and the slot is that of the last of them
pub record Numbering (ws₀ : List ℕ) (m : LinkedHashMap) (ws : List ℕ) (number left : ℕ) (slot : Option ℕ) : Type 0 where
  pub size : length ws ≡ length ws₀
  pub past : (j : ℕ) → 8 * m.capacity + 58 ≤ j → get_or ws j 0 ≡ get_or ws₀ j 0
  pub within : number + left ≡ m.len
  pub scores : map.IsMap ws₀ m → map.IsMap ws m
  pub places : map.IsMap ws₀ m → (i : ℕ) → map.slot_at ws m i ≡ map.slot_at ws₀ m i
  pub renumbered : map.IsMap ws₀ m → map.model_of ws m ≡ take left (map.model_of ws₀ m) ++ numbered (drop left (map.model_of ws₀ m))
  pub place : map.IsMap ws₀ m → 0 < left → map.slot_at ws₀ m (left - 1) ≡ slot

pub numbering_start : (ws : List ℕ) (m : LinkedHashMap) {at : Result (Option ℕ) Unfit} → Ending ws m (m.len - 1) at → Numbering ws m ws 0 m.len (slot_in at)
unfolding numbered
numbering_start ws m last = record {
  size = refl;
  past = λ j b. refl;
  within = omega arith;
  scores = λ is. is;
  places = λ is i. refl;
  renumbered = λ is. sym (rw (drop_of_length-le (map.model_of ws m) {i = m.len} (omega (arith, model_length ws m)), take_all m.len (map.model_of ws m) (omega (arith, model_length ws m))) (append-nil (map.model_of ws m)));
  place = λ is b. sym (ap slot_in (last.answer is));
}

-- one more gets its number
module _ {ws₀ ws ws' : List ℕ} {m : LinkedHashMap} {number left rest : ℕ} {slot : Option ℕ} (f : Numbering ws₀ m ws number left slot) (one : suc rest ≡ left) {x : Record} (read : RecordAt ws m slot x) {b : Bool} (write : Writing ws m (record { key = x.key; first = x.first; second = number }) ws' b) {on : Option ℕ} (back : SlotBefore ws' m slot on) where
  abbrev y : Record
  y = record { key = x.key; first = x.first; second = number }

  abbrev old : List Record
  old = map.model_of ws₀ m

  last_place : map.IsMap ws₀ m → map.slot_at ws₀ m rest ≡ slot
  last_place is = let e : left - 1 ≡ rest = omega arith in ap (map.slot_at ws₀ m) (sym e) ∙ f.place is (omega arith)

  -- the record read is the last that has its old number
  is_last : map.IsMap ws₀ m → nth rest old ≡ Some x
  is_last is =
      sym (nth_front rest left old (numbered (drop left old)) (omega arith) (omega (arith, f.within, model_length ws₀ m)))
      ∙ ap (nth rest) (sym (f.renumbered is))
      ∙ read.answer (f.scores is) rest (omega (arith, f.within)) (f.places is rest ∙ last_place is)

  now_is : map.IsMap ws₀ m → map.model_of ws m ≡ take rest old ++ (x ∷ numbered (drop left old))
  now_is is = f.renumbered is ∙ ap (λ (k : ℕ). take k old ++ numbered (drop left old)) (sym one) ∙ take_split rest old x (numbered (drop left old)) (is_last is)

  then_is : map.IsMap ws₀ m → map.model_of ws' m ≡ take rest old ++ numbered (drop rest old)
  unfolding numbered
  then_is is =
      let d : drop rest old ≡ x ∷ drop left old = nth_drop rest old x (is_last is) ∙ ap (λ (i : ℕ). x ∷ drop i old) one in
      let c : length (drop left old) ≡ number = omega (arith, length-drop left old, model_length ws₀ m, f.within) in
      write.model (f.scores is)
      ∙ ap (with_payload y) (now_is is)
      ∙ payload_middle y x (take rest old) (numbered (drop left old)) refl (rw (now_is is) at (map_distinct (f.scores is)))
      ∙ ap (λ (k : ℕ). take rest old ++ (record { key = x.key; first = x.first; second = k } ∷ numbered (drop left old))) (sym c)
      ∙ ap (λ (l : List Record). take rest old ++ numbered l) (sym d)

  pub numbering_on : Numbering ws₀ m ws' (number + 1) rest on
  numbering_on = record {
    size = write.kept.size ∙ f.size;
    past = λ j g. write.kept.past j g ∙ f.past j g;
    within = omega (arith, f.within);
    scores = λ is. write.map (f.scores is);
    places = λ is i. write.slots (f.scores is) i ∙ f.places is i;
    renumbered = then_is;
    place = before;
  }
    where
      before : (is : map.IsMap ws₀ m) → 0 < rest → map.slot_at ws₀ m (rest - 1) ≡ on
      before is g =
          let e : rest - 1 + 1 ≡ rest = omega arith in
          let now : map.slot_at ws' m (rest - 1 + 1) ≡ slot = write.slots (f.scores is) (rest - 1 + 1) ∙ f.places is (rest - 1 + 1) ∙ ap (map.slot_at ws₀ m) e ∙ last_place is in
          sym (back.answer (write.map (f.scores is)) (rest - 1) (omega (arith, f.within)) now ∙ write.slots (f.scores is) (rest - 1) ∙ f.places is (rest - 1))
