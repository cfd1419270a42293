-- Walks over the held keys, from the latest set to the earliest.
use mathlib.Core.Path.{◌≡◌, refl, sym, ap, ◌∙◌, subst}
use mathlib.Core.Bool.{Bool, true, false, true≢false, cond}
use mathlib.Core.List.{List, [], ◌∷◌}
use Prim.Native.Nat.{ℕ, suc, ◌+◌, ◌-◌, ◌<◌, ◌≤◌}
use native.Mathlib.Omega.{arith}
use lib.Dec.{leb}
use mir.Val.{bool_byte}
use lib.ListN.{get_or, drop, drop_of_length-le}
use Rattle.std.specs.Prelude.{Option, None, Some, Result}
use Rattle.rings.proofs.Counts.{by_lt}
use Rattle.linked_hash_map.specs.declared.map.LinkedHashMap.{LinkedHashMap}
use Rattle.linked_hash_map.specs.declared.map.Record.{Record}
use Rattle.linked_hash_map.specs.declared.map.Unfit.{Unfit}
use Rattle.linked_hash_map.specs.Map as map
use Rattle.linked_hash_map.specs.Calls.{Reading, Ending, Next}
use Rattle.linked_hash_map.proofs.Laws.{place_below}
use Rattle.linked_hash_map.proofs.Putting.{model_length}
use Rattle.lazy_heap_model.specs.Model.{count_at_most}
use Rattle.lazy_heap.specs.Valid.{Falling}
use Rattle.lazy_heap.specs.Walks.{CountingAtMost, Once, RecordsValid}
use Rattle.lazy_heap.proofs.Slots.{slot_in, some_slot}
use Rattle.lazy_heap.proofs.Refilling.{nth_drop}

-- i records are looked at, and the slot is that of the next
pub record Walk (ws : List ℕ) (m : LinkedHashMap) (i : ℕ) (slot : Option ℕ) : Type 0 where
  pub place : map.IsMap ws m → map.slot_at ws m i ≡ slot

-- the records that are left
abbrev ahead : List ℕ → LinkedHashMap → ℕ → List Record
ahead ws m i = drop i (map.model_of ws m)

none_ahead : (ws : List ℕ) (m : LinkedHashMap) (i : ℕ) → m.len ≤ i → ahead ws m i ≡ []
none_ahead ws m i past = drop_of_length-le (map.model_of ws m) {i = i} (omega (arith, model_length ws m))

walk_start : {ws : List ℕ} {m : LinkedHashMap} {at : Result (Option ℕ) Unfit} → Ending ws m 0 at → Walk ws m 0 (slot_in at)
walk_start first = record { place = λ is. sym (ap slot_in (first.answer is)) }

module _ {ws : List ℕ} {m : LinkedHashMap} {i : ℕ} {slot : Option ℕ} (w : Walk ws m i slot) where
  -- a place of the map has a slot
  none_there : i < m.len → slot ≡ None → map.IsMap ws m → ⊥
  none_there more e is = some_slot ws m i more (w.place is ∙ e)

  module _ {s : ℕ} (at : slot ≡ Some s) where
    walk_on : {on : Result (Option ℕ) Unfit} → Next ws m s on → Walk ws m (i + 1) (slot_in on)
    walk_on next = record { place = λ is. sym (ap slot_in (next.answer is i (w.place is ∙ at))) }

    first_ahead : {x : Record} → Reading ws m s x → map.IsMap ws m → ahead ws m i ≡ x ∷ ahead ws m (i + 1)
    first_ahead {x} read is =
        let e : suc i ≡ i + 1 = omega arith in
        nth_drop i (map.model_of ws m) x (read.placed is i (w.place is ∙ at)) ∙ ap (λ (k : ℕ). x ∷ ahead ws m k) e

-- ---- counting
pub record Counting (ws : List ℕ) (m : LinkedHashMap) (score n i : ℕ) (slot : Option ℕ) : Type 0 where
  pub walk : Walk ws m i slot
  pub few : n ≤ i
  pub counted : map.IsMap ws m → n + count_at_most score (ahead ws m i) ≡ count_at_most score (map.model_of ws m)

pub counting_start : {ws : List ℕ} {m : LinkedHashMap} (score : ℕ) {at : Result (Option ℕ) Unfit} → Ending ws m 0 at → {slot : Option ℕ} → slot_in at ≡ slot → Counting ws m score 0 0 slot
counting_start {ws} {m} score first q = record { walk = subst (Walk ws m 0) q (walk_start first); few = omega arith; counted = λ is. omega arith }

count_cons : (score : ℕ) (x : Record) (l : List Record) → count_at_most score (x ∷ l) ≡ cond (leb x.first score) 1 0 + count_at_most score l
unfolding count_at_most
count_cons score x l = refl

-- a test as a number
pub one_if : (b : Bool) → bool_byte b ≡ cond b 1 0
one_if true = refl
one_if false = refl

pub at_most_one : {d : ℕ} (a b : ℕ) → d ≡ cond (leb a b) 1 0 → d ≤ 1
at_most_one {d} a b e = go (leb a b) e
  where
    go : (t : Bool) → d ≡ cond t 1 0 → d ≤ 1
    go true q = omega arith
    go false q = omega arith

-- no map holds more than its capacity
pub counting_none : (ws : List ℕ) (m : LinkedHashMap) (score : ℕ) → m.capacity < m.len → CountingAtMost ws m score 0
counting_none ws m score over = record { answer = λ is. absurd (omega (arith, is.count)) }

module _ {ws : List ℕ} {m : LinkedHashMap} {score n i : ℕ} {slot : Option ℕ} (c : Counting ws m score n i slot) where
  pub counting_on : {s : ℕ} → slot ≡ Some s → {x : Record} → Reading ws m s x → {on : Result (Option ℕ) Unfit} → Next ws m s on → {slot' : Option ℕ} → slot_in on ≡ slot' → {d : ℕ} → d ≡ cond (leb x.first score) 1 0 → Counting ws m score (n + d) (i + 1) slot'
  counting_on at {x} read next q e = record {
    walk = subst (Walk ws m (i + 1)) q (walk_on c.walk at next);
    few = omega (arith, c.few, at_most_one x.first score e);
    counted = λ is.
        let q = ap (count_at_most score) (first_ahead c.walk at read is) ∙ count_cons score x (ahead ws m (i + 1)) in
        omega (arith, c.counted is, q, e);
  }

  pub counting_end : m.len ≤ i → CountingAtMost ws m score n
  unfolding count_at_most
  counting_end past = record { answer = λ is. omega (arith, c.counted is, ap (count_at_most score) (none_ahead ws m i past) ∙ nothing) }
    where
      nothing : count_at_most score [] ≡ 0
      nothing = refl

-- the end of the ring: in a map no turn is left
pub counting_over : {ws : List ℕ} {m : LinkedHashMap} {score n i r : ℕ} → Counting ws m score n i None → r ≡ n + (m.len - i) → CountingAtMost ws m score r
counting_over {m = m} {i = i} c e = record {
  answer = λ is. by_lt i m.len (λ more. absurd (none_there c.walk more refl is)) (λ past. omega (arith, e, (counting_end c past).answer is));
}

-- ---- numbers that fall, and slots that were seen once
pub record Descending (ws : List ℕ) (m : LinkedHashMap) (next : ℕ) (t : List ℕ) (bound i : ℕ) (slot : Option ℕ) : Type 0 where
  pub walk : Walk ws m i slot
  pub onward : map.IsMap ws m → Falling next (map.model_of ws m) → Falling bound (ahead ws m i)
  pub back : map.IsMap ws m → Falling bound (ahead ws m i) → Falling next (map.model_of ws m)
  pub once : map.IsMap ws m → (j x : ℕ) → j < i → map.slot_at ws m j ≡ Some x → get_or t x 0 ≡ 1

pub descending_start : {ws : List ℕ} {m : LinkedHashMap} (next : ℕ) (t : List ℕ) {at : Result (Option ℕ) Unfit} → Ending ws m 0 at → Descending ws m next t next 0 (slot_in at)
descending_start next t first = record {
  walk = walk_start first;
  onward = λ is f. f;
  back = λ is f. f;
  once = λ is j x b. absurd (omega arith);
}

module _ {ws : List ℕ} {m : LinkedHashMap} {next : ℕ} {t : List ℕ} {bound i : ℕ} {slot : Option ℕ} (d : Descending ws m next t bound i slot) where
  invalid : (map.IsMap ws m → Falling next (map.model_of ws m) → Once ws m t → ⊥) → RecordsValid ws m next t false
  invalid never = record { sound = λ is q. absurd (true≢false (sym q)); complete = λ is f o. absurd (never is f o) }

  -- no slot where one is still to come
  pub descending_none : i < m.len → slot ≡ None → RecordsValid ws m next t false
  descending_none more e = invalid (λ is f o. none_there d.walk more e is)

  module _ {s : ℕ} (at : slot ≡ Some s) {x : Record} (read : Reading ws m s x) where
    -- a number that is not below the one before
    pub descending_stop : bound ≤ x.second → RecordsValid ws m next t false
    descending_stop b = invalid (λ is f o. let g = subst (Falling bound) (first_ahead d.walk at read is) (d.onward is f) in omega (arith, g.0))

    -- a slot that was not seen once
    pub descending_unseen : (get_or t s 0 ≡ 1 → ⊥) → RecordsValid ws m next t false
    descending_unseen n = invalid (λ is f o. n (o i s (d.walk.place is ∙ at)))

    pub descending_on : x.second < bound → get_or t s 0 ≡ 1 → {on : Result (Option ℕ) Unfit} → Next ws m s on → Descending ws m next t x.second (i + 1) (slot_in on)
    descending_on b o next = record {
      walk = walk_on d.walk at next;
      onward = λ is f. (subst (Falling bound) (first_ahead d.walk at read is) (d.onward is f)).1;
      back = λ is f. d.back is (subst (Falling bound) (sym (first_ahead d.walk at read is)) (b, f));
      once = λ is j y h q. by_lt j i (λ a. d.once is j y a q) (λ a. here_once is j y (omega arith) q);
    }
      where
        here_once : map.IsMap ws m → (j y : ℕ) → j ≡ i → map.slot_at ws m j ≡ Some y → get_or t y 0 ≡ 1
        here_once is j y z q = let p : Some y ≡ Some s = sym q ∙ ap (map.slot_at ws m) z ∙ d.walk.place is ∙ at in let same : y ≡ s = cc in rw same o

  pub descending_end : m.len ≤ i → RecordsValid ws m next t true
  descending_end past = record {
    sound = λ is q. (d.back is (subst (Falling bound) (sym (none_ahead ws m i past)) tt), λ j x e. d.once is j x (omega (arith, place_below ws m j x e)) e);
    complete = λ is f o. refl;
  }
