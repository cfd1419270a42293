-- Stale entries leave from the top: what is left to discard, and what was, stay the same together.
use mathlib.Core.Path.{◌≡◌, refl, sym, ap, ◌∙◌, subst}
use mathlib.Core.Bool.{Bool, true, false, true≢false}
use mathlib.Core.List.{List, [], ◌∷◌}
use Prim.Native.Nat.{ℕ, ◌+◌}
use native.Mathlib.Omega.{arith}
use lib.Dec.{eqb}
use lib.ListN.{length}
use borrow.Author.Tests.{eq-eqb, ne_eqb}
use Rattle.std.specs.Prelude.{Option, None, Some}
use Rattle.std.specs.Bool.{then_some}
use Rattle.binary_heap.specs.declared.entries.Entry.{Entry}
use Rattle.binary_heap.specs.Heap.{first, rest}
use Rattle.binary_heap.proofs.Laws.{model_length}
use Rattle.rings.proofs.Counts.{by_lt}
use Rattle.linked_hash_map.specs.declared.map.LinkedHashMap.{LinkedHashMap}
use Rattle.linked_hash_map.specs.declared.map.Record.{Record}
use Rattle.linked_hash_map.specs.Model.{lookup}
use Rattle.linked_hash_map.specs.Map as map
use Rattle.linked_hash_map.proofs.Laws.{Keyed, held, absent, keyed}
use Rattle.lazy_heap.specs.declared.heap.LazyMinHeap.{LazyMinHeap}
use Rattle.lazy_heap.specs.Words.{part, Room}
use Rattle.lazy_heap_model.specs.Model.{live, stale_before, from_live}
use Rattle.lazy_heap.specs.Heap.{held_of, entries_of, Parts}
use Rattle.lazy_heap.specs.Steps.{Entered, in_words, Popping, settled_by, Settled, Discarding}
use Rattle.lazy_heap.specs.Walks.{LivingAt}

-- ---- a key's slot, and whether an entry is live
pub slot_nothing : (ws : List ℕ) (m : LinkedHashMap) (k : ℕ) → map.slot_of ws m k ≡ None → lookup k (map.model_of ws m) ≡ None
slot_nothing ws m k e = go (keyed ws m k)
  where
    go : Keyed ws m k → lookup k (map.model_of ws m) ≡ None
    go (held s r a b c) = cc
    go (absent a b c) = b

module _ (l : List Record) (e : Entry) where
  pub live_none : lookup e.key l ≡ None → live l e ≡ false
  unfolding live
  live_none q = rw q

  pub live_score : {r : Record} → lookup e.key l ≡ Some r → (r.first ≡ e.score → ⊥) → live l e ≡ false
  unfolding live
  live_score {r} q d = rw (q, ne_eqb r.first e.score d)

  pub live_seq : {r : Record} → lookup e.key l ≡ Some r → r.first ≡ e.score → live l e ≡ eqb r.second e.seq
  unfolding live
  live_seq {r} q d = rw (q, eq-eqb r.first e.score d)

-- ---- the slot of a live entry
module _ {ws : List ℕ} {m : LinkedHashMap} {e : Entry} where
  pub living_at : {s : ℕ} → (map.IsMap ws m → (live (map.model_of ws m) e ≡ true) × (map.slot_of ws m e.key ≡ Some s)) → LivingAt ws m e (Some s)
  living_at {s} f = record {
    found = λ is x q. let same : s ≡ x = cc in ((f is).0, (f is).1 ∙ ap Some same);
    stale = λ is q. cc;
  }

  pub living_none : (map.IsMap ws m → live (map.model_of ws m) e ≡ false) → LivingAt ws m e None
  living_none f = record {
    found = λ is x q. cc;
    stale = λ is q. f is;
  }

  pub living_flag : {s : ℕ} {flag : Bool} {r : Option ℕ} → (map.IsMap ws m → (live (map.model_of ws m) e ≡ flag) × (map.slot_of ws m e.key ≡ Some s)) → r ≡ then_some flag s → LivingAt ws m e r
  living_flag {flag = true} f q = rw q (living_at f)
  living_flag {flag = false} f q = rw q (living_none (λ is. (f is).0))

-- ---- the first entry decides
pub first_none : (es : List Entry) → first es ≡ None → es ≡ []
first_none [] q = refl
first_none (x ∷ es) q = cc

module _ (l : List Record) where
  pub live_first : (es : List Entry) (e : Entry) → first es ≡ Some e → live l e ≡ true → (from_live l es ≡ es) × (stale_before l es ≡ 0)
  unfolding from_live stale_before
  live_first [] e q t = cc
  live_first (x ∷ es) e q t = let same : x ≡ e = cc in let u : live l x ≡ true = ap (live l) same ∙ t in (rw u, rw u)

  pub stale_first : (es : List Entry) (e : Entry) → first es ≡ Some e → live l e ≡ false → (from_live l es ≡ from_live l (rest es)) × (stale_before l es ≡ 1 + stale_before l (rest es))
  unfolding from_live stale_before
  stale_first [] e q t = cc
  stale_first (x ∷ es) e q t = let same : x ≡ e = cc in let u : live l x ≡ false = ap (live l) same ∙ t in (rw u, rw u)

no_entries : (es : List Entry) → length es ≡ 0 → es ≡ []
no_entries [] q = refl
no_entries (x ∷ es) q = absurd (omega arith)

none_left : (l : List Record) (es : List Entry) → es ≡ [] → (from_live l es ≡ es) × (stale_before l es ≡ 0)
unfolding from_live stale_before
none_left l es q = rw q (refl, refl)

-- ---- steps one after the other
pub entered_then : {ws ws' ws'' : List ℕ} {h r r'' : LazyMinHeap} → Entered ws h ws' r → (Parts ws h → Parts ws' r) → Entered ws' r ws'' r'' → Entered ws h ws'' r''
entered_then {ws} {ws'} {ws''} {h} a p b = record {
  scores = b.scores ∙ a.scores;
  seq = b.seq ∙ a.seq;
  factor = b.factor ∙ a.factor;
  held = λ q. b.held (p q) ∙ a.held q;
  places = λ q i. ap (λ (m : LinkedHashMap). map.slot_at ws'' m i) (sym a.scores) ∙ b.places (p q) i ∙ ap (λ (m : LinkedHashMap). map.slot_at ws' m i) a.scores ∙ a.places q i;
  kept = record {
    size = b.kept.size ∙ a.kept.size;
    past = λ j g. b.kept.past j (rw a.scores g) ∙ a.kept.past j g;
  };
}

pub entered_same : (ws : List ℕ) (h : LazyMinHeap) → Entered ws h ws h
entered_same ws h = record { scores = refl; seq = refl; factor = refl; held = λ p. refl; places = λ p i. refl; kept = record { size = refl; past = λ j g. refl } }

-- d entries are gone
pub record Settling (ws₀ : List ℕ) (h₀ : LazyMinHeap) (ws : List ℕ) (h : LazyMinHeap) (d : ℕ) : Type 0 where
  pub entered : Entered ws₀ h₀ ws h
  pub parts : Parts ws₀ h₀ → Parts ws h
  pub left : h.entries + d ≡ h₀.entries
  pub ahead : Parts ws₀ h₀ → from_live (held_of ws₀ h₀) (entries_of ws h) ≡ from_live (held_of ws₀ h₀) (entries_of ws₀ h₀)
  pub gone : Parts ws₀ h₀ → d + stale_before (held_of ws₀ h₀) (entries_of ws h) ≡ stale_before (held_of ws₀ h₀) (entries_of ws₀ h₀)

pub settling_start : (ws : List ℕ) (h : LazyMinHeap) → Settling ws h ws h 0
settling_start ws h = record { entered = entered_same ws h; parts = λ p. p; left = omega arith; ahead = λ p. refl; gone = λ p. omega arith }

module _ {ws₀ ws : List ℕ} {h₀ h : LazyMinHeap} {d : ℕ} (s : Settling ws₀ h₀ ws h d) where
  abbrev es : List Entry
  es = entries_of ws h

  abbrev held₀ : List Record
  held₀ = held_of ws₀ h₀

  -- a stale entry leaves
  module _ {ws' : List ℕ} {h' : LazyMinHeap} (stale : Settled ws h false) (pop : Popping ws h ws' h') where
    abbrev Gone : Type 0
    Gone = (from_live held₀ es ≡ from_live held₀ (rest es)) × (stale_before held₀ es ≡ 1 + stale_before held₀ (rest es))

    first_gone : Parts ws₀ h₀ → Gone
    first_gone p = go (first es) refl (stale.answer (s.parts p))
      where
        go : (t : Option Entry) → first es ≡ t → false ≡ settled_by ws h (first es) → Gone
        go (Some e) q f = stale_first held₀ es e q (ap (λ (l : List Record). live l e) (sym (s.entered.held p)) ∙ sym (f ∙ ap (settled_by ws h) q))
        go None q f = absurd (true≢false (sym (f ∙ ap (settled_by ws h) q)))

    -- some entry is there, else none would be stale
    one : h'.entries + 1 ≡ h.entries
    one = go (in_words ws h) refl
      where
        go : (b : Bool) → in_words ws h ≡ b → h'.entries + 1 ≡ h.entries
        go true q = by_lt 0 h.entries (λ a. omega (arith, pop.shorter q)) (λ a. absurd (true≢false (sym (stale.none (omega arith)))))
        go false q = absurd (true≢false (sym (stale.refused q)))

    pub settling_on : Settling ws₀ h₀ ws' h' (d + 1)
    settling_on = record {
      entered = entered_then s.entered s.parts pop.entered;
      parts = λ p. pop.parts (s.parts p);
      left = omega (arith, one, s.left);
      ahead = λ p. ap (from_live held₀) (pop.entries (s.parts p)) ∙ sym (first_gone p).0 ∙ s.ahead p;
      gone = λ p. omega (arith, s.gone p, (first_gone p).1, ap (stale_before held₀) (pop.entries (s.parts p)));
    }

  -- the loop ends where no stale entry is at the top, or no entry is left
  ended : (Parts ws₀ h₀ → (from_live held₀ es ≡ es) × (stale_before held₀ es ≡ 0)) → Discarding ws₀ h₀ ws h d
  ended last = record {
    entered = s.entered;
    left = s.left;
    parts = s.parts;
    entries = λ p. sym (last p).0 ∙ s.ahead p;
    discarded = λ p. omega (arith, s.gone p, (last p).1);
  }

  pub settled_top : Settled ws h true → Discarding ws₀ h₀ ws h d
  settled_top t = ended (λ p. go p (first es) refl (t.answer (s.parts p)))
    where
      go : Parts ws₀ h₀ → (u : Option Entry) → first es ≡ u → true ≡ settled_by ws h (first es) → (from_live held₀ es ≡ es) × (stale_before held₀ es ≡ 0)
      go p (Some e) q f = live_first held₀ es e q (ap (λ (l : List Record). live l e) (sym (s.entered.held p)) ∙ sym (f ∙ ap (settled_by ws h) q))
      go p None q f = none_left held₀ es (first_none es q)

  pub settled_empty : d ≡ h₀.entries → Discarding ws₀ h₀ ws h h₀.entries
  settled_empty z = subst (λ (n : ℕ). Discarding ws₀ h₀ ws h n) z (ended (λ p. none_left held₀ es (no_entries es (model_length (part h.scores.capacity ws) h.entries ∙ omega (arith, s.left)))))

-- the limits hold after a step as before
pub room_entered : {ws ws' : List ℕ} {h r : LazyMinHeap} → Entered ws h ws' r → Room (length ws) h.scores.capacity → Room (length ws') r.scores.capacity
room_entered e room = rw (e.scores, e.kept.size) room
