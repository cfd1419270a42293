-- What the steps come to on the model.
use mathlib.Core.Path.{◌≡◌, refl, sym, ap, ◌∙◌}
use mathlib.Core.Bool.{Bool, true, false, true≢false, cond, not, ◌&&◌, ◌||◌}
use mathlib.Core.Logic.{◌⊎◌, inl, inr}
use mathlib.Core.List.{List, ◌∷◌, ◌++◌, map}
use Prim.Native.Nat.{ℕ, ◌+◌, ◌-◌, ◌*◌, ◌^◌, ◌<◌, ◌≤◌}
use native.Mathlib.Omega.{arith}
use lib.Dec.{ltb, leb}
use lib.ListN.{length, take, drop}
use borrow.Author.Tests.{eq-eqb, ne_eqb, lt-ltb, le-leb}
use Rattle.std.specs.Prelude.{Option, None, Some, Ok, Err, min}
use Rattle.binary_heap.specs.declared.entries.Entry.{Entry}
use Rattle.binary_heap.specs.Order.{insert, sort}
use Rattle.binary_heap.specs.Heap as array
use Rattle.binary_heap.proofs.Laws.{heap_none}
use Rattle.binary_heap.proofs.Laws.{model_length as array-length}
use Rattle.rings.proofs.Counts.{by_lt}
use Rattle.linked_hash_map.specs.declared.map.LinkedHashMap.{LinkedHashMap}
use Rattle.linked_hash_map.specs.declared.map.Record.{Record}
use Rattle.linked_hash_map.specs.declared.map.PutError.TheVariants.{Full}
use Rattle.linked_hash_map.specs.Model as scores
use Rattle.linked_hash_map.specs.Map as map
use Rattle.linked_hash_map.specs.Calls.{Putting}
use Rattle.linked_hash_map.proofs.Putting.{model_length}
use Rattle.lazy_heap.specs.declared.heap.LazyMinHeap.{LazyMinHeap}
use Rattle.lazy_heap.specs.Words.{words_for, start, part, Kept}
use Rattle.lazy_heap_model.specs.Model.{Heap, entry_of, at_least_one, live_entries, surplus, too_many, rebuilt, numbered, renumbered, is_full, before_push, pushed, maybe_rebuilt, held_score}
use Rattle.lazy_heap.specs.Heap.{held_of, entries_of, model_of, Parts}
use Rattle.lazy_heap.specs.Steps.{replaced_score, Storing, Pushing, Rebuilding, Numbered, Renumbering, Fitting, Trimming, Holding}
use Rattle.lazy_heap.proofs.Parts.{part_same}
use Rattle.lazy_heap.proofs.Settling.{entered_same}
use Rattle.lazy_heap.proofs.Refilling.{Refilling, Numbering}

abbrev of : ℕ → ℕ → ℕ → List Record → List Entry → Heap
of l f n h e = record { limit = l; factor = f; next = n; held = h; entries = e }

pub same_heap : {l l' f f' n n' : ℕ} {h h' : List Record} {e e' : List Entry} → l ≡ l' → f ≡ f' → n ≡ n' → h ≡ h' → e ≡ e' → of l f n h e ≡ of l' f' n' h' e'
same_heap a b c d e = cc

pub same_capacity : {m n : LinkedHashMap} → m ≡ n → m.capacity ≡ n.capacity
same_capacity e = ap (λ (m : LinkedHashMap). m.capacity) e

-- ---- rebuilding
abbrev emptied : LazyMinHeap → LazyMinHeap
emptied h = record { scores = h.scores; entries = 0; seq = h.seq; factor = h.factor }

parts_emptied : {ws : List ℕ} {h : LazyMinHeap} → Parts ws h → Parts ws (emptied h)
parts_emptied {ws} {h} p = record { room = p.room; scores = p.scores; entries = heap_none (part h.scores.capacity ws) }

-- where the walk has come to its end, as it does on the parts of a heap
pub rebuilding : {ws ws' : List ℕ} {h h' : LazyMinHeap} {left d : ℕ} {slot : Option ℕ} → Refilling ws (emptied h) ws' h' left slot → d ≡ h.entries - h.scores.len → (Parts ws h → left ≡ 0) → Rebuilding ws h ws' h' d
rebuilding {ws} {h = h} f discarded none = record {
  entered = record {
    scores = f.entered.scores;
    seq = f.entered.seq;
    factor = f.entered.factor;
    held = λ p. f.entered.held (parts_emptied p);
    places = λ p. f.entered.places (parts_emptied p);
    kept = f.entered.kept;
  };
  count = λ p. omega (arith, f.count (parts_emptied p), none p);
  parts = λ p. f.parts (parts_emptied p);
  entries = λ p. f.filled (parts_emptied p) ∙ ap (λ (i : ℕ). sort (map entry_of (drop i (held_of ws h)))) (none p);
  discarded = discarded;
}

-- no heap holds more keys than its limit
pub rebuilding_none : (ws : List ℕ) (h : LazyMinHeap) {d : ℕ} → h.scores.capacity < h.scores.len → d ≡ h.entries - h.scores.len → Rebuilding ws h ws h d
rebuilding_none ws h over discarded = record {
  entered = entered_same ws h;
  count = λ p. absurd (omega (arith, p.scores.count));
  parts = λ p. p;
  entries = λ p. absurd (omega (arith, p.scores.count));
  discarded = discarded;
}

-- ---- renumbering
pub numbering : {ws ws' : List ℕ} {m : LinkedHashMap} {number left : ℕ} {slot : Option ℕ} → Numbering ws m ws' number left slot → (map.IsMap ws m → left ≡ 0) → Numbered ws m ws'
numbering {ws} {ws'} {m} f none = record {
  scores = f.scores;
  held = λ is. f.renumbered is ∙ ap (λ (i : ℕ). take i (map.model_of ws m) ++ numbered (drop i (map.model_of ws m))) (none is);
  size = f.size;
  past = f.past;
}

pub numbering_none : (ws : List ℕ) (m : LinkedHashMap) → m.capacity < m.len → Numbered ws m ws
numbering_none ws m over = record { scores = λ is. is; held = λ is. absurd (omega (arith, is.count)); size = refl; past = λ j g. refl }

-- scores renumbered leave the entries as they are
abbrev numbered_heap : LazyMinHeap → LazyMinHeap
numbered_heap h = record { scores = h.scores; entries = h.entries; seq = h.scores.len; factor = h.factor }

parts_numbered : {ws ws' : List ℕ} {h : LazyMinHeap} → Numbered ws h.scores ws' → Parts ws h → Parts ws' (numbered_heap h)
parts_numbered {ws} {ws'} {h} n p =
    let n' = h.scores.capacity in record {
      room = rw n.size p.room;
      scores = n.scores p.scores;
      entries = rw (part_same ws ws' (start n') (words_for n' - start n') n.size (λ j a b. n.past j a)) p.entries;
    }

pub renumbering : {ws ws₁ ws' : List ℕ} {h h' : LazyMinHeap} {d : ℕ} → Numbered ws h.scores ws₁ → Rebuilding ws₁ (numbered_heap h) ws' h' d → Renumbering ws h ws' h' d
unfolding renumbered
renumbering {ws} {ws₁} {ws'} {h} {h'} n b = record {
  scores = b.entered.scores;
  factor = b.entered.factor;
  parts = λ p. b.parts (parts_numbered n p);
  model = λ p.
      let q = parts_numbered n p in
      let a : h'.scores.capacity ≡ h.scores.capacity = same_capacity b.entered.scores in
      let c : h'.seq ≡ length (held_of ws h) = b.entered.seq ∙ sym (model_length ws h.scores) in
      let d : held_of ws' h' ≡ numbered (held_of ws h) = b.entered.held q ∙ n.held p.scores in
      let e : entries_of ws' h' ≡ live_entries (numbered (held_of ws h)) = b.entries q ∙ ap live_entries (n.held p.scores) in
      same_heap a b.entered.factor c d e;
  discarded = b.discarded;
  kept = record {
    size = b.entered.kept.size ∙ n.size;
    past = λ j g. b.entered.kept.past j g ∙ n.past j (omega arith);
  };
}

pub rebuilt_model : {ws ws' : List ℕ} {h r : LazyMinHeap} {d : ℕ} → Rebuilding ws h ws' r d → Parts ws h → model_of ws' r ≡ rebuilt (model_of ws h)
unfolding rebuilt
rebuilt_model k p = same_heap (same_capacity k.entered.scores) k.entered.factor k.entered.seq (k.entered.held p) (k.entries p)

-- ---- a number, and entries, made to fit
pub surplus_is : (ws : List ℕ) (h : LazyMinHeap) → surplus (model_of ws h) ≡ h.entries - h.scores.len
surplus_is ws h =
    let a : length (entries_of ws h) ≡ h.entries = array-length (part h.scores.capacity ws) h.entries in
    let b : length (held_of ws h) ≡ h.scores.len = model_length ws h.scores in
    ap (λ (n : ℕ). n - length (held_of ws h)) a ∙ ap (λ (n : ℕ). h.entries - n) b

pub kept_same : (n : ℕ) (ws : List ℕ) → Kept n ws ws
kept_same n ws = record { size = refl; past = λ j g. refl }

module _ {ws : List ℕ} {h : LazyMinHeap} (word : h.seq < 2 ^ 64) where
  pub fitting_renumbered : {ws' : List ℕ} {h' : LazyMinHeap} {d : ℕ} → 2 ^ 64 - 1 ≤ h.seq → Renumbering ws h ws' h' d → Fitting ws h ws' h' d
  unfolding before_push
  fitting_renumbered last n =
      let e : h.seq ≡ 2 ^ 64 - 1 = omega arith in record {
        word = word;
        same = λ more. absurd (omega arith);
        capacity = same_capacity n.scores;
        factor = n.factor;
        parts = n.parts;
        model = λ p. n.model p ∙ sym (rw (eq-eqb h.seq (2 ^ 64 - 1) e));
        discarded = λ p. n.discarded ∙ sym (rw (eq-eqb h.seq (2 ^ 64 - 1) e) (surplus_is ws h));
        small = omega (arith, n.discarded);
        kept = n.kept;
      }

  pub fitting_same : h.seq < 2 ^ 64 - 1 → Fitting ws h ws h 0
  unfolding before_push
  fitting_same more = record {
    word = word;
    same = λ _. (refl, refl);
    capacity = refl;
    factor = refl;
    parts = λ p. p;
    model = λ p. sym (rw (ne_eqb h.seq (2 ^ 64 - 1) (λ q. omega arith)));
    discarded = λ p. sym (rw (ne_eqb h.seq (2 ^ 64 - 1) (λ q. omega arith)));
    small = omega arith;
    kept = kept_same h.scores.capacity ws;
  }

module _ (ws : List ℕ) (h : LazyMinHeap) (f : ℕ) where
  crowded : {b : Bool} → ltb (at_least_one f * h.scores.len) h.entries ≡ b → too_many f (model_of ws h) ≡ b
  crowded c =
      ap (λ (n : ℕ). ltb (at_least_one f * n) (length (entries_of ws h))) (model_length ws h.scores)
      ∙ ap (λ (n : ℕ). ltb (at_least_one f * h.scores.len) n) (array-length (part h.scores.capacity ws) h.entries)
      ∙ c

  pub trimming_rebuilt : {ws' : List ℕ} {h' : LazyMinHeap} {d : ℕ} → ltb (at_least_one f * h.scores.len) h.entries ≡ true → Rebuilding ws h ws' h' d → Trimming ws h f ws' h' d
  unfolding maybe_rebuilt
  trimming_rebuilt t k = record {
    scores = k.entered.scores;
    parts = k.parts;
    model = λ p g. rebuilt_model k p ∙ sym (ap (λ (u : Bool). cond u (rebuilt (model_of ws h)) (model_of ws h)) (crowded t));
    discarded = λ p g. k.discarded ∙ sym (surplus_is ws h) ∙ sym (ap (λ (u : Bool). cond u (surplus (model_of ws h)) 0) (crowded t));
    small = omega (arith, k.discarded);
    kept = k.entered.kept;
  }

  -- also where the factor or the keys are beyond the limits: such numbers are no heap's
  pub trimming_same : (Parts ws h → f ≤ 8 → ltb (at_least_one f * h.scores.len) h.entries ≡ false) → Trimming ws h f ws h 0
  unfolding maybe_rebuilt
  trimming_same t = record {
    scores = refl;
    parts = λ p. p;
    model = λ p g. sym (ap (λ (u : Bool). cond u (rebuilt (model_of ws h)) (model_of ws h)) (crowded (t p g)));
    discarded = λ p g. sym (ap (λ (u : Bool). cond u (surplus (model_of ws h)) 0) (crowded (t p g)));
    small = omega arith;
    kept = kept_same h.scores.capacity ws;
  }

-- ---- a key is set
placing_score : (n : ℕ) (x : Record) (l : List Record) → replaced_score (scores.placing n x l) ≡ held_score (scores.lookup x.key l)
unfolding scores.placing
placing_score n x l = go (scores.lookup x.key l) refl
  where
    none : (b : Bool) → replaced_score (cond b (Ok None) (Err Full)) ≡ None
    none true = refl
    none false = refl

    go : (t : Option Record) → scores.lookup x.key l ≡ t → replaced_score (scores.placing n x l) ≡ held_score (scores.lookup x.key l)
    go (Some r) q = rw q refl
    go None q = rw q (none (ltb (length l) n))

module _ (k : ℕ) (l : List Record) (n : ℕ) where
  -- not full: the key is held, or there is room for another
  room_or_held : (not (scores.has k l) && leb n (length l)) ≡ false → (scores.has k l || ltb (length l) n) ≡ true
  room_or_held e = go (scores.has k l) (by_lt (length l) n (λ h. (inl h)) (λ h. inr h)) e
    where
      go : (b : Bool) → (length l < n) ⊎ (n ≤ length l) → (not b && leb n (length l)) ≡ false → (b || ltb (length l) n) ≡ true
      go true w q = refl
      go false (inl h) q = lt-ltb (length l) n h
      go false (inr h) q = absurd (true≢false (sym (le-leb n (length l) h) ∙ q))

module _ {ws ws₁ ws' : List ℕ} {h h' : LazyMinHeap} {k s next : ℕ} {m : LinkedHashMap} {a : Option ℕ} (o : Storing ws h.scores (record { key = k; first = s; second = h.seq }) ws₁ m a) (push : Pushing ws₁ (record { scores = m; entries = h.entries; seq = next; factor = h.factor }) (record { score = s; seq = h.seq; key = k }) ws' h') where
  abbrev x : Record
  x = record { key = k; first = s; second = h.seq }

  abbrev h₁ : LazyMinHeap
  h₁ = record { scores = m; entries = h.entries; seq = next; factor = h.factor }

  abbrev put : Putting ws h.scores x ws₁ m o.put
  put = o.putting

  part_kept : Parts ws h → part m.capacity ws₁ ≡ part h.scores.capacity ws
  part_kept q =
      let n = h.scores.capacity in
      ap (λ (c : ℕ). part c ws₁) put.capacity ∙ part_same ws ws₁ (start n) (words_for n - start n) put.kept.size (λ j a b. put.kept.past j a)

  parts_put : Parts ws h → Parts ws₁ h₁
  parts_put q = record {
    room = rw (put.capacity, put.kept.size) q.room;
    scores = put.map q.scores;
    entries = rw (part_kept q) q.entries;
  }

  few_put : h.entries ≤ 8 * h.scores.capacity → h₁.entries ≤ 8 * h₁.scores.capacity
  few_put g = rw put.capacity g

  held_put : Parts ws h → is_full k (model_of ws h) ≡ false → map.model_of ws₁ m ≡ x ∷ scores.without k (held_of ws h)
  unfolding is_full scores.put
  held_put q e = put.model q.scores ∙ rw (room_or_held k (held_of ws h) h.scores.capacity e)

  pub holding : next ≡ min (h.seq + 1) (2 ^ 64 - 1) → Holding ws h k s ws' h' a
  unfolding pushed
  holding e = record {
    capacity = same_capacity push.entered.scores ∙ put.capacity;
    factor = push.entered.factor;
    parts = λ q g. push.parts (parts_put q) (few_put g);
    model = λ q g f b.
        let one : next ≡ h.seq + 1 = omega arith in
        same_heap
        (same_capacity push.entered.scores ∙ put.capacity)
        push.entered.factor
        (push.entered.seq ∙ one)
        (push.entered.held (parts_put q) ∙ held_put q f)
        (push.entries (parts_put q) (few_put g) ∙ ap (λ (ys : List ℕ). insert (entry_of x) (array.model_of ys h.entries)) (part_kept q));
    answer = λ q f. o.answer ∙ ap replaced_score (put.answer q.scores) ∙ placing_score h.scores.capacity x (held_of ws h);
    kept = record {
      size = push.entered.kept.size ∙ put.kept.size;
      past = λ j g. push.entered.kept.past j (rw put.capacity g) ∙ put.kept.past j (omega arith);
    };
  }
