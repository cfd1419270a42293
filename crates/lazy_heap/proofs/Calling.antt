-- What the calls come to where they are not refused: a definition's answer on a heap, and a heap again.
use mathlib.Core.Path.{◌≡◌, refl, sym, ap, ◌∙◌, subst}
use mathlib.Core.Bool.{Bool, true, false, cond}
use mathlib.Core.List.{List, []}
use Prim.Native.Nat.{ℕ, ◌+◌, ◌-◌, ◌*◌, ◌≤◌}
use native.Mathlib.Omega.{arith}
use lib.ListN.{length}
use borrow.Author.Tests.{eq-eqb, ne_eqb, lt-ltb, le-ltb, le-leb}
use Rattle.std.specs.Prelude.{Option, Result, Ok, Err, IsOk, IsErr, IsErrAnd, ⊤}
use Rattle.std.proofs.lemmas.Result.{IfOk-at_ok, err_from_is_err_and}
use Rattle.limits.specs.Limits.{map_fits, heap_limits, heap_limits_with}
use Rattle.rings.proofs.Counts.{by_lt}
use Rattle.binary_heap.specs.Heap as array
use Rattle.binary_heap.proofs.Laws.{heap_none, model_none}
use Rattle.binary_heap.proofs.Laws.{model_length as array-length}
use Rattle.linked_hash_map.specs.declared.map.LinkedHashMap.{LinkedHashMap}
use Rattle.linked_hash_map.specs.declared.map.Unfit.{Unfit}
use Rattle.cells.specs.declared.Probe.{Probe}
use Rattle.linked_hash_map.specs.Model.{lookup}
use Rattle.linked_hash_map.specs.Map.{IsMap}
use Rattle.linked_hash_map.specs.Map as map
use Rattle.linked_hash_map.specs.Calls as scores
use Rattle.time.specs.declared.refusal.Refusal.{Refusal}
use Rattle.lazy_heap.specs.declared.heap.LazyMinHeap.{LazyMinHeap}
use Rattle.lazy_heap.specs.Words.{words_for, start, part, Room, Kept}
use Rattle.lazy_heap_model.specs.Model.{Heap, at_least_one, too_many, held_score, opened, with_factor, removed, peeked, rebuilt, maybe_rebuilt, numbered, renumbered, cleared}
use Rattle.lazy_heap.specs.Valid.{Valid}
use Rattle.lazy_heap.specs.Heap.{model_of, Parts, IsHeap}
use Rattle.lazy_heap.specs.Steps.{Rebuilding, Renumbering, Trimming, TakingKey}
use Rattle.lazy_heap.specs.Calls.{counted, Call, Discards, Opening, Resetting, RebuildingNow, RebuildingMaybe, RenumberingNow, Clearing, Asking, Removing}
use Rattle.lazy_heap.proofs.Parts.{part_same}
use Rattle.lazy_heap.proofs.Valid.{valid_opened, valid_rebuilt, valid_renumbered, valid_removed, valid_cleared, valid_peeked, live_length, numbered_length, from_length}
use Rattle.lazy_heap.proofs.Stepping.{same_heap, same_capacity, surplus_is, kept_same, rebuilt_model}

-- ---- refusals
pub limits_room : (n l : ℕ) → heap_limits n l ≡ Ok tt → Room l n
unfolding heap_limits
limits_room n l e =
    by_lt 0 n
    (λ a. by_lt 4096 n (λ b. let no = rw (ne_eqb n 0 (λ q. omega arith), lt-ltb 4096 n b) at e in cc) (λ b. by_lt l (words_for n) (λ d. let no = rw (ne_eqb n 0 (λ q. omega arith), le-ltb 4096 n b, lt-ltb l (words_for n) d) at e in cc) (λ d. record { some = omega arith; limit = b; words = d })))
    (λ a. let no = rw (eq-eqb n 0 (omega arith)) at e in cc)

pub room_limits : {n l : ℕ} → Room l n → heap_limits n l ≡ Ok tt
unfolding heap_limits
room_limits {n} {l} g = rw (ne_eqb n 0 (λ q. omega (arith, g.some)), le-ltb 4096 n g.limit, le-ltb l (words_for n) g.words)

pub no_heap : {ws : List ℕ} {h : LazyMinHeap} {why : Refusal} → heap_limits h.scores.capacity (length ws) ≡ Err why → IsHeap ws h → ⊥
no_heap e is = let done = room_limits is.parts.room in cc

-- the error that a call hands on
pub handed_on : {A : Type 0} {r : Result A Refusal} {why : Refusal} → IsErr r × IsErrAnd r (λ e. e ≡ why) → r ≡ Err why
handed_on {r = r} q = let s = err_from_is_err_and r q.1 in s.1 ∙ ap Err s.2

module _ (n l f : ℕ) where
  pub with_refused : {why : Refusal} → heap_limits n l ≡ Err why → Err why ≡ heap_limits_with n l f
  unfolding heap_limits_with
  with_refused e = sym (rw e)

  pub with_small : heap_limits n l ≡ Ok tt → f ≤ 8 → Ok tt ≡ heap_limits_with n l f
  unfolding heap_limits_with
  with_small e b = sym (rw (e, le-ltb 8 f b))

-- no cause, nor one in the factor
pub with_room_lem : (n l f : ℕ) → heap_limits_with n l f ≡ Ok tt → Room l n × (f ≤ 8)
unfolding heap_limits_with
with_room_lem n l f e = go (heap_limits n l) refl e
  where
    go : (o : Result ⊤ Refusal) → heap_limits n l ≡ o → heap_limits_with n l f ≡ Ok tt → Room l n × (f ≤ 8)
    go (Err why) q w = let no = rw q at w in cc
    go (Ok t) q w = (limits_room n l q, by_lt 8 f (λ b. let no = rw (q, lt-ltb 8 f b) at w in cc) (λ b. b))

-- ---- a heap again
-- what of a model is a heap's own
pub record Fair (m : Heap) : Type 0 where
  pub valid : Valid m
  pub few : length m.entries ≤ 8 * m.limit
  pub factor : (1 ≤ m.factor) × (m.factor ≤ 8)

pub fair_heap : {ws : List ℕ} {h : LazyMinHeap} → IsHeap ws h → Fair (model_of ws h)
fair_heap {ws} {h} is = record {
  valid = is.valid;
  few = omega (arith, is.few, array-length (part h.scores.capacity ws) h.entries);
  factor = is.factor;
}

fair_is : {ws : List ℕ} {h : LazyMinHeap} → Parts ws h → Fair (model_of ws h) → IsHeap ws h
fair_is {ws} {h} p f = record {
  parts = p;
  valid = f.valid;
  few = omega (arith, f.few, array-length (part h.scores.capacity ws) h.entries);
  factor = f.factor;
}

pub heap_again : {ws : List ℕ} {h : LazyMinHeap} {m : Heap} → Parts ws h → model_of ws h ≡ m → Fair m → IsHeap ws h
heap_again {ws} {h} {m} p e f = fair_is p (subst Fair (sym e) f)

pub fair_rebuilt : {m : Heap} → Fair m → Fair (rebuilt m)
unfolding rebuilt
fair_rebuilt {m} f = record {
  valid = valid_rebuilt m f.valid;
  few = omega (arith, live_length m.held, f.valid.few);
  factor = f.factor;
}

fair_maybe_rebuilt : {m : Heap} (g : ℕ) → Fair m → Fair (maybe_rebuilt g m)
unfolding maybe_rebuilt
fair_maybe_rebuilt {m} g f = go (too_many g m)
  where
    go : (b : Bool) → Fair (cond b (rebuilt m) m)
    go true = fair_rebuilt f
    go false = f

pub fair_renumbered : {m : Heap} → Fair m → Fair (renumbered m)
unfolding renumbered
fair_renumbered {m} f = record {
  valid = valid_renumbered m f.valid;
  few = omega (arith, live_length (numbered m.held), numbered_length m.held, f.valid.few);
  factor = f.factor;
}

fair_cleared : {m : Heap} → Fair m → Fair (cleared m)
unfolding cleared
fair_cleared {m} f = record { valid = valid_cleared m f.valid; few = omega arith; factor = f.factor }

fair_removed : (k : ℕ) {m : Heap} → Fair m → Fair (removed k m)
unfolding removed
fair_removed k {m} f = record { valid = valid_removed k m f.valid; few = f.few; factor = f.factor }

pub fair_peeked : {m : Heap} → Fair m → Fair (peeked m)
unfolding peeked
fair_peeked {m} f = record { valid = valid_peeked m f.valid; few = omega (arith, from_length m.held m.entries, f.few); factor = f.factor }

-- ---- calls
-- a call that asks tells the value
module _ {A : Type 0} {ws : List ℕ} {h : LazyMinHeap} {value : Heap → A} where
  pub asking_done : {x : A} → heap_limits h.scores.capacity (length ws) ≡ Ok tt → (IsHeap ws h → x ≡ value (model_of ws h)) → Asking ws h value (Ok x)
  asking_done t e = record { outcome = sym t; answer = λ is. ap Ok (e is) }

-- a call on a lent heap
module _ {ws : List ℕ} {h : LazyMinHeap} {cause : Result ⊤ Refusal} {next : Heap → Heap} where
  module _ {ws' : List ℕ} {h' : LazyMinHeap} (t : cause ≡ Ok tt) (parts : IsHeap ws h → Parts ws' h') (model : IsHeap ws h → model_of ws' h' ≡ next (model_of ws h)) (fair : IsHeap ws h → Fair (next (model_of ws h))) (capacity : h'.scores.capacity ≡ h.scores.capacity) (kept : Kept h.scores.capacity ws ws') where
    pub call_done : {A : Type 0} {x : A} → Call ws h cause next ws' h' (Ok x)
    call_done = record {
      outcome = sym t;
      refused = λ why q. cc;
      heap = λ _ is. heap_again (parts is) (model is) (fair is);
      model = λ _ is. model is;
      capacity = capacity;
      kept = kept;
    }

    pub discards_done : {count : Heap → ℕ} {d : ℕ} → (IsHeap ws h → d ≡ count (model_of ws h)) → Discards ws h cause next count ws' h' (Ok d)
    discards_done e = record { call = call_done; answer = λ _ is. ap Ok (e is) }

-- ---- all entries at once
module _ {ws ws' : List ℕ} {h h' : LazyMinHeap} {d : ℕ} where
  pub rebuild_call : heap_limits h.scores.capacity (length ws) ≡ Ok tt → Rebuilding ws h ws' h' d → RebuildingNow ws h ws' h' (Ok d)
  rebuild_call t k = discards_done t (λ is. k.parts is.parts) (λ is. rebuilt_model k is.parts) (λ is. fair_rebuilt (fair_heap is)) (same_capacity k.entered.scores) k.entered.kept (λ is. k.discarded ∙ sym (surplus_is ws h))

  pub renumber_call : heap_limits h.scores.capacity (length ws) ≡ Ok tt → Renumbering ws h ws' h' d → RenumberingNow ws h ws' h' (Ok d)
  renumber_call t k = discards_done t (λ is. k.parts is.parts) (λ is. k.model is.parts) (λ is. fair_renumbered (fair_heap is)) (same_capacity k.scores) k.kept (λ is. k.discarded ∙ sym (surplus_is ws h))

  -- rebuilding where there are too many
  pub maybe_call : (f : ℕ) → heap_limits_with h.scores.capacity (length ws) f ≡ Ok tt → Trimming ws h f ws' h' d → RebuildingMaybe ws h f ws' h' (Ok d)
  maybe_call f t k =
      let few = (with_room_lem h.scores.capacity (length ws) f t).1 in
      discards_done t (λ is. k.parts is.parts) (λ is. k.model is.parts few) (λ is. fair_maybe_rebuilt f (fair_heap is)) (same_capacity k.scores) k.kept (λ is. k.discarded is.parts few)

-- ---- the factor
fair_factor : (f : ℕ) → f ≤ 8 → {m : Heap} → Fair m → Fair (with_factor f m)
unfolding with_factor
fair_factor f b g = record {
  valid = record { keys = g.valid.keys; few = g.valid.few; numbers = g.valid.numbers; below = g.valid.below; once = g.valid.once; sorted = g.valid.sorted };
  few = g.few;
  factor = (omega arith, omega arith);
}

pub factor_call : (ws : List ℕ) (h : LazyMinHeap) (f : ℕ) {g : ℕ} → heap_limits_with h.scores.capacity (length ws) f ≡ Ok tt → g ≡ at_least_one f → Resetting ws h f (record { scores = h.scores; entries = h.entries; seq = h.seq; factor = g }) (Ok tt)
unfolding with_factor
factor_call ws h f t e =
    call_done t (λ is. record { room = is.parts.room; scores = is.parts.scores; entries = is.parts.entries }) (λ is. same_heap refl e refl refl refl) (λ is. fair_factor f (with_room_lem h.scores.capacity (length ws) f t).1 (fair_heap is)) refl
    (kept_same h.scores.capacity ws)

-- ---- a place in the scores
fits : {n l : ℕ} → Room l n → map_fits n l ≡ true
unfolding map_fits
fits {n} {l} g = rw (le-leb n 4096 g.limit, le-leb (8 * n + 58) l (omega (arith, g.words)))

pub place_some : (ws : List ℕ) (m : LinkedHashMap) (k : ℕ) {r : Result Probe Unfit} → r ≡ scores.place_of ws m k → Room (length ws) m.capacity → IsOk r
unfolding scores.place_of
place_some ws m k e g = rw (e, fits g)

-- ---- opening and clearing
fair_opened : (n f s : ℕ) → f ≤ 8 → Fair (opened n f s)
unfolding opened
fair_opened n f s b = record { valid = valid_opened n f s; few = omega arith; factor = (omega arith, omega arith) }

module _ {ws ws' : List ℕ} (n f : ℕ) {r : Result LinkedHashMap Unfit} (t : heap_limits_with n (length ws) f ≡ Ok tt) (o : scores.Opening ws n ws' r) where
  room : Room (length ws) n × (f ≤ 8)
  room = with_room_lem n (length ws) f t

  -- the map is opened
  pub open_map : IsOk r
  open_map = o.opened (fits room.0)

  module _ (s g : ℕ) (m : LinkedHashMap) (is : r ≡ Ok m) (e : g ≡ at_least_one f) where
    abbrev fresh : LazyMinHeap
    fresh = record { scores = m; entries = 0; seq = s; factor = g }

    fresh_capacity : m.capacity ≡ n
    fresh_capacity = IfOk-at_ok (λ x. x.capacity ≡ n) is o.capacity

    fresh_parts : Parts ws' fresh
    fresh_parts = record { room = rw (fresh_capacity, o.kept.size) room.0; scores = IfOk-at_ok (IsMap ws') is o.map; entries = heap_none (part m.capacity ws') }

    fresh_model : model_of ws' fresh ≡ opened n f s
    unfolding opened
    fresh_model = same_heap fresh_capacity e refl (IfOk-at_ok (λ x. map.model_of ws' x ≡ []) is o.model) (model_none (part m.capacity ws'))

    pub open_done : Opening ws n f s ws' (Ok fresh)
    open_done = record {
      outcome = sym t;
      refused = λ why q. cc;
      heap = λ h q. let same : fresh ≡ h = cc in subst (IsHeap ws') same (heap_again fresh_parts fresh_model (fair_opened n f s room.1));
      model = λ h q. let same : fresh ≡ h = cc in ap (model_of ws') (sym same) ∙ fresh_model;
      kept = record { size = o.kept.size; past = λ j b. o.kept.past j (omega arith) };
    }

module _ {ws ws' : List ℕ} (h : LazyMinHeap) {m : LinkedHashMap} {r : Result ⊤ Unfit} (t : heap_limits h.scores.capacity (length ws) ≡ Ok tt) (o : scores.Clearing ws h.scores ws' m r) where
  abbrev emptied : LazyMinHeap
  emptied = record { scores = m; entries = 0; seq = h.seq; factor = h.factor }

  -- the map is cleared
  pub clear_map : IsOk r
  clear_map = o.cleared (fits (limits_room h.scores.capacity (length ws) t))

  pub clear_call : {d : ℕ} → d ≡ h.entries - h.scores.len → Clearing ws h ws' emptied (Ok d)
  unfolding cleared
  clear_call d =
      discards_done t (λ is. cleared_parts is.parts) (λ is. same_heap o.capacity refl refl (o.model is.parts.scores) (model_none (part m.capacity ws'))) (λ is. fair_cleared (fair_heap is)) o.capacity
      (record { size = o.kept.size; past = λ j b. o.kept.past j (omega arith) })
      (λ is. d ∙ sym (surplus_is ws h))
    where
      cleared_parts : Parts ws h → Parts ws' emptied
      cleared_parts p = record { room = rw (o.capacity, o.kept.size) p.room; scores = o.map p.scores; entries = heap_none (part m.capacity ws') }

-- ---- a key is taken out
module _ {ws ws' : List ℕ} (h : LazyMinHeap) {k : ℕ} {m : LinkedHashMap} {a : Option ℕ} (o : TakingKey ws h.scores k ws' m a) where
  abbrev without_key : LazyMinHeap
  without_key = record { scores = m; entries = h.entries; seq = h.seq; factor = h.factor }

  abbrev out : scores.Removing ws h.scores k ws' m (Ok o.gone)
  out = o.removing

  part_kept : part m.capacity ws' ≡ part h.scores.capacity ws
  part_kept =
      let n = h.scores.capacity in
      ap (λ (c : ℕ). part c ws') out.capacity ∙ part_same ws ws' (start n) (words_for n - start n) out.kept.size (λ j a b. out.kept.past j a)

  pub remove_parts : Parts ws h → Parts ws' without_key
  remove_parts p = record {
    room = rw (out.capacity, out.kept.size) p.room;
    scores = out.map p.scores;
    entries = rw part_kept p.entries;
  }

  pub remove_model : Parts ws h → model_of ws' without_key ≡ removed k (model_of ws h)
  unfolding removed
  remove_model p = same_heap out.capacity refl refl (out.model p.scores) (ap (λ (ys : List ℕ). array.model_of ys h.entries) part_kept)

  pub remove_kept : Kept h.scores.capacity ws ws'
  remove_kept = record { size = out.kept.size; past = λ j b. out.kept.past j (omega arith) }

  pub removing : heap_limits h.scores.capacity (length ws) ≡ Ok tt → Removing ws h k ws' without_key (Ok (counted a 0))
  removing t = record {
    call = call_done t (λ is. remove_parts is.parts) (λ is. remove_model is.parts) (λ is. fair_removed k (fair_heap is)) out.capacity remove_kept;
    numbers = λ i. record { scores = o.numbers i; entries = h.entries; seq = h.seq; factor = h.factor };
    answer = λ is. let was : Ok o.gone ≡ Ok (lookup k (model_of ws h).held) = out.answer is.parts.scores in let gone : o.gone ≡ lookup k (model_of ws h).held = cc in ap (λ (x : Option ℕ). Ok (counted x 0)) (o.answer ∙ ap held_score gone);
  }
