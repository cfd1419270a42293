-- The first live entry: told, or taken.
use mathlib.Core.Path.{◌≡◌, refl, sym, ap, ◌∙◌, subst}
use mathlib.Core.Bool.{Bool, true, false, cond}
use mathlib.Core.List.{List, [], ◌∷◌}
use Prim.Native.Nat.{ℕ}
use native.Mathlib.Omega.{arith}
use lib.Dec.{leb}
use lib.ListN.{length}
use Rattle.std.specs.Prelude.{Option, None, Some, Result, Ok}
use Rattle.limits.specs.Limits.{heap_limits}
use Rattle.time.specs.declared.refusal.Refusal.{Refusal}
use Rattle.linked_hash_map.specs.declared.map.LinkedHashMap.{LinkedHashMap}
use Rattle.lazy_heap_model.specs.declared.counted.Counted.{Counted}
use Rattle.binary_heap.specs.declared.entries.Entry.{Entry}
use Rattle.binary_heap.specs.Heap.{first, rest}
use Rattle.lazy_heap.specs.declared.heap.LazyMinHeap.{LazyMinHeap}
use Rattle.lazy_heap.specs.Words.{Kept}
use Rattle.lazy_heap_model.specs.Model.{Heap, best_in, from_live, stale, removed, peeked, popped, popped_from}
use Rattle.lazy_heap.specs.Valid.{Valid}
use Rattle.lazy_heap.specs.Heap.{held_of, entries_of, model_of, Parts, IsHeap}
use Rattle.lazy_heap.specs.Steps.{best_of, within, Discarding, Peeking, Popping, Taking, TakingTop, TakingKey}
use Rattle.lazy_heap.specs.Calls.{counted, Besting, PeekingBest, PoppingBest, PoppingAtMost}
use Rattle.lazy_heap.proofs.Settling.{first_none}
use Rattle.lazy_heap.proofs.Valid.{valid_popped, from_length}
use Rattle.lazy_heap.proofs.Stepping.{same_heap, same_capacity}
use Rattle.lazy_heap.proofs.Calling.{call_done, Fair, fair_heap, fair_peeked, remove_parts, remove_model, remove_kept}

first_best : (l : List Entry) → best_of (first l) ≡ best_in l
first_best [] = refl
first_best (e ∷ l) = refl

pub first_some : (l : List Entry) (e : Entry) → first l ≡ Some e → l ≡ e ∷ rest l
first_some [] e q = cc
first_some (x ∷ l) e q = let same : x ≡ e = cc in ap (λ (y : Entry). y ∷ l) same

fair_popped : {m : Heap} → Fair m → Fair (popped m)
unfolding popped
fair_popped {m} f = go (from_live m.held m.entries) refl
  where
    go : (es : List Entry) → from_live m.held m.entries ≡ es → Fair (popped_from es m)
    go [] q = fair_peeked f
    go (e ∷ es) q = record {
      valid = subst (λ (l : List Entry). Valid (popped_from l m)) q (valid_popped m f.valid);
      few = omega (arith, from_length m.held m.entries, ap (λ (l : List Entry). length l) q, f.few);
      factor = f.factor;
    }

module _ {ws ws₁ : List ℕ} {h h₁ : LazyMinHeap} {d : ℕ} {t : Option Entry} (settled : Discarding ws h ws₁ h₁ d) (top : Peeking ws₁ h₁ t) (ok : heap_limits h.scores.capacity (length ws) ≡ Ok tt) where
  abbrev from : List Entry
  from = from_live (held_of ws h) (entries_of ws h)

  same_limit : h₁.scores.capacity ≡ h.scores.capacity
  same_limit = same_capacity settled.entered.scores

  peek_model : Parts ws h → model_of ws₁ h₁ ≡ peeked (model_of ws h)
  unfolding peeked
  peek_model p = same_heap same_limit settled.entered.factor settled.entered.seq (settled.entered.held p) (settled.entries p)

  told : Parts ws h → t ≡ first from
  told p = top.answer (settled.parts p) ∙ ap first (settled.entries p)

  answered : {a b : Option (ℕ × ℕ)} → Parts ws h → a ≡ b → ◌≡◌ {A = Result (Counted (Option (ℕ × ℕ))) Refusal} (Ok (counted a d)) (Ok (counted b (stale (model_of ws h))))
  answered p e = λ i. Ok (counted (e i) (settled.discarded p i))

  pub peeking_best : {a : Option (ℕ × ℕ)} → a ≡ best_of t → PeekingBest ws h ws₁ h₁ (Ok (counted a d))
  peeking_best e = record {
    call = call_done ok (λ is. settled.parts is.parts) (λ is. peek_model is.parts) (λ is. fair_peeked (fair_heap is)) same_limit settled.entered.kept;
    answer = λ is. answered is.parts (e ∙ ap best_of (told is.parts) ∙ first_best from);
  }

  popping_none : t ≡ None → PoppingBest ws h ws₁ h₁ (Ok (counted None d))
  unfolding popped
  popping_none e = record {
    call = call_done ok (λ is. settled.parts is.parts) (λ is. peek_model is.parts ∙ sym (ap (λ (l : List Entry). popped_from l (model_of ws h)) (none is.parts))) (λ is. fair_popped (fair_heap is)) same_limit settled.entered.kept;
    answer = λ is. answered is.parts (sym (ap best_in (none is.parts)));
  }
    where
      none : Parts ws h → from ≡ []
      none p = first_none from (sym (told p) ∙ e)

  module _ {ws' : List ℕ} {h' : LazyMinHeap} {e : Entry} (take : Taking ws₁ h₁ e.key ws' h') where
    popping_best : t ≡ Some e → PoppingBest ws h ws' h' (Ok (counted (Some (e.key, e.score)) d))
    unfolding popped removed
    popping_best q = record {
      call = call_done ok (λ is. take.parts (settled.parts is.parts)) (λ is. model is.parts) (λ is. fair_popped (fair_heap is)) (take.capacity ∙ same_limit) kept;
      answer = λ is. answered is.parts (sym (ap best_in (some is.parts)));
    }
      where
        some : Parts ws h → from ≡ e ∷ rest from
        some p = first_some from e (sym (told p) ∙ q)

        without_first : Parts ws h → ◌≡◌ {A = Heap} (record { limit = h₁.scores.capacity; factor = h₁.factor; next = h₁.seq; held = held_of ws₁ h₁; entries = rest (entries_of ws₁ h₁) }) (record { limit = h.scores.capacity; factor = h.factor; next = h.seq; held = held_of ws h; entries = rest from })
        without_first p = same_heap same_limit settled.entered.factor settled.entered.seq (settled.entered.held p) (ap rest (settled.entries p))

        model : Parts ws h → model_of ws' h' ≡ popped (model_of ws h)
        model p = take.model (settled.parts p) ∙ ap (removed e.key) (without_first p) ∙ sym (ap (λ (l : List Entry). popped_from l (model_of ws h)) (some p))

        kept : Kept h.scores.capacity ws ws'
        kept = record {
          size = take.kept.size ∙ settled.entered.kept.size;
          past = λ j b. take.kept.past j (rw same_limit b) ∙ settled.entered.kept.past j b;
        }

-- `take_top`
pub taking : {ws ws₁ ws' : List ℕ} {h h₁ : LazyMinHeap} {k : ℕ} {m : LinkedHashMap} {a : Option ℕ} → Popping ws h ws₁ h₁ → TakingKey ws₁ h₁.scores k ws' m a → Taking ws h k ws' (record { scores = m; entries = h₁.entries; seq = h₁.seq; factor = h₁.factor })
taking {ws} {ws₁} {ws'} {h} {h₁} {k} pop out = record {
  capacity = out.removing.capacity ∙ same_capacity pop.entered.scores;
  parts = λ p. remove_parts h₁ out (pop.parts p);
  model = λ p. remove_model h₁ out (pop.parts p) ∙ ap (removed k) (same_heap (same_capacity pop.entered.scores) pop.entered.factor pop.entered.seq (pop.entered.held p) (pop.entries p));
  kept =
      let k = remove_kept h₁ out in
      record { size = k.size ∙ pop.entered.kept.size; past = λ j b. k.past j (rw (same_capacity pop.entered.scores) b) ∙ pop.entered.kept.past j b };
}

-- ---- `pop_at_most` is as `pop_best` where the best has at most the score, as `peek_best` where it has not
module _ {ws ws' : List ℕ} {h h' : LazyMinHeap} {d : ℕ} where
  as_best : {next next' : Heap → Heap} {best best' : Heap → Option (ℕ × ℕ)} {a a' : Option (ℕ × ℕ)} → Besting ws h next best ws' h' (Ok (counted a d)) → (a ≡ best (model_of ws h) → (next (model_of ws h) ≡ next' (model_of ws h)) × (a' ≡ best' (model_of ws h)))
      → Besting ws h next' best' ws' h' (Ok (counted a' d))
  as_best {best = best} {a = a} o same = record {
    call = record {
      outcome = o.call.outcome;
      refused = λ why q. cc;
      heap = o.call.heap;
      model = λ t is. o.call.model t is ∙ (same (told_best is).0).0;
      capacity = o.call.capacity;
      kept = o.call.kept;
    };
    answer = λ is. λ i. Ok (counted ((same (told_best is).0).1 i) ((told_best is).1 i));
  }
    where
      told_best : IsHeap ws h → (a ≡ best (model_of ws h)) × (d ≡ stale (model_of ws h))
      told_best is = let q = o.answer is in let same : counted a d ≡ counted (best (model_of ws h)) (stale (model_of ws h)) = cc in (ap (λ (x : Counted (Option (ℕ × ℕ))). x.answer) same, ap (λ (x : Counted (Option (ℕ × ℕ))). x.discarded) same)

  module _ (s : ℕ) {k v : ℕ} where
    at_most_taken : PoppingBest ws h ws' h' (Ok (counted (Some (k, v)) d)) → leb v s ≡ true → PoppingAtMost ws h s ws' h' (Ok (counted (Some (k, v)) d))
    at_most_taken o l = as_best o (λ q. (rw (sym q, l), rw (sym q, l)))

    at_most_left : PeekingBest ws h ws' h' (Ok (counted (Some (k, v)) d)) → leb v s ≡ false → PoppingAtMost ws h s ws' h' (Ok (counted None d))
    at_most_left o l = as_best o (λ q. (rw (sym q, l), rw (sym q, l)))

  at_most_none : (s : ℕ) → PeekingBest ws h ws' h' (Ok (counted None d)) → PoppingAtMost ws h s ws' h' (Ok (counted None d))
  at_most_none s o = as_best o (λ q. (rw (sym q), rw (sym q)))

-- ---- the pops
module _ {ws ws₁ ws' : List ℕ} {h h₁ h' : LazyMinHeap} {d : ℕ} {t : Option Entry} (settled : Discarding ws h ws₁ h₁ d) (top : Peeking ws₁ h₁ t) (ok : heap_limits h.scores.capacity (length ws) ≡ Ok tt) where
  pub popping_top : TakingTop ws₁ h₁ t ws' h' → PoppingBest ws h ws' h' (Ok (counted (best_of t) d))
  popping_top = go t refl
    where
      go : (u : Option Entry) → t ≡ u → TakingTop ws₁ h₁ u ws' h' → PoppingBest ws h ws' h' (Ok (counted (best_of u) d))
      go (Some e) q take = popping_best settled top ok take q
      go None q same = rw (same.0, same.1) (popping_none settled top ok q)

  pub popping_within : (s : ℕ) → TakingTop ws₁ h₁ (within s t) ws' h' → PoppingAtMost ws h s ws' h' (Ok (counted (best_of (within s t)) d))
  popping_within s = go t refl
    where
      go : (u : Option Entry) → t ≡ u → TakingTop ws₁ h₁ (within s u) ws' h' → PoppingAtMost ws h s ws' h' (Ok (counted (best_of (within s u)) d))
      go (Some e) q take = some (leb e.score s) refl take
        where
          some : (b : Bool) → leb e.score s ≡ b → TakingTop ws₁ h₁ (cond b (Some e) None) ws' h' → PoppingAtMost ws h s ws' h' (Ok (counted (best_of (cond b (Some e) None)) d))
          some true l take = at_most_taken s (popping_best settled top ok take q) l
          some false l same = rw (same.0, same.1) (at_most_left s (peeking_best settled top ok (sym (ap best_of q))) l)
      go None q same = rw (same.0, same.1) (at_most_none s (peeking_best settled top ok (sym (ap best_of q))))
