-- One expired deadline is taken out, and its value.
use mathlib.Core.Path.{◌≡◌, refl, sym, ap, ◌∙◌}
use mathlib.Core.List.{List}
use Prim.Native.Nat.{ℕ}
use lib.ListN.{length}
use Rattle.std.specs.Prelude.{Option, Some, None, is_some, Result, Ok}
use Rattle.time.specs.declared.tick.Tick.{Tick}
use Rattle.time.specs.declared.refusal.Refusal.{Refusal}
use Rattle.lazy_heap_model.specs.declared.counted.Counted.{Counted}
use Rattle.lazy_heap_model.specs.Model.{stale}
use Rattle.lazy_heap.specs.Calls.{counted}
use Rattle.fast_lru_model.specs.Model as list
use Rattle.expiration_index.specs.declared.index.ExpirationIndex.{ExpirationIndex}
use Rattle.expiration_index.specs.Model.{Pair, pair_in, next_expired, expired_due}
use Rattle.expiration_index.specs.Model as pairs
use Rattle.expiration_index.specs.Index as index
use Rattle.expiration_index.specs.Calls as calls
use Rattle.expiring.specs.declared.expiring.Expiring.{Expiring}
use Rattle.expiring_model.specs.Model.{keep}
use Rattle.expiring.specs.Book.{Room, capacity_of, limit_of, IsBook, heap_of}
use Rattle.expiring.specs.Steps.{with_index, stored_of, deadlines_of, Moved, PoppingExpired}
use Rattle.expiring.proofs.Limits.{same_value}
use Rattle.expiring.proofs.Frames.{kept_then}
use Rattle.expiring.proofs.Moving.{pairs_keep, heap_keep, lent, back, lent_is, lent_index, rest_index, list_same, index_kept}

same_some : {A : Type 0} {x y : A} → Some x ≡ Some y → x ≡ y
same_some e = cc

none_told : (x : Option Pair) → None ≡ pair_in x → x ≡ None
none_told None e = refl
none_told (Some p) e = cc

some_pair : (x : Option Pair) → is_some (pair_in x) ≡ is_some x
some_pair None = refl
some_pair (Some p) = refl

some_told : (x : Option Pair) {k : ℕ} {d : Tick} → Some (k, d) ≡ pair_in x → (p : Pair) × (x ≡ Some p) × (p.key ≡ k)
some_told None e = cc
some_told (Some p) e = (p, refl, sym (ap (λ (y : ℕ × Tick). y.0) (same_some e)))

module _ (ws : List ℕ) (b : Expiring) (room : Room (length ws) (capacity_of b) (limit_of b)) (t : Tick) {ys : List ℕ} {x : ExpirationIndex} {r : Result (Counted (Option (ℕ × Tick))) Refusal} (o : calls.PoppingExpired (lent ws b) b.index t ys x r) {y : Counted (Option (ℕ × Tick))} (e : r ≡ Ok y) where
  abbrev b₁ : Expiring
  b₁ = with_index b x

  told : IsBook ws b → y ≡ counted (pair_in (next_expired t (deadlines_of ws b))) (stale (heap_of ws b))
  unfolding expired_due
  told is = same_value (sym e ∙ o.answer (lent_index ws b room is)) ∙ ap (λ (l : List ℕ). counted (pair_in (next_expired t (index.model_of l b.index))) (stale (index.heap_of l b.index))) (lent_is ws b room)

  is_book : IsBook ws b → IsBook (back ws b ys) b₁
  is_book is = record { list = (list_same ws b room x o.call.kept is).0; index = rw (rest_index ws b room x o.call.kept) (o.call.index (lent_index ws b room is)) }

  stored_same : IsBook ws b → stored_of (back ws b ys) b₁ ≡ stored_of ws b
  stored_same is = (list_same ws b room x o.call.kept is).1

  deadlines_then : IsBook ws b → deadlines_of (back ws b ys) b₁ ≡ pairs.without_expired t (deadlines_of ws b)
  deadlines_then is =
      ap (λ (l : List ℕ). index.model_of l x) (rest_index ws b room x o.call.kept)
      ∙ o.call.model (lent_index ws b room is)
      ∙ ap (λ (l : List ℕ). pairs.without_expired t (index.model_of l b.index)) (lent_is ws b room)

  heap_then : IsBook ws b → heap_of (back ws b ys) b₁ ≡ calls.popped_expired t (heap_of ws b)
  heap_then is =
      ap (λ (l : List ℕ). index.heap_of l x) (rest_index ws b room x o.call.kept)
      ∙ o.call.heap (lent_index ws b room is)
      ∙ ap (λ (l : List ℕ). calls.popped_expired t (index.heap_of l b.index)) (lent_is ws b room)

  discarded_then : IsBook ws b → y.discarded ≡ stale (heap_of ws b)
  discarded_then is = ap (λ (c : Counted (Option (ℕ × Tick))). c.discarded) (told is)

  popped_then : IsBook ws b → is_some y.answer ≡ is_some (next_expired t (deadlines_of ws b))
  popped_then is = ap (λ (c : Counted (Option (ℕ × Tick))). is_some c.answer) (told is) ∙ some_pair (next_expired t (deadlines_of ws b))

  -- nothing was expired
  pub popping_none : y.answer ≡ None → PoppingExpired ws b t (back ws b ys) b₁ (counted (is_some y.answer) y.discarded)
  popping_none q = record {
    capacity = refl;
    limit = o.call.limit;
    lifetime = refl;
    expirations = refl;
    book = is_book;
    popped = popped_then;
    stored = λ is. stored_same is ∙ sym (rw (none_next is));
    deadlines = deadlines_then;
    heap = heap_then;
    stale = discarded_then;
    kept = index_kept ws b room x o.call.kept;
  }
    where
      none_next : IsBook ws b → next_expired t (deadlines_of ws b) ≡ None
      none_next is = none_told (next_expired t (deadlines_of ws b)) (sym q ∙ ap (λ (c : Counted (Option (ℕ × Tick))). c.answer) (told is))

  pub popping_some : {k : ℕ} {d : Tick} {ws₂ : List ℕ} {b₂ : Expiring} → y.answer ≡ Some (k, d) → Moved (back ws b ys) b₁ keep (list.without k) ws₂ b₂ 0 → PoppingExpired ws b t ws₂ b₂ (counted (is_some y.answer) y.discarded)
  popping_some {k} q m = record {
    capacity = m.capacity;
    limit = m.limit ∙ o.call.limit;
    lifetime = m.lifetime;
    expirations = m.expirations;
    book = λ is. m.book (is_book is);
    popped = popped_then;
    stored = λ is. m.stored (is_book is) ∙ ap (list.without k) (stored_same is) ∙ sym (rw ((found is).1, (found is).2));
    deadlines = λ is. m.deadlines (is_book is) ∙ pairs_keep (deadlines_of (back ws b ys) b₁) ∙ deadlines_then is;
    heap = λ is. m.heap (is_book is) ∙ heap_keep (heap_of (back ws b ys) b₁) ∙ heap_then is;
    stale = discarded_then;
    kept = kept_then refl o.call.limit (index_kept ws b room x o.call.kept) m.kept;
  }
    where
      found : IsBook ws b → (p : Pair) × (next_expired t (deadlines_of ws b) ≡ Some p) × (p.key ≡ k)
      found is = some_told (next_expired t (deadlines_of ws b)) (sym q ∙ ap (λ (c : Counted (Option (ℕ × Tick))). c.answer) (told is))
