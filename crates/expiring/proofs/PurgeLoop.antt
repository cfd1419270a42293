-- The loop of a purge: how far it has come, and that it ends with every expired pair gone.
use mathlib.Core.Path.{◌≡◌, refl, sym, ap, subst, ◌∙◌}
use mathlib.Core.Bool.{Bool, true, false, true≢false}
use mathlib.Core.List.{List}
use Rattle.std.specs.Prelude.{Option, Some, None, is_some, Ok}
use Prim.Native.Nat.{ℕ, ◌+◌, ◌≤◌}
use native.Mathlib.Omega.{arith}
use lib.ListN.{length}
use Rattle.limits.specs.Limits.{book_limits}
use Rattle.time.specs.declared.tick.Tick.{Tick}
use Rattle.lazy_heap_model.specs.Model.{popped}
use Rattle.lazy_heap.proofs.Laws.{fair_heap}
use Rattle.fast_lru_model.specs.Model as list
use Rattle.expiration_index.specs.Model.{Pair, next_expired, expired_count, less, Distinct}
use Rattle.expiration_index.specs.Model as pairs
use Rattle.expiration_index.specs.Calls.{popped_expired, taken_if}
use Rattle.expiration_index.proofs.Laws.{model_distinct, model_bounded}
use Rattle.expiring_model.specs.declared.answers.Answer.TheVariants as answers
use Rattle.expiring.specs.declared.expiring.Expiring.{Expiring}
use Rattle.lazy_heap_model.specs.declared.counted.Counted.{Counted}
use Rattle.expiring_model.specs.Model.{purge_expired, drop_expired, change_of, pairs_after, without_expired, stored_after, expired_by, answered, bad_nanos}
use Rattle.expiring_model.specs.Discards.{discards, heap_after}
use Rattle.expiring.specs.Book.{capacity_of, limit_of, IsBook, heap_of, model_of, Kept}
use Rattle.expiring.specs.Calls.{Following}
use Rattle.expiring.specs.Steps.{saturating_sum, purging, stored_of, deadlines_of, Moved, less_value, PoppingExpired}
use Rattle.expiring.proofs.Frames.{kept_then}
use Rattle.expiring.proofs.Following.{count_accepted}
use Rattle.expiring.proofs.Acting.{acting_expired, follow}
use Rattle.expiring.proofs.Purging.{purged_accounts, purged_none, discards_none, purged_some, discards_some, expired_few, count_none, pairs_none, stored_none, taken_is, count_some, pairs_some, stored_some}

-- n pairs were taken out and so many stale entries discarded, so that what is to be done is what was to be done
-- at first, but for these
pub record Progress (ws : List ℕ) (b : Expiring) (t : Tick) (ws' : List ℕ) (b' : Expiring) (n stale : ℕ) : Type 0 where
  pub capacity : capacity_of b' ≡ capacity_of b
  pub limit : limit_of b' ≡ limit_of b
  pub lifetime : b'.default_ttl ≡ b.default_ttl
  pub expirations : b'.expirations ≡ b.expirations
  pub book : IsBook ws b → IsBook ws' b'
  pub stored : IsBook ws b → without_expired t (deadlines_of ws' b') (stored_of ws' b') ≡ without_expired t (deadlines_of ws b) (stored_of ws b)
  pub deadlines : IsBook ws b → pairs_after (drop_expired t) (deadlines_of ws' b') ≡ pairs_after (drop_expired t) (deadlines_of ws b)
  pub heap : IsBook ws b → heap_after (drop_expired t) (heap_of ws' b') ≡ heap_after (drop_expired t) (heap_of ws b)
  pub count : IsBook ws b → n + expired_count t (deadlines_of ws' b') ≡ expired_count t (deadlines_of ws b)
  pub discarded : IsBook ws b → n + stale + discards (drop_expired t) (heap_of ws' b') ≡ discards (drop_expired t) (heap_of ws b)
  pub kept : Kept (capacity_of b) (limit_of b) ws ws'

-- a book's heap has too few entries for a sum of them to saturate
few_discarded : {ws : List ℕ} {b : Expiring} → IsBook ws b → (t : Tick) → discards (drop_expired t) (heap_of ws b) ≤ 32768
few_discarded {ws} {b} is t = omega (arith, purged_accounts t (heap_of ws b), (fair_heap is.index.heap).few, is.index.heap.parts.room.limit)

some_in : (o : Option Pair) → is_some o ≡ true → (p : Pair) × (o ≡ Some p)
some_in None e = absurd (true≢false (sym e))
some_in (Some p) e = (p, refl)

none_in : (o : Option Pair) → is_some o ≡ false → o ≡ None
none_in None e = refl
none_in (Some p) e = absurd (true≢false e)

module _ {ws ws₁ : List ℕ} {b b₁ : Expiring} {t : Tick} {n s : ℕ} (so_far : Progress ws b t ws₁ b₁ n s) where
  -- one round
  module _ {ws₂ : List ℕ} {b₂ : Expiring} {r : Counted Bool} (o : PoppingExpired ws₁ b₁ t ws₂ b₂ r) where
    distinct : IsBook ws b → Distinct (deadlines_of ws₁ b₁)
    distinct is = model_distinct (so_far.book is).index

    -- with one taken
    module _ (more : r.answer ≡ true) where
      module _ (is : IsBook ws b) where
        abbrev is₁ : IsBook ws₁ b₁
        is₁ = so_far.book is

        found : (p : Pair) × (next_expired t (deadlines_of ws₁ b₁) ≡ Some p)
        found = some_in (next_expired t (deadlines_of ws₁ b₁)) (sym (o.popped is₁) ∙ more)

        abbrev key : ℕ
        key = found.0.key

        less_pairs : deadlines_of ws₂ b₂ ≡ pairs.without key (deadlines_of ws₁ b₁)
        less_pairs = o.deadlines is₁ ∙ taken_is t (deadlines_of ws₁ b₁) (distinct is) found.1

        less_values : stored_of ws₂ b₂ ≡ list.without key (stored_of ws₁ b₁)
        less_values = o.stored is₁ ∙ ap (λ (p : Option Pair). less_value p (stored_of ws₁ b₁)) found.1

        less_entries : heap_of ws₂ b₂ ≡ popped (heap_of ws₁ b₁)
        unfolding popped_expired
        less_entries = o.heap is₁ ∙ ap (λ (p : Option Pair). taken_if p (heap_of ws₁ b₁)) found.1

        values_next : without_expired t (deadlines_of ws₂ b₂) (stored_of ws₂ b₂) ≡ without_expired t (deadlines_of ws b) (stored_of ws b)
        values_next = rw (less_pairs, less_values) (sym (stored_some t (deadlines_of ws₁ b₁) (distinct is) found.1 (stored_of ws₁ b₁)) ∙ so_far.stored is)

        pairs_next : pairs_after (drop_expired t) (deadlines_of ws₂ b₂) ≡ pairs_after (drop_expired t) (deadlines_of ws b)
        pairs_next = rw less_pairs (sym (pairs_some t (deadlines_of ws₁ b₁) (distinct is) found.1) ∙ so_far.deadlines is)

        heap_next : heap_after (drop_expired t) (heap_of ws₂ b₂) ≡ heap_after (drop_expired t) (heap_of ws b)
        heap_next = rw less_entries (sym (purged_some t (heap_of ws₁ b₁) is₁.index.heap.valid found.1) ∙ so_far.heap is)

        count_next : n + 1 + expired_count t (deadlines_of ws₂ b₂) ≡ expired_count t (deadlines_of ws b)
        count_next = omega (arith, so_far.count is, count_some t (deadlines_of ws₁ b₁) (distinct is) found.1, ap (expired_count t) less_pairs)

        discarded_next : n + 1 + saturating_sum s r.discarded + discards (drop_expired t) (heap_of ws₂ b₂) ≡ discards (drop_expired t) (heap_of ws b)
        discarded_next =
            omega (arith, so_far.discarded is, discards_some t (heap_of ws₁ b₁) is₁.index.heap.valid found.1, ap (discards (drop_expired t)) less_entries, o.stale is₁, few_discarded is t)

      pub progress_more : Progress ws b t ws₂ b₂ (n + 1) (saturating_sum s r.discarded)
      progress_more = record {
        capacity = o.capacity ∙ so_far.capacity;
        limit = o.limit ∙ so_far.limit;
        lifetime = o.lifetime ∙ so_far.lifetime;
        expirations = o.expirations ∙ so_far.expirations;
        book = λ is. o.book (so_far.book is);
        stored = values_next;
        deadlines = pairs_next;
        heap = heap_next;
        count = count_next;
        discarded = discarded_next;
        kept = kept_then so_far.capacity so_far.limit so_far.kept o.kept;
      }

    -- with none left to take
    module _ (end : r.answer ≡ false) where
      nothing : IsBook ws b → next_expired t (deadlines_of ws₁ b₁) ≡ None
      nothing is = none_in (next_expired t (deadlines_of ws₁ b₁)) (sym (o.popped (so_far.book is)) ∙ end)

      pub purge_count : IsBook ws b → n ≡ expired_count t (deadlines_of ws b)
      purge_count is = omega (arith, so_far.count is, count_none t (deadlines_of ws₁ b₁) (nothing is))

      pub purge_moved : Moved ws b (drop_expired t) (without_expired t (deadlines_of ws b)) ws₂ b₂ (saturating_sum n (saturating_sum s r.discarded))
      unfolding popped_expired pairs.without_expired
      purge_moved = record {
        capacity = o.capacity ∙ so_far.capacity;
        limit = o.limit ∙ so_far.limit;
        lifetime = o.lifetime ∙ so_far.lifetime;
        expirations = o.expirations ∙ so_far.expirations;
        book = λ is. o.book (so_far.book is);
        stored = λ is. o.stored (so_far.book is) ∙ ap (λ (p : Option Pair). less_value p (stored_of ws₁ b₁)) (nothing is) ∙ sym (stored_none t (deadlines_of ws₁ b₁) (nothing is) (stored_of ws₁ b₁)) ∙ so_far.stored is;
        deadlines = λ is. o.deadlines (so_far.book is) ∙ ap (λ (p : Option Pair). less p (deadlines_of ws₁ b₁)) (nothing is) ∙ sym (pairs_none t (deadlines_of ws₁ b₁) (nothing is)) ∙ so_far.deadlines is;
        heap = λ is. o.heap (so_far.book is) ∙ ap (λ (p : Option Pair). taken_if p (heap_of ws₁ b₁)) (nothing is) ∙ sym (purged_none t (heap_of ws₁ b₁) (nothing is)) ∙ so_far.heap is;
        discarded = λ is. omega (arith, so_far.discarded is, discards_none t (heap_of ws₁ b₁) (nothing is), o.stale (so_far.book is), few_discarded is t);
        kept = kept_then so_far.capacity so_far.limit so_far.kept o.kept;
      }

  -- more rounds than the limit allows deadlines are not used up on a book
  pub rounds_left : IsBook ws b → n ≡ limit_of b + 1 → ⊥
  rounds_left is e = omega (arith, so_far.count is, expired_few t (deadlines_of ws b), model_bounded is.index)

  pub spent_moved : n ≡ limit_of b + 1 → {f : list.Items → list.Items} {d : ℕ} → Moved ws b (drop_expired t) f ws₁ b₁ d
  spent_moved e = record {
    capacity = so_far.capacity;
    limit = so_far.limit;
    lifetime = so_far.lifetime;
    expirations = so_far.expirations;
    book = so_far.book;
    stored = λ is. absurd (rounds_left is e);
    deadlines = λ is. absurd (rounds_left is e);
    heap = λ is. absurd (rounds_left is e);
    discarded = λ is. absurd (rounds_left is e);
    kept = so_far.kept;
  }

-- ---- at its end it follows the model
purge_follows : {ws ws' : List ℕ} {b b' : Expiring} {t : Tick} (n stale : ℕ) → book_limits (capacity_of b) (limit_of b) (length ws) ≡ Ok tt → Moved ws b (drop_expired t) (without_expired t (deadlines_of ws b)) ws' b' (saturating_sum n stale) → (IsBook ws b → n ≡ expired_count t (deadlines_of ws b)) → Following ws b t purge_expired ws' (purging b' n stale)
unfolding model_of change_of stored_after expired_by answered bad_nanos
purge_follows {ws = ws} {b = b} {t = t} n stale limits moved count =
    follow ws b t purge_expired limits refl
    (acting_expired moved (λ is. refl) n (count_accepted n) (λ is. refl) count (λ is. ap answers.Count (count is)))
    (λ is x y. refl) (λ is x y. refl) (λ is x y. refl) (λ is x y. refl)

module _ {ws ws₁ : List ℕ} {b b₁ : Expiring} {t : Tick} {n s : ℕ} (limits : book_limits (capacity_of b) (limit_of b) (length ws) ≡ Ok tt) (so_far : Progress ws b t ws₁ b₁ n s) where
  -- with none left to take
  pub purge_ends : {ws₂ : List ℕ} {b₂ : Expiring} {r : Counted Bool} → PoppingExpired ws₁ b₁ t ws₂ b₂ r → r.answer ≡ false → Following ws b t purge_expired ws₂ (purging b₂ n (saturating_sum s r.discarded))
  purge_ends {r = r} o end = purge_follows n (saturating_sum s r.discarded) limits (purge_moved so_far o end) (purge_count so_far o end)

  -- with no round left, which is no book
  pub purge_spent : n ≡ limit_of b + 1 → Following ws b t purge_expired ws₁ (purging b₁ (limit_of b + 1) s)
  purge_spent e = subst (λ (m : ℕ). Following ws b t purge_expired ws₁ (purging b₁ m s)) e (purge_follows n s limits (spent_moved so_far e) (λ is. absurd (rounds_left so_far is e)))
