-- What a call discards and what it leaves is what there was and what it pushed: entries on the one side, pairs
-- held, replaced and removed on the other.
use mathlib.Core.Path.{◌≡◌, refl, sym, ap, ◌∙◌, subst}
use mathlib.Core.Bool.{Bool, true, false, cond, ◌||◌}
use mathlib.Core.List.{List, [], ◌∷◌}
use Prim.Native.Nat.{ℕ, ◌+◌, ◌-◌, ◌*◌, ◌^◌, ◌≤◌}
use native.Mathlib.Omega.{arith}
use lib.Dec.{eqb}
use lib.ListN.{length, length-append}
use borrow.Author.Tests.{eqb-true, ne_eqb}
use Rattle.time.specs.declared.tick.Tick.{Tick}
use Rattle.time.specs.declared.refusal.Refusal.{Refusal}
use Rattle.time.specs.declared.refusal.Refusal.TheVariants.{InvalidNanos, KeyLimitReached}
use Rattle.std.specs.Prelude.{Result, Ok, Err, ⊤}
use Rattle.rings.proofs.Counts.{by_lt}
use Rattle.lazy_heap_model.specs.Model.{Heap, heap_len, before_push, pushed, updated, update_discards, removed, cleared}
use Rattle.lazy_heap_model.specs.Model as lazy
use Rattle.lazy_heap.proofs.Laws.{Fair, fair_heap, updated_accounts, updated_bound, maybe_rebuilt_accounts, cleared_accounts, peeked_accounts}
use Rattle.lazy_heap.proofs.Valid.{valid_pushed}
use Rattle.lazy_heap.proofs.Updating.{room_without, push_length}
use Rattle.expiration_index.specs.Model.{Pairs, is_full, Distinct}
use Rattle.expiration_index.specs.Model as pairs
use Rattle.expiration_index.specs.Index.{deadlines}
use Rattle.expiration_index.proofs.Pairs.{distinct_pairs, deadlines_length, deadlines_updated, full_deadlines}
use Rattle.expiration_index.proofs.Expired.{without_missing}
use Rattle.expiring.specs.declared.answers.Reply.{Reply}
use Rattle.expiring.specs.declared.expiring.Expiring.{Expiring}
use Rattle.expiring_model.specs.Model.{Book, Call, Change, keep, set, drop, drop_expired, drop_all, look, change_of, pairs_after, replaced_by, removed_by, sets_beyond, bad_nanos, refusal_of, accepted, book_after}
use Rattle.expiring_model.specs.Discards.{discards, heap_after, discarded_by, heap_by}
use Rattle.expiring.specs.Book.{IsBook, heap_of, model_of}
use Rattle.expiring.specs.Calls.{Following}
use Rattle.expiring.proofs.Limits.{err_ok}
use Rattle.expiring.proofs.Purging.{purged_accounts, unexpired_length}

-- ---- a pair taken out, or set
without_length : (k : ℕ) (l : Pairs) → Distinct l → length (pairs.without k l) + cond (pairs.has k l) 1 0 ≡ length l
unfolding pairs.without pairs.has
without_length k [] d = refl
without_length k (p ∷ l) d = go (eqb p.key k) refl (without_length k l d.1)
  where
    go : (b : Bool) → eqb p.key k ≡ b → length (pairs.without k l) + cond (pairs.has k l) 1 0 ≡ length l → length (cond b (pairs.without k l) (p ∷ pairs.without k l)) + cond (b || pairs.has k l) 1 0 ≡ length (p ∷ l)
    go true e ih = omega (arith, ap (λ (m : Pairs). length m) (without_missing k l (ap (λ (j : ℕ). pairs.has j l) (sym (eqb-true p.key k e)) ∙ d.0)))
    go false e ih = omega arith

set_length : (k : ℕ) (d : Tick) (l : Pairs) → length (pairs.set k d l) ≡ length (pairs.without k l) + 1
unfolding pairs.set
set_length k d l = length-append (pairs.without k l) (record { key = k; deadline = d } ∷ [])

-- ---- an update, whatever the next number is: past the last one nothing is renumbered
set_accounts : (k s : ℕ) (h : Heap) → Fair h → h.limit ≤ 4096 → lazy.is_full k h ≡ false → update_discards k s h + length (updated k s h).entries ≡ length h.entries + 1
unfolding updated update_discards before_push
set_accounts k s h f small new = by_lt h.next (2 ^ 64) (λ w. updated_accounts k s h f small w new) past
  where
    past : 2 ^ 64 ≤ h.next → update_discards k s h + length (updated k s h).entries ≡ length h.entries + 1
    past w =
        let v = valid_pushed k s h f.valid (room_without k h f.valid.few new) in
        rw (ne_eqb h.next (2 ^ 64 - 1) (λ q. omega arith)) (omega (arith, push_length k s h, maybe_rebuilt_accounts h.factor (pushed k s h) v))

-- ---- a model beside the heap that it is read from
pub record Beside (p : Book) (h : Heap) : Type 0 where
  pub fair : Fair h
  pub small : h.limit ≤ 4096
  pub factor : h.factor ≡ 2
  pub limit : p.limit ≡ h.limit
  pub deadlines : p.deadlines ≡ deadlines h

pub beside_book : {ws : List ℕ} {b : Expiring} → IsBook ws b → (m n : ℕ) → Beside (model_of ws b m n) (heap_of ws b)
unfolding model_of
beside_book is m n = record { fair = fair_heap is.index.heap; small = is.index.heap.parts.room.limit; factor = is.index.factor; limit = refl; deadlines = refl }

-- the pairs held, replaced and removed
abbrev pub counted : Book → ℕ
counted p = length p.deadlines + p.replaced + p.removed

module _ {p : Book} {h : Heap} (o : Beside p h) where
  distinct : Distinct p.deadlines
  unfolding deadlines
  distinct = rw o.deadlines (distinct_pairs h.held o.fair.valid.keys)

  held_length : length p.deadlines ≡ length h.held
  held_length = ap (λ (l : Pairs). length l) o.deadlines ∙ deadlines_length h

  new_key : (k : ℕ) → is_full p.limit k p.deadlines ≡ false → lazy.is_full k h ≡ false
  new_key k e = sym (full_deadlines k h) ∙ sym (rw (o.limit, o.deadlines)) ∙ e

  change_accounts : (ch : Change) → sets_beyond ch p ≡ false → discards ch h + heap_len (heap_after ch h) + length p.deadlines ≡ heap_len h + (length (pairs_after ch p.deadlines) + replaced_by ch p.deadlines + removed_by ch p.deadlines)
  unfolding discards heap_after pairs_after replaced_by removed_by removed cleared
  change_accounts keep e = omega arith
  change_accounts (set k d) e = omega (arith, set_accounts k d.0 h o.fair o.small (new_key k e), set_length k d p.deadlines, without_length k p.deadlines distinct)
  change_accounts (drop k) e = omega (arith, without_length k p.deadlines distinct)
  change_accounts (drop_expired t) e = omega (arith, purged_accounts t h, unexpired_length t p.deadlines)
  change_accounts drop_all e = omega (arith, cleared_accounts h o.fair.valid, held_length)
  change_accounts look e = omega (arith, peeked_accounts h)

  -- ---- a call
  module _ (t : Tick) (c : Call) where
    accepted_within : refusal_of t c p ≡ Ok tt → sets_beyond (change_of t c p) p ≡ false
    unfolding refusal_of
    accepted_within q = go (bad_nanos c) (sets_beyond (change_of t c p) p) q
      where
        go : (a b : Bool) → ◌≡◌ {A = Result ⊤ Refusal} (cond a (Err InvalidNanos) (cond b (Err KeyLimitReached) (Ok tt))) (Ok tt) → b ≡ false
        go true b e = absurd (err_ok InvalidNanos e)
        go false true e = absurd (err_ok KeyLimitReached e)
        go false false e = refl

    pub accounts : discarded_by t c p h + heap_len (heap_by t c p h) + counted p ≡ heap_len h + counted (book_after t c p)
    unfolding discarded_by heap_by book_after accepted
    accounts = go (refusal_of t c p) refl
      where
        go : (a : Result ⊤ Refusal) → refusal_of t c p ≡ a → discarded_by t c p h + heap_len (heap_by t c p h) + counted p ≡ heap_len h + counted (book_after t c p)
        go (Err why) q = rw q (omega arith)
        go (Ok u) q = rw q (omega (arith, change_accounts (change_of t c p) (accepted_within q)))

    -- after an accepted setting entries are at most twice the deadlines held
    pub setting_bound : {k : ℕ} {d : Tick} → change_of t c p ≡ set k d → refusal_of t c p ≡ Ok tt → heap_len (heap_by t c p h) ≤ 2 * length (book_after t c p).deadlines
    unfolding heap_by book_after accepted heap_after pairs_after
    setting_bound {k} {d} e q =
        let b : length (updated k d.0 h).entries ≤ 2 * length (updated k d.0 h).held = subst (λ (f : ℕ). length (updated k d.0 h).entries ≤ f * length (updated k d.0 h).held) o.factor (updated_bound k d.0 h o.fair.factor.0) in
        let l : length (updated k d.0 h).held ≡ length (pairs.set k d p.deadlines) = sym (deadlines_length (updated k d.0 h)) ∙ ap (λ (x : Pairs). length x) (deadlines_updated k d.0 h ∙ ap (pairs.set k d) (sym o.deadlines)) in
        rw (q, e) (omega (arith, b, l))

-- ---- a call on a book
module _ {ws ws' : List ℕ} {b : Expiring} {t : Tick} {c : Call} {r : Reply} (is : IsBook ws b) (o : Following ws b t c ws' r) (m n : ℕ) where
  pub call_accounts : r.discarded + heap_len (heap_of ws' r.book) + counted (model_of ws b m n) ≡ heap_len (heap_of ws b) + counted (book_after t c (model_of ws b m n))
  call_accounts = omega (arith, accounts (beside_book is m n) t c, o.discarded is m n, ap heap_len (o.heap is m n))

  pub call_bound : {k : ℕ} {d : Tick} → change_of t c (model_of ws b m n) ≡ set k d → refusal_of t c (model_of ws b m n) ≡ Ok tt → heap_len (heap_of ws' r.book) ≤ 2 * length (book_after t c (model_of ws b m n)).deadlines
  call_bound e q = omega (arith, setting_bound (beside_book is m n) t c e q, ap heap_len (o.heap is m n))
