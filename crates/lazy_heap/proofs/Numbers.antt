-- No two entries ever share a sequence number.
use mathlib.Core.Path.{◌≡◌, refl, ap, ◌∙◌}
use mathlib.Core.Bool.{Bool, true, false, cond}
use mathlib.Core.List.{List, [], ◌∷◌, map, Memᴰ}
use mathlib.Core.List.Memᴰ.{head}
use mathlib.Core.List.Memᴰ.{tail}
use Prim.Native.Nat.{ℕ, ◌+◌, ◌-◌, ◌^◌, ◌<◌, ◌≤◌}
use native.Mathlib.Omega.{arith}
use lib.Dec.{eqb}
use lib.ListN.{length}
use borrow.Author.Tests.{ne_eqb, eqb-true}
use Rattle.binary_heap.specs.declared.entries.Entry.{Entry}
use Rattle.binary_heap.specs.Order.{le, insert, sort}
use Rattle.linked_hash_map.specs.declared.map.Record.{Record}
use Rattle.lazy_heap_model.specs.Model.{Heap, entry_of, live, from_live, too_many, rebuilt, numbered, renumbered, is_full, before_push, pushed, maybe_rebuilt, updated, removed, peeked, popped, popped_from}
use Rattle.lazy_heap.specs.Valid.{Falling, Valid, with_number, Different}
use Rattle.lazy_heap.proofs.Valid.{numbered_falling, valid_pushed}
use Rattle.lazy_heap.proofs.Calling.{Fair}
use Rattle.lazy_heap.proofs.Updating.{ready, room_without}

module _ (s : ℕ) where
  number_insert : (e : Entry) (l : List Entry) → with_number s (insert e l) ≡ cond (eqb e.seq s) 1 0 + with_number s l
  unfolding with_number insert
  number_insert e [] = refl
  number_insert e (x ∷ l) = go (le e x) (number_insert e l)
    where
      go : (b : Bool) → with_number s (insert e l) ≡ cond (eqb e.seq s) 1 0 + with_number s l → with_number s (cond b (e ∷ x ∷ l) (x ∷ insert e l)) ≡ cond (eqb e.seq s) 1 0 + (cond (eqb x.seq s) 1 0 + with_number s l)
      go true ih = refl
      go false ih = omega (arith, ih)

  number_sort : (l : List Entry) → with_number s (sort l) ≡ with_number s l
  unfolding with_number sort
  number_sort [] = refl
  number_sort (x ∷ l) = number_insert x (sort l) ∙ ap (λ (n : ℕ). cond (eqb x.seq s) 1 0 + n) (number_sort l)

  -- a number above all is none's
  number_fresh : (l : List Entry) → ((e : Entry) → Memᴰ e l → e.seq < s) → with_number s l ≡ 0
  unfolding with_number
  number_fresh [] below = refl
  number_fresh (x ∷ l) below = rw (ne_eqb x.seq s (λ q. omega (arith, below x (head refl)))) (omega (arith, number_fresh l (λ e m. below e (tail m))))

  -- the numbers of held keys fall
  number_above : (b : ℕ) (held : List Record) → Falling b held → b ≤ s → with_number s (map entry_of held) ≡ 0
  unfolding with_number
  number_above b [] f h = refl
  number_above b (r ∷ held) f h = rw (ne_eqb r.second s (λ q. omega (arith, f.0))) (omega (arith, number_above r.second held f.1 (omega (arith, f.0))))

  number_live : (b : ℕ) (held : List Record) → Falling b held → with_number s (map entry_of held) ≤ 1
  unfolding with_number
  number_live b [] f = omega arith
  number_live b (r ∷ held) f = go (eqb r.second s) refl (number_live r.second held f.1)
    where
      go : (u : Bool) → eqb r.second s ≡ u → with_number s (map entry_of held) ≤ 1 → cond u 1 0 + with_number s (map entry_of held) ≤ 1
      go true q ih = let e = eqb-true r.second s q in omega (arith, number_above r.second held f.1 (omega arith))
      go false q ih = omega arith

  number_from : (held : List Record) (es : List Entry) → with_number s (from_live held es) ≤ with_number s es
  unfolding with_number from_live
  number_from held [] = omega arith
  number_from held (x ∷ es) = go (live held x) (number_from held es)
    where
      go : (u : Bool) → with_number s (from_live held es) ≤ with_number s es → with_number s (cond u (x ∷ es) (from_live held es)) ≤ cond (eqb x.seq s) 1 0 + with_number s es
      go true ih = omega arith
      go false ih = omega (arith, ih)

  number_rest : (e : Entry) (es : List Entry) → with_number s es ≤ with_number s (e ∷ es)
  unfolding with_number
  number_rest e es = omega arith

-- ---- the calls
pub different_none : (h : Heap) → h.entries ≡ [] → Different h
unfolding with_number
different_none h q s = rw q (omega arith)

pub different_rebuilt : (h : Heap) → Valid h → Different (rebuilt h)
unfolding rebuilt
different_rebuilt h v s = rw (number_sort s (map entry_of h.held)) (number_live s h.next h.held v.numbers)

pub different_renumbered : (h : Heap) → Different (renumbered h)
unfolding renumbered
different_renumbered h s = rw (number_sort s (map entry_of (numbered h.held))) (number_live s (length h.held) (numbered h.held) (numbered_falling h.held))

pub different_pushed : (k n : ℕ) (h : Heap) → Valid h → Different h → Different (pushed k n h)
unfolding pushed
different_pushed k n h v d s = rw (number_insert s (entry_of (record { key = k; first = n; second = h.next })) h.entries) (one (eqb h.next s) refl)
  where
    one : (u : Bool) → eqb h.next s ≡ u → cond u 1 0 + with_number s h.entries ≤ 1
    one true q = let e = eqb-true h.next s q in omega (arith, number_fresh s h.entries (λ y m. omega (arith, v.below y m)))
    one false q = omega (arith, d s)

pub different_maybe_rebuilt : (f : ℕ) (h : Heap) → Valid h → Different h → Different (maybe_rebuilt f h)
unfolding maybe_rebuilt
different_maybe_rebuilt f h v d = go (too_many f h)
  where
    go : (b : Bool) → Different (cond b (rebuilt h) h)
    go true = different_rebuilt h v
    go false = d

pub different_updated : (k n : ℕ) (h : Heap) → Fair h → h.limit ≤ 4096 → h.next < 2 ^ 64 → is_full k h ≡ false → Different h → Different (updated k n h)
unfolding updated before_push
different_updated k n h f l w new d =
    let r = ready k h f l w in
    let v = r.fair.valid in
    different_maybe_rebuilt h.factor (pushed k n (before_push h)) (valid_pushed k n (before_push h) v (room_without k (before_push h) v.few (r.full ∙ new)))
    (different_pushed k n (before_push h) v (go (eqb h.next (2 ^ 64 - 1))))
  where
    go : (b : Bool) → Different (cond b (renumbered h) h)
    go true = different_renumbered h
    go false = d

pub different_removed : (k : ℕ) (h : Heap) → Different h → Different (removed k h)
unfolding removed
different_removed k h d = d

pub different_peeked : (h : Heap) → Different h → Different (peeked h)
unfolding peeked
different_peeked h d s = omega (arith, number_from s h.held h.entries, d s)

pub different_popped : (h : Heap) → Different h → Different (popped h)
unfolding popped
different_popped h d s = go (from_live h.held h.entries) refl
  where
    go : (es : List Entry) → from_live h.held h.entries ≡ es → with_number s (popped_from es h).entries ≤ 1
    go [] q = different_peeked h d s
    go (e ∷ es) q = omega (arith, number_rest s e es, ap (with_number s) q, number_from s h.held h.entries, d s)
