-- Every step of the model keeps a heap valid.
use mathlib.Core.Path.{◌≡◌, refl, sym, ap, ◌∙◌}
use mathlib.Core.Bool.{Bool, true, false, true≢false, cond}
use mathlib.Core.Logic.{⊎_elim}
use mathlib.Core.List.{List, [], ◌∷◌, map, Memᴰ}
use mathlib.Core.List.Memᴰ.{cases_cons}
use mathlib.Core.List.Memᴰ.{head}
use mathlib.Core.List.Memᴰ.{not-nil}
use mathlib.Core.List.Memᴰ.{tail}
use Prim.Native.Nat.{ℕ, suc, ◌+◌, ◌<◌}
use native.Mathlib.Omega.{arith}
use lib.ListN.{length, length-map}
use Rattle.binary_heap.specs.declared.entries.Entry.{Entry}
use Rattle.binary_heap.specs.Order.{le, insert, Sorted, is, count}
use Rattle.rings.proofs.Counts.{by_lt}
use Rattle.linked_hash_map.specs.declared.map.Record.{Record}
use Rattle.linked_hash_map.specs.Model.{has, without, Distinct}
use Rattle.lazy_heap_model.specs.Model.{Heap, entry_of, live, from_live, stale_before, live_entries, opened, rebuilt, numbered, renumbered, pushed, removed, peeked, popped_from, popped, cleared}
use Rattle.lazy_heap.specs.Valid.{Falling, Valid}
use Rattle.binary_heap.proofs.Counts.{Is, same, other, which, is_same, count_mem}
use Rattle.binary_heap.proofs.Sorting.{insert_count, insert_cases, insert_sorted, sort_length, sort_count, sort_sorted, sort_mem}
use Rattle.lazy_heap.proofs.Helds.{missing_key, mem_without, length_without_le, missing_without, distinct_without, falling_without, falling_below, held_live}

-- entries that differ are not the same
pub is_other : (e x : Entry) → (e ≡ x → ⊥) → is e x ≡ 0
is_other e x d = go (which e x)
  where
    go : Is e x → is e x ≡ 0
    go (same q _) = absurd (d q)
    go (other _ z) = z

count_none : (e : Entry) (l : List Entry) → (Memᴰ e l → ⊥) → count e l ≡ 0
count_none e l none = by_lt 0 (count e l) (λ h. absurd (none (count_mem e l h))) (λ h. omega arith)

sorted_none : Sorted []
unfolding Sorted
sorted_none = tt

pub sorted_cons : (e : Entry) (es : List Entry) → Sorted (e ∷ es) → ((x : Entry) → Memᴰ x es → le e x ≡ true) × Sorted es
unfolding Sorted
sorted_cons e es s = s

count_cons : (e x : Entry) (es : List Entry) → count e (x ∷ es) ≡ is e x + count e es
unfolding count
count_cons e x es = refl

-- ---- the live entries alone
mem_map : (f : Record → Entry) (held : List Record) (e : Entry) → Memᴰ e (map f held) → (r : Record) × (Memᴰ r held × (e ≡ f r))
mem_map f [] e q = absurd (not-nil q)
mem_map f (x ∷ held) e q = ⊎_elim (λ h. (x, (head refl, h))) (λ t. let o = mem_map f held e t in (o.0, (tail o.1.0, o.1.1))) (cases_cons q)

-- with different keys each has one entry among them
one_each : (held : List Record) → Distinct held → (r : Record) → Memᴰ r held → count (entry_of r) (map entry_of held) ≡ 1
unfolding count
one_each [] d r q = absurd (not-nil q)
one_each (x ∷ held) d r q = ⊎_elim here (λ t. there t (one_each held d.1 r t)) (cases_cons q)
  where
    others : (e : Entry) → Memᴰ e (map entry_of held) → e.key ≡ r.key → r.key ≡ x.key → ⊥
    others e m k h = let o = mem_map entry_of held e m in missing_key x.key held d.0 o.0 o.1.0 (ap (λ (y : Entry). y.key) (sym o.1.1) ∙ k ∙ h)

    here : r ≡ x → count (entry_of r) (map entry_of (x ∷ held)) ≡ 1
    here h =
        let k : r.key ≡ x.key = ap (λ (y : Record). y.key) h in
        omega (arith, is_same {e = entry_of r} {x = entry_of x} (ap entry_of h), count_none (entry_of r) (map entry_of held) (λ m. others (entry_of r) m refl k))

    there : Memᴰ r held → count (entry_of r) (map entry_of held) ≡ 1 → count (entry_of r) (map entry_of (x ∷ held)) ≡ 1
    there t ih = omega (arith, ih, is_other (entry_of r) (entry_of x) (λ e. missing_key x.key held d.0 r t (ap (λ (y : Entry). y.key) e)))

pub live_length : (held : List Record) → length (live_entries held) ≡ length held
live_length held = sort_length (map entry_of held) ∙ length-map held entry_of

-- the numbers of held keys are below a bound, and so are those of their entries
live_below : (b : ℕ) (held : List Record) → Falling b held → (e : Entry) → Memᴰ e (live_entries held) → e.seq < b
live_below b held f e m =
    let o = mem_map entry_of held e (sort_mem e (map entry_of held) m) in
    let q : e.seq ≡ o.0.second = ap (λ (y : Entry). y.seq) o.1.1 in
    omega (arith, falling_below b held f o.0 o.1.0)

pub valid_rebuilt : (h : Heap) → Valid h → Valid (rebuilt h)
unfolding rebuilt
valid_rebuilt h v = record {
  keys = v.keys;
  few = v.few;
  numbers = v.numbers;
  below = live_below h.next h.held v.numbers;
  once = λ r q. sort_count (entry_of r) (map entry_of h.held) ∙ one_each h.held v.keys r q;
  sorted = sort_sorted (map entry_of h.held);
}

-- ---- renumbering
pub numbered_length : (held : List Record) → length (numbered held) ≡ length held
unfolding numbered
numbered_length [] = refl
numbered_length (r ∷ held) = ap suc (numbered_length held)

pub numbered_has : (k : ℕ) (held : List Record) → has k (numbered held) ≡ has k held
unfolding numbered has
numbered_has k [] = refl
numbered_has k (r ∷ held) = rw (numbered_has k held)

numbered_distinct : (held : List Record) → Distinct held → Distinct (numbered held)
unfolding numbered
numbered_distinct [] d = tt
numbered_distinct (r ∷ held) d = (numbered_has r.key held ∙ d.0, numbered_distinct held d.1)

pub numbered_falling : (held : List Record) → Falling (length held) (numbered held)
unfolding numbered
numbered_falling [] = tt
numbered_falling (r ∷ held) = (omega arith, numbered_falling held)

pub valid_renumbered : (h : Heap) → Valid h → Valid (renumbered h)
unfolding renumbered
valid_renumbered h v = record {
  keys = numbered_distinct h.held v.keys;
  few = rw (numbered_length h.held) v.few;
  numbers = numbered_falling h.held;
  below = live_below (length h.held) (numbered h.held) (numbered_falling h.held);
  once = λ r q. sort_count (entry_of r) (map entry_of (numbered h.held)) ∙ one_each (numbered h.held) (numbered_distinct h.held v.keys) r q;
  sorted = sort_sorted (map entry_of (numbered h.held));
}

-- ---- a push: its number is new, so that no entry was its own before, and no other's is
pub valid_pushed : (k s : ℕ) (h : Heap) → Valid h → length (without k h.held) < h.limit → Valid (pushed k s h)
unfolding pushed
valid_pushed k s h v room = record {
  keys = (missing_without k h.held, distinct_without k h.held v.keys);
  few = omega arith;
  numbers = (omega arith, falling_without k h.next h.held v.numbers);
  below = λ e m. ⊎_elim (λ q. let n : e.seq ≡ h.next = ap (λ (y : Entry). y.seq) q in omega arith) (λ t. omega (arith, v.below e t)) (insert_cases e (entry_of x) h.entries m);
  once = λ r q. ⊎_elim (new r) (old r) (cases_cons q);
  sorted = insert_sorted (entry_of x) h.entries v.sorted;
}
  where
    x : Record
    x = record { key = k; first = s; second = h.next }

    fresh : (e : Entry) → e.seq ≡ h.next → count e h.entries ≡ 0
    fresh e q = count_none e h.entries (λ m. omega (arith, v.below e m))

    new : (r : Record) → r ≡ x → count (entry_of r) (insert (entry_of x) h.entries) ≡ 1
    new r q = omega (arith, insert_count (entry_of r) (entry_of x) h.entries, is_same {e = entry_of r} {x = entry_of x} (ap entry_of q), fresh (entry_of r) (ap (λ (y : Record). y.second) q))

    old : (r : Record) → Memᴰ r (without k h.held) → count (entry_of r) (insert (entry_of x) h.entries) ≡ 1
    old r q =
        let o = mem_without k h.held r q in
        let b : r.second < h.next = falling_below h.next h.held v.numbers r o.0 in
        omega (arith, insert_count (entry_of r) (entry_of x) h.entries, v.once r o.0, is_other (entry_of r) (entry_of x) (λ e. let n : r.second ≡ h.next = ap (λ (y : Entry). y.seq) e in omega arith))

-- ---- a key is taken out, and its entry left behind
pub valid_removed : (k : ℕ) (h : Heap) → Valid h → Valid (removed k h)
unfolding removed
valid_removed k h v = record {
  keys = distinct_without k h.held v.keys;
  few = omega (arith, length_without_le k h.held, v.few);
  numbers = falling_without k h.next h.held v.numbers;
  below = v.below;
  once = λ r q. v.once r (mem_without k h.held r q).0;
  sorted = v.sorted;
}

pub valid_opened : (n f s : ℕ) → Valid (opened n f s)
unfolding opened
valid_opened n f s = record {
  keys = tt;
  few = omega arith;
  numbers = tt;
  below = λ e m. absurd (not-nil m);
  once = λ r q. absurd (not-nil q);
  sorted = sorted_none;
}

pub valid_cleared : (h : Heap) → Valid h → Valid (cleared h)
unfolding cleared
valid_cleared h v = record {
  keys = tt;
  few = omega arith;
  numbers = tt;
  below = λ e m. absurd (not-nil m);
  once = λ r q. absurd (not-nil q);
  sorted = sorted_none;
}

-- ---- stale entries are discarded from the front
module _ (held : List Record) where
  mem_from : (es : List Entry) (e : Entry) → Memᴰ e (from_live held es) → Memᴰ e es
  unfolding from_live
  mem_from [] e m = m
  mem_from (x ∷ es) e m = go (live held x) m (mem_from es e)
    where
      go : (b : Bool) → Memᴰ e (cond b (x ∷ es) (from_live held es)) → (Memᴰ e (from_live held es) → Memᴰ e es) → Memᴰ e (x ∷ es)
      go true m ih = m
      go false m ih = tail (ih m)

  -- a live entry is not among them
  count_from : (es : List Entry) (e : Entry) → live held e ≡ true → count e (from_live held es) ≡ count e es
  unfolding from_live count
  count_from [] e l = refl
  count_from (x ∷ es) e l = go (live held x) refl (count_from es e l)
    where
      go : (b : Bool) → live held x ≡ b → count e (from_live held es) ≡ count e es → count e (cond b (x ∷ es) (from_live held es)) ≡ is e x + count e es
      go true q ih = refl
      go false q ih = ih ∙ omega (arith, is_other e x (λ d. true≢false (sym l ∙ ap (live held) d ∙ q)))

  pub sorted_from : (es : List Entry) → Sorted es → Sorted (from_live held es)
  unfolding from_live Sorted
  sorted_from [] s = s
  sorted_from (x ∷ es) s = go (live held x) (sorted_from es s.1)
    where
      go : (b : Bool) → Sorted (from_live held es) → Sorted (cond b (x ∷ es) (from_live held es))
      go true ih = s
      go false ih = ih

  -- how many, and how many are left
  pub from_length : (es : List Entry) → stale_before held es + length (from_live held es) ≡ length es
  unfolding stale_before from_live
  from_length [] = refl
  from_length (x ∷ es) = go (live held x) (from_length es)
    where
      go : (b : Bool) → stale_before held es + length (from_live held es) ≡ length es → cond b 0 (1 + stale_before held es) + length (cond b (x ∷ es) (from_live held es)) ≡ length (x ∷ es)
      go true ih = omega arith
      go false ih = omega arith

  -- the first that is left is live
  pub first_live : (es : List Entry) (e : Entry) (rest : List Entry) → from_live held es ≡ e ∷ rest → live held e ≡ true
  unfolding from_live
  first_live [] e rest q = cc
  first_live (x ∷ es) e rest q = go (live held x) refl q (first_live es e rest)
    where
      go : (b : Bool) → live held x ≡ b → cond b (x ∷ es) (from_live held es) ≡ e ∷ rest → (from_live held es ≡ e ∷ rest → live held e ≡ true) → live held e ≡ true
      go true l q ih = let same : x ≡ e = cc in ap (live held) (sym same) ∙ l
      go false l q ih = ih q

pub valid_peeked : (h : Heap) → Valid h → Valid (peeked h)
unfolding peeked
valid_peeked h v = record {
  keys = v.keys;
  few = v.few;
  numbers = v.numbers;
  below = λ e m. v.below e (mem_from h.held h.entries e m);
  once = λ r q. count_from h.held h.entries (entry_of r) (held_live h.held v.keys r q) ∙ v.once r q;
  sorted = sorted_from h.held h.entries v.sorted;
}

-- ---- the first live entry is taken, and its key
pub valid_popped : (h : Heap) → Valid h → Valid (popped h)
unfolding popped
valid_popped h v = go (from_live h.held h.entries) refl
  where
    go : (es : List Entry) → from_live h.held h.entries ≡ es → Valid (popped_from es h)
    go [] q = valid_peeked h v
    go (e ∷ es) q = record {
      keys = distinct_without e.key h.held v.keys;
      few = omega (arith, length_without_le e.key h.held, v.few);
      numbers = falling_without e.key h.next h.held v.numbers;
      below = λ x m. v.below x (mem_from h.held h.entries x (rw q (tail m)));
      once = once;
      sorted = left.1;
    }
      where
        left : ((x : Entry) → Memᴰ x es → le e x ≡ true) × Sorted es
        left = sorted_cons e es (rw q at (sorted_from h.held h.entries v.sorted))

        once : (r : Record) → Memᴰ r (without e.key h.held) → count (entry_of r) es ≡ 1
        once r m =
            let o = mem_without e.key h.held r m in
            let all : count (entry_of r) (e ∷ es) ≡ 1 = ap (count (entry_of r)) (sym q) ∙ count_from h.held h.entries (entry_of r) (held_live h.held v.keys r o.0) ∙ v.once r o.0 in
            omega (arith, all, count_cons (entry_of r) e es, is_other (entry_of r) e (λ d. o.1 (ap (λ (y : Entry). y.key) d)))
