-- A purge takes one expired deadline after the other: what is still to do stays the same with each, and with
-- none left it is a look at the next due.
use mathlib.Core.Path.{◌≡◌, refl, sym, ap, ◌∙◌}
use mathlib.Core.Bool.{Bool, true, false, cond, ◌&&◌}
use mathlib.Core.Logic.{⊎_elim}
use mathlib.Core.List.{List, [], ◌∷◌, Memᴰ}
use mathlib.Core.List.Memᴰ.{cases_cons}
use mathlib.Core.List.Memᴰ.{head}
use mathlib.Core.List.Memᴰ.{not-nil}
use mathlib.Core.List.Memᴰ.{tail}
use Rattle.std.specs.Prelude.{Option, Some, None}
use Prim.Native.Nat.{ℕ, ◌+◌, ◌<◌, ◌≤◌}
use native.Mathlib.Omega.{arith}
use lib.Dec.{eqb, ltb, leb}
use lib.ListN.{length}
use borrow.Author.Tests.{ne_eqb, eqb-true, lt-ltb, le-ltb, leb-true, leb-false}
use Rattle.time.specs.declared.tick.Tick.{Tick}
use Rattle.time.specs.Deadline.{is_expired_at}
use Rattle.binary_heap.specs.declared.entries.Entry.{Entry}
use Rattle.rings.proofs.Counts.{by_eq}
use Rattle.linked_hash_map.specs.declared.map.Record.{Record}
use Rattle.linked_hash_map.specs.Model as held
use Rattle.lazy_heap_model.specs.Model.{Heap, entry_of, matches, live, stale_before, from_live, count_at_most, heap_len, peeked, popped, popped_from, stale}
use Rattle.lazy_heap.specs.Valid.{Valid}
use Rattle.lazy_heap.proofs.Helds.{lookup_mem, live_held}
use Rattle.lazy_heap.proofs.Stepping.{same_heap}
use Rattle.lazy_heap.proofs.Valid.{first_live}
use Rattle.fast_lru_model.specs.Model.{Items}
use Rattle.fast_lru_model.specs.Model as list
use Rattle.fast_lru.proofs.Lists as lists
use Rattle.expiration_index.specs.Model.{Pair, Pairs, next, less, if_expired, next_expired, expired_count, unexpired, Distinct}
use Rattle.expiration_index.specs.Model as pairs
use Rattle.expiration_index.specs.Index.{pair_of, deadlines}
use Rattle.expiration_index.proofs.Pairs.{expired_deadlines}
use Rattle.expiration_index.proofs.Nexts.{Best, empty, first, best_next}
use Rattle.expiration_index.proofs.Expired.{none_expired, unexpired_all, taken_count, taken_unexpired}
use Rattle.expiring_model.specs.Model.{drop_expired, pairs_after, without_expired}
use Rattle.expiring_model.specs.Discards.{expired_before, from_unexpired, held_unexpired, purged, discards, heap_after}

-- ---- the held key of a live entry
lookup_other : (k j : ℕ) → (j ≡ k → ⊥) → (l : held.Model) → held.lookup j (held.without k l) ≡ held.lookup j l
unfolding held.lookup held.without
lookup_other k j other [] = refl
lookup_other k j other (x ∷ l) = go (eqb x.key k) refl (lookup_other k j other l)
  where
    go : (b : Bool) → eqb x.key k ≡ b → held.lookup j (held.without k l) ≡ held.lookup j l → held.lookup j (cond b (held.without k l) (x ∷ held.without k l)) ≡ cond (eqb x.key j) (Some x) (held.lookup j l)
    go true e ih = rw (ne_eqb x.key j (λ q. other (sym q ∙ eqb-true x.key k e))) ih
    go false e ih = ap (λ (o : Option Record). cond (eqb x.key j) (Some x) o) ih

lookup_gone : (k : ℕ) (l : held.Model) → held.lookup k (held.without k l) ≡ None
unfolding held.lookup held.without
lookup_gone k [] = refl
lookup_gone k (x ∷ l) = go (eqb x.key k) refl (lookup_gone k l)
  where
    go : (b : Bool) → eqb x.key k ≡ b → held.lookup k (held.without k l) ≡ None → held.lookup k (cond b (held.without k l) (x ∷ held.without k l)) ≡ None
    go true e ih = ih
    go false e ih = rw e ih

live_other : (k : ℕ) (l : held.Model) (e : Entry) → (e.key ≡ k → ⊥) → live (held.without k l) e ≡ live l e
unfolding live
live_other k l e other = rw (lookup_other k e.key other l)

live_gone : (k : ℕ) (l : held.Model) (e : Entry) → e.key ≡ k → live (held.without k l) e ≡ false
unfolding live
live_gone k l e q = ap (λ (j : ℕ). matches (held.lookup j (held.without k l)) e) q ∙ ap (λ (o : Option Record). matches o e) (lookup_gone k l)

-- ---- the entries before the first live one that is not expired
both_false : (b : Bool) → (b && false) ≡ false
both_false true = refl
both_false false = refl

module _ (t : Tick) where
  -- an entry at which a purge stops
  abbrev stops : List Record → Entry → Bool
  stops l e = live l e && ltb t.0 e.score

  -- they depend on nothing else
  module _ (l m : List Record) (same : (e : Entry) → stops l e ≡ stops m e) where
    before_same : (es : List Entry) → expired_before t l es ≡ expired_before t m es
    unfolding expired_before
    before_same [] = refl
    before_same (e ∷ es) = rw (same e, before_same es)

    from_same : (es : List Entry) → from_unexpired t l es ≡ from_unexpired t m es
    unfolding from_unexpired
    from_same [] = refl
    from_same (e ∷ es) = rw (same e, from_same es)

  module _ (l : List Record) where
    -- where every live entry stops it, they are the stale ones
    module _ (all : (e : Entry) → stops l e ≡ live l e) where
      before_stale : (es : List Entry) → expired_before t l es ≡ stale_before l es
      unfolding expired_before stale_before
      before_stale [] = refl
      before_stale (e ∷ es) = rw (all e, before_stale es)

      from_live_lem : (es : List Entry) → from_unexpired t l es ≡ from_live l es
      unfolding from_unexpired from_live
      from_live_lem [] = refl
      from_live_lem (e ∷ es) = rw (all e, from_live_lem es)

    -- stale entries come first
    before_first : (es : List Entry) → expired_before t l es ≡ stale_before l es + expired_before t l (from_live l es)
    unfolding expired_before stale_before from_live
    before_first [] = refl
    before_first (e ∷ es) = go (live l e) refl (before_first es)
      where
        go : (b : Bool) → live l e ≡ b → expired_before t l es ≡ stale_before l es + expired_before t l (from_live l es) → cond (b && ltb t.0 e.score) 0 (1 + expired_before t l es) ≡ cond b 0 (1 + stale_before l es) + expired_before t l (cond b (e ∷ es) (from_live l es))
        go true q ih = rw q (omega arith)
        go false q ih = omega arith

    from_first : (es : List Entry) → from_unexpired t l es ≡ from_unexpired t l (from_live l es)
    unfolding from_unexpired from_live
    from_first [] = refl
    from_first (e ∷ es) = go (live l e) refl (from_first es)
      where
        go : (b : Bool) → live l e ≡ b → from_unexpired t l es ≡ from_unexpired t l (from_live l es) → cond (b && ltb t.0 e.score) (e ∷ es) (from_unexpired t l es) ≡ from_unexpired t l (cond b (e ∷ es) (from_live l es))
        go true q ih = rw q
        go false q ih = ih

    -- an expired one goes with them
    before_one : (e : Entry) (es : List Entry) → ltb t.0 e.score ≡ false → expired_before t l (e ∷ es) ≡ 1 + expired_before t l es
    unfolding expired_before
    before_one e es q = rw (q, both_false (live l e))

    from_one : (e : Entry) (es : List Entry) → ltb t.0 e.score ≡ false → from_unexpired t l (e ∷ es) ≡ from_unexpired t l es
    unfolding from_unexpired
    from_one e es q = rw (q, both_false (live l e))

    -- how many, and how many are left
    from_length : (es : List Entry) → expired_before t l es + length (from_unexpired t l es) ≡ length es
    unfolding expired_before from_unexpired
    from_length [] = refl
    from_length (e ∷ es) = go (stops l e) (from_length es)
      where
        go : (b : Bool) → expired_before t l es + length (from_unexpired t l es) ≡ length es → cond b 0 (1 + expired_before t l es) + length (cond b (e ∷ es) (from_unexpired t l es)) ≡ length (e ∷ es)
        go true ih = omega arith
        go false ih = omega arith

  -- ---- the held keys that are not expired
  held_less : (k : ℕ) (l : List Record) → ((r : Record) → Memᴰ r l → r.key ≡ k → ltb t.0 r.first ≡ false) → held_unexpired t l ≡ held_unexpired t (held.without k l)
  unfolding held_unexpired held.without
  held_less k [] early = refl
  held_less k (x ∷ l) early = go (eqb x.key k) refl (held_less k l (λ r m. early r (tail m)))
    where
      go : (b : Bool) → eqb x.key k ≡ b → held_unexpired t l ≡ held_unexpired t (held.without k l) → cond (ltb t.0 x.first) (x ∷ held_unexpired t l) (held_unexpired t l) ≡ held_unexpired t (cond b (held.without k l) (x ∷ held.without k l))
      go true e ih = rw (early x (head refl) (eqb-true x.key k e)) ih
      go false e ih = rw ih

  -- all of them, where none is expired
  all_later : (l : List Record) → count_at_most t.0 l ≡ 0 → (r : Record) → Memᴰ r l → ltb t.0 r.first ≡ true
  unfolding count_at_most
  all_later [] e r m = absurd (not-nil m)
  all_later (x ∷ l) e r m = go (leb x.first t.0) refl e (λ q. all_later l q r)
    where
      go : (b : Bool) → leb x.first t.0 ≡ b → cond b 1 0 + count_at_most t.0 l ≡ 0 → (count_at_most t.0 l ≡ 0 → Memᴰ r l → ltb t.0 r.first ≡ true) → ltb t.0 r.first ≡ true
      go true q w ih = absurd (omega arith)
      go false q w ih =
          ⊎_elim
          (λ s. ap (λ (y : Record). ltb t.0 y.first) s ∙ lt-ltb t.0 x.first (leb-false x.first t.0 q))
          (ih (omega arith))
          (cases_cons m)

  held_all : (l : List Record) → ((r : Record) → Memᴰ r l → ltb t.0 r.first ≡ true) → held_unexpired t l ≡ l
  unfolding held_unexpired
  held_all [] later = refl
  held_all (x ∷ l) later = rw (later x (head refl), held_all l (λ r m. later r (tail m)))

  -- ---- the heap
  module _ (h : Heap) where
    -- what is discarded and what is left is what there was
    pub purged_accounts : discards (drop_expired t) h + heap_len (heap_after (drop_expired t) h) ≡ heap_len h
    unfolding discards heap_after purged
    purged_accounts = from_length h.held h.entries

    -- with no next one expired, a purge discards what a look does
    module _ (e : next_expired t (deadlines h) ≡ None) where
      later : (r : Record) → Memᴰ r h.held → ltb t.0 r.first ≡ true
      later = all_later h.held (expired_deadlines t h ∙ none_expired t (deadlines h) e)

      at_live : (x : Entry) → stops h.held x ≡ live h.held x
      at_live x = go (live h.held x) refl
        where
          go : (b : Bool) → live h.held x ≡ b → (b && ltb t.0 x.score) ≡ b
          go true q = let o = live_held h.held x q in ap (λ (y : Entry). ltb t.0 y.score) (sym o.1.1) ∙ later o.0 o.1.0
          go false q = refl

      pub purged_none : heap_after (drop_expired t) h ≡ peeked h
      unfolding heap_after purged peeked
      purged_none = same_heap refl refl refl (held_all h.held later) (from_live_lem h.held at_live h.entries)

      pub discards_none : discards (drop_expired t) h ≡ stale h
      unfolding discards
      discards_none = before_stale h.held at_live h.entries

    -- else it discards the stale ones, takes the next due, and goes on from there
    module _ (v : Valid h) {p : Pair} (e : next_expired t (deadlines h) ≡ Some p) where
      module _ (r : Record) (es : List Entry) (n : next (deadlines h) ≡ Some (pair_of r)) (q : from_live h.held h.entries ≡ entry_of r ∷ es) where
        expired : r.first ≤ t.0
        unfolding next_expired is_expired_at
        expired = go (leb r.first t.0) refl (ap (if_expired t) (sym n) ∙ e)
          where
            go : (b : Bool) → leb r.first t.0 ≡ b → cond b (Some (pair_of r)) None ≡ Some p → r.first ≤ t.0
            go true w s = leb-true r.first t.0 w
            go false w s = absurd (let z : ◌≡◌ {A = ℕ} 0 1 = cc in omega arith)

        -- the key has that deadline alone
        early : (x : Record) → Memᴰ x h.held → x.key ≡ r.key → ltb t.0 x.first ≡ false
        early x m k =
            let o = live_held h.held (entry_of r) (first_live h.held h.entries (entry_of r) es q) in
            let a : x.key ≡ o.0.key = k ∙ ap (λ (y : Entry). y.key) (sym o.1.1) in
            let w : Some x ≡ Some o.0 = sym (lookup_mem h.held v.keys x m) ∙ ap (λ (j : ℕ). held.lookup j h.held) a ∙ lookup_mem h.held v.keys o.0 o.1.0 in
            let s : x ≡ o.0 = cc in
            let f : x.first ≡ r.first = ap (λ (y : Record). y.first) s ∙ ap (λ (y : Entry). y.score) o.1.1 in
            le-ltb t.0 x.first (omega (arith, expired))

        agree : (x : Entry) → stops h.held x ≡ stops (held.without r.key h.held) x
        agree x = by_eq x.key r.key same (λ o. rw (live_other r.key h.held x o))
          where
            same : x.key ≡ r.key → stops h.held x ≡ stops (held.without r.key h.held) x
            same k = rw (live_gone r.key h.held x k) (go (live h.held x) refl)
              where
                go : (b : Bool) → live h.held x ≡ b → (b && ltb t.0 x.score) ≡ false
                go true w =
                    let o = live_held h.held x w in
                    ap (λ (y : Entry). ltb t.0 y.score) (sym o.1.1) ∙ early o.0 o.1.0 (ap (λ (y : Entry). y.key) o.1.1 ∙ k)
                go false w = refl

        passed : ltb t.0 (entry_of r).score ≡ false
        passed = le-ltb t.0 r.first expired

        from_rest : from_unexpired t h.held h.entries ≡ from_unexpired t (held.without r.key h.held) es
        from_rest =
            from_first h.held h.entries
            ∙ ap (from_unexpired t h.held) q
            ∙ from_one h.held (entry_of r) es passed
            ∙ from_same h.held (held.without r.key h.held) agree es

        before_rest : expired_before t h.held h.entries ≡ stale h + 1 + expired_before t (held.without r.key h.held) es
        before_rest =
            omega (arith, before_first h.held h.entries, ap (expired_before t h.held) q, before_one h.held (entry_of r) es passed, before_same h.held (held.without r.key h.held) agree es)

        heap_rest : heap_after (drop_expired t) h ≡ heap_after (drop_expired t) (popped_from (entry_of r ∷ es) h)
        unfolding heap_after purged
        heap_rest = same_heap refl refl refl (held_less r.key h.held early) from_rest

        discards_rest : discards (drop_expired t) h ≡ stale h + 1 + discards (drop_expired t) (popped_from (entry_of r ∷ es) h)
        unfolding discards
        discards_rest = before_rest

      nothing_next : next (deadlines h) ≡ None → ⊥
      unfolding next_expired
      nothing_next n = let w : None ≡ Some p = ap (if_expired t) (sym n) ∙ e in let z : ◌≡◌ {A = ℕ} 0 1 = cc in omega arith

      pub purged_some : heap_after (drop_expired t) h ≡ heap_after (drop_expired t) (popped h)
      unfolding popped
      purged_some = go (best_next h v)
        where
          go : Best h → heap_after (drop_expired t) h ≡ heap_after (drop_expired t) (popped_from (from_live h.held h.entries) h)
          go (empty n q) = absurd (nothing_next n)
          go (first r es n q) = heap_rest r es n q ∙ sym (ap (λ (l : List Entry). heap_after (drop_expired t) (popped_from l h)) q)

      pub discards_some : discards (drop_expired t) h ≡ stale h + 1 + discards (drop_expired t) (popped h)
      unfolding popped
      discards_some = go (best_next h v)
        where
          go : Best h → discards (drop_expired t) h ≡ stale h + 1 + discards (drop_expired t) (popped_from (from_live h.held h.entries) h)
          go (empty n q) = absurd (nothing_next n)
          go (first r es n q) = discards_rest r es n q ∙ sym (ap (λ (l : List Entry). stale h + 1 + discards (drop_expired t) (popped_from l h)) q)

-- ---- the values
without_twice : (k j : ℕ) (s : Items) → list.without k (list.without j s) ≡ list.without j (list.without k s)
unfolding list.without
without_twice k j [] = refl
without_twice k j (x ∷ s) = go (eqb x.key k) refl (eqb x.key j) refl (without_twice k j s)
  where
    go : (a : Bool) → eqb x.key k ≡ a → (b : Bool) → eqb x.key j ≡ b → list.without k (list.without j s) ≡ list.without j (list.without k s) → list.without k (cond b (list.without j s) (x ∷ list.without j s)) ≡ list.without j (cond a (list.without k s) (x ∷ list.without k s))
    go true p true q ih = ih
    go true p false q ih = rw p ih
    go false p true q ih = rw q ih
    go false p false q ih = rw (p, q) (ap (λ (y : Items). x ∷ y) ih)

without_again : (k : ℕ) (s : Items) → list.without k (list.without k s) ≡ list.without k s
without_again k s = lists.without_missing k (list.without k s) (lists.has_without k s)

module _ (t : Tick) where
  -- where a key's value goes anyway, its own pairs do not matter
  without_expired_lem : (k : ℕ) (l : Pairs) (s : Items) → list.without k (without_expired t l s) ≡ without_expired t (pairs.without k l) (list.without k s)
  unfolding without_expired pairs.without
  without_expired_lem k [] s = refl
  without_expired_lem k (p ∷ l) s = go (eqb p.key k) refl (is_expired_at p.deadline t) refl (without_expired_lem k l s)
    where
      go : (a : Bool) → eqb p.key k ≡ a → (b : Bool) → is_expired_at p.deadline t ≡ b → list.without k (without_expired t l s) ≡ without_expired t (pairs.without k l) (list.without k s) → list.without k (cond b (list.without p.key (without_expired t l s)) (without_expired t l s)) ≡ without_expired t (cond a (pairs.without k l) (p ∷ pairs.without k l)) (list.without k s)
      go true q true w ih = ap (λ (j : ℕ). list.without k (list.without j (without_expired t l s))) (eqb-true p.key k q) ∙ without_again k (without_expired t l s) ∙ ih
      go true q false w ih = ih
      go false q true w ih = rw w (without_twice k p.key (without_expired t l s) ∙ ap (list.without p.key) ih)
      go false q false w ih = rw w ih

  -- where one of them is expired, its value has gone with it
  expired_gone : (k : ℕ) (l : Pairs) (s : Items) → expired_count t (pairs.without k l) < expired_count t l → list.without k (without_expired t l s) ≡ without_expired t l s
  unfolding without_expired pairs.without expired_count
  expired_gone k [] s h = absurd (omega arith)
  expired_gone k (p ∷ l) s h = go (eqb p.key k) refl (is_expired_at p.deadline t) refl h (expired_gone k l s)
    where
      go : (a : Bool) → eqb p.key k ≡ a → (b : Bool) → is_expired_at p.deadline t ≡ b → expired_count t (cond a (pairs.without k l) (p ∷ pairs.without k l)) < cond b 1 0 + expired_count t l → (expired_count t (pairs.without k l) < expired_count t l → list.without k (without_expired t l s) ≡ without_expired t l s) → list.without k (cond b (list.without p.key (without_expired t l s)) (without_expired t l s)) ≡ cond b (list.without p.key (without_expired t l s)) (without_expired t l s)
      go true q true w g ih = rw (eqb-true p.key k q) (without_again k (without_expired t l s))
      go true q false w g ih = ih (omega arith)
      go false q true w g ih = without_twice k p.key (without_expired t l s) ∙ ap (list.without p.key) (ih (let u = rw w at g in omega arith))
      go false q false w g ih = ih (let u = rw w at g in omega arith)

  stored_all : (s : Items) (l : Pairs) → expired_count t l ≡ 0 → without_expired t l s ≡ s
  unfolding without_expired expired_count
  stored_all s [] q = refl
  stored_all s (p ∷ l) q = go (is_expired_at p.deadline t) q (stored_all s l)
    where
      go : (b : Bool) → cond b 1 0 + expired_count t l ≡ 0 → (expired_count t l ≡ 0 → without_expired t l s ≡ s) → cond b (list.without p.key (without_expired t l s)) (without_expired t l s) ≡ s
      go true w ih = absurd (omega arith)
      go false w ih = ih (omega arith)

  -- ---- the lists
  pub unexpired_length : (l : Pairs) → length (unexpired t l) + expired_count t l ≡ length l
  unfolding unexpired expired_count
  unexpired_length [] = refl
  unexpired_length (p ∷ l) = go (is_expired_at p.deadline t) (unexpired_length l)
    where
      go : (b : Bool) → length (unexpired t l) + expired_count t l ≡ length l → length (cond b (unexpired t l) (p ∷ unexpired t l)) + (cond b 1 0 + expired_count t l) ≡ length (p ∷ l)
      go true ih = omega arith
      go false ih = omega arith

  pub expired_few : (l : Pairs) → expired_count t l ≤ length l
  expired_few l = omega (arith, unexpired_length l)

  -- with no next one expired, nothing is to be done
  module _ (l : Pairs) (e : next_expired t l ≡ None) where
    pub count_none : expired_count t l ≡ 0
    count_none = none_expired t l e

    pub pairs_none : pairs_after (drop_expired t) l ≡ l
    unfolding pairs_after
    pairs_none = unexpired_all t l count_none

    pub stored_none : (s : Items) → without_expired t l s ≡ s
    stored_none s = stored_all s l count_none

  -- else the next one's pair and value go, and the rest is left to do
  module _ (l : Pairs) (d : Distinct l) {p : Pair} (e : next_expired t l ≡ Some p) where
    pub taken_is : pairs.without_expired t l ≡ pairs.without p.key l
    unfolding pairs.without_expired
    taken_is = ap (λ (o : Option Pair). less o l) e

    pub count_some : expired_count t l ≡ 1 + expired_count t (pairs.without p.key l)
    count_some = omega (arith, taken_count t l p e d, ap (expired_count t) taken_is)

    pub pairs_some : pairs_after (drop_expired t) l ≡ pairs_after (drop_expired t) (pairs.without p.key l)
    unfolding pairs_after
    pairs_some = sym (taken_unexpired t l p e d) ∙ ap (unexpired t) taken_is

    pub stored_some : (s : Items) → without_expired t l s ≡ without_expired t (pairs.without p.key l) (list.without p.key s)
    stored_some s = sym (expired_gone p.key l s (omega (arith, count_some))) ∙ without_expired_lem p.key l s
