-- The heap's records read as pairs, in the other direction: what the heap does to its records is done to the pairs.
use mathlib.Core.Path.{◌≡◌, refl, sym, ap, ◌∙◌}
use mathlib.Core.Bool.{Bool, true, false, true≢false, cond, ◌||◌, or-true, or-false}
use mathlib.Core.List.{[], ◌∷◌, ◌++◌, append-nil}
use Prim.Native.Nat.{ℕ, ◌+◌, ◌-◌, ◌^◌}
use native.Mathlib.Omega.{arith}
use lib.Dec.{eqb}
use lib.ListN.{length, length-append}
use borrow.Author.Tests.{ne_eqb, eqb-true, eqb-false}
use Rattle.std.specs.Prelude.{Option, Some, None, option_map, is_some}
use Rattle.time.specs.declared.tick.Tick.{Tick}
use Rattle.time.specs.Deadline.{is_expired_at}
use Rattle.linked_hash_map.specs.declared.map.Record.{Record}
use Rattle.linked_hash_map.specs.Model as held
use Rattle.linked_hash_map.proofs.Laws.{without_none}
use Rattle.lazy_heap_model.specs.Model.{Heap, count_at_most, at_most, held_score, too_many, rebuilt, numbered, renumbered, before_push, pushed, maybe_rebuilt, updated, removed, peeked, cleared, opened}
use Rattle.lazy_heap_model.specs.Model as lazy
use Rattle.expiration_index.specs.Model.{Pair, Pairs, lookup, has, without, deadline_of, set, is_full, expired_count, Distinct}
use Rattle.expiration_index.specs.Model as model
use Rattle.expiration_index.specs.Answers.{tick, deadline_in}
use Rattle.expiration_index.specs.Index.{pair_of, pairs, deadlines}

-- ---- lists of pairs, one behind the other
module _ (k : ℕ) where
  pub has_append : (l m : Pairs) → has k (l ++ m) ≡ (has k l || has k m)
  unfolding has
  has_append [] m = refl
  has_append (p ∷ l) m = go (eqb p.key k) (has_append l m)
    where
      go : (b : Bool) → has k (l ++ m) ≡ (has k l || has k m) → (b || has k (l ++ m)) ≡ ((b || has k l) || has k m)
      go true ih = refl
      go false ih = ih

  pub without_append : (l m : Pairs) → without k (l ++ m) ≡ without k l ++ without k m
  unfolding without
  without_append [] m = refl
  without_append (p ∷ l) m = go (eqb p.key k) (without_append l m)
    where
      go : (b : Bool) → without k (l ++ m) ≡ without k l ++ without k m → cond b (without k (l ++ m)) (p ∷ without k (l ++ m)) ≡ cond b (without k l) (p ∷ without k l) ++ without k m
      go true ih = ih
      go false ih = ap (λ (x : Pairs). p ∷ x) ih

  lookup_past : (l m : Pairs) → has k l ≡ false → lookup k (l ++ m) ≡ lookup k m
  unfolding has lookup
  lookup_past [] m h = refl
  lookup_past (p ∷ l) m h = go (eqb p.key k) h (lookup_past l m)
    where
      go : (b : Bool) → (b || has k l) ≡ false → (has k l ≡ false → lookup k (l ++ m) ≡ lookup k m) → cond b (Some p) (lookup k (l ++ m)) ≡ lookup k m
      go true q ih = absurd (true≢false q)
      go false q ih = ih q

  lookup_before : (l m : Pairs) → lookup k m ≡ None → lookup k (l ++ m) ≡ lookup k l
  unfolding lookup
  lookup_before [] m h = h
  lookup_before (p ∷ l) m h = ap (λ (o : Option Pair). cond (eqb p.key k) (Some p) o) (lookup_before l m h)

pub distinct_append : (l : Pairs) (p : Pair) → Distinct l → has p.key l ≡ false → Distinct (l ++ (p ∷ []))
unfolding has
distinct_append [] p d h = (refl, tt)
distinct_append (q ∷ l) p d h = go (eqb q.key p.key) refl h (distinct_append l p d.1)
  where
    go : (b : Bool) → eqb q.key p.key ≡ b → (b || has p.key l) ≡ false → (has p.key l ≡ false → Distinct (l ++ (p ∷ []))) → Distinct (q ∷ (l ++ (p ∷ [])))
    go true e u ih = absurd (true≢false u)
    go false e u ih = (has_append q.key l (p ∷ []) ∙ rw (d.0, ne_eqb p.key q.key (λ w. eqb-false _ _ e (sym w))), ih u)

-- ---- records
pub length_pairs : (l : held.Model) → length (pairs l) ≡ length l
unfolding pairs
length_pairs [] = refl
length_pairs (r ∷ l) = omega (arith, length-append (pairs l) (pair_of r ∷ []), length_pairs l)

pub has_pairs : (k : ℕ) (l : held.Model) → has k (pairs l) ≡ held.has k l
unfolding pairs held.has has
has_pairs k [] = refl
has_pairs k (r ∷ l) = has_append k (pairs l) (pair_of r ∷ []) ∙ go (eqb r.key k) (has_pairs k l)
  where
    go : (b : Bool) → has k (pairs l) ≡ held.has k l → (has k (pairs l) || (b || false)) ≡ (b || held.has k l)
    go true ih = or-true (has k (pairs l))
    go false ih = or-false (has k (pairs l)) ∙ ih

pub without_pairs : (k : ℕ) (l : held.Model) → pairs (held.without k l) ≡ without k (pairs l)
unfolding pairs held.without without
without_pairs k [] = refl
without_pairs k (r ∷ l) = go (eqb r.key k) (without_pairs k l) ∙ sym (without_append k (pairs l) (pair_of r ∷ []))
  where
    go : (b : Bool) → pairs (held.without k l) ≡ without k (pairs l) → pairs (cond b (held.without k l) (r ∷ held.without k l)) ≡ without k (pairs l) ++ cond b [] (pair_of r ∷ [])
    go true ih = ih ∙ sym (append-nil (without k (pairs l)))
    go false ih = ap (λ (x : Pairs). x ++ (pair_of r ∷ [])) ih

pub distinct_pairs : (l : held.Model) → held.Distinct l → Distinct (pairs l)
unfolding pairs
distinct_pairs [] d = tt
distinct_pairs (r ∷ l) d = distinct_append (pairs l) (pair_of r) (distinct_pairs l d.1) (has_pairs r.key l ∙ d.0)

numbered_pairs : (l : held.Model) → pairs (numbered l) ≡ pairs l
unfolding pairs numbered
numbered_pairs [] = refl
numbered_pairs (r ∷ l) = ap (λ (x : Pairs). x ++ (pair_of r ∷ [])) (numbered_pairs l)

-- ---- what a key holds
lookup_pairs : (k : ℕ) (l : held.Model) → held.Distinct l → lookup k (pairs l) ≡ option_map pair_of (held.lookup k l)
unfolding pairs held.lookup lookup
lookup_pairs k [] d = refl
lookup_pairs k (r ∷ l) d = go (eqb r.key k) refl (lookup_pairs k l d.1)
  where
    go : (b : Bool) → eqb r.key k ≡ b → lookup k (pairs l) ≡ option_map pair_of (held.lookup k l) → lookup k (pairs l ++ (pair_of r ∷ [])) ≡ option_map pair_of (cond b (Some r) (held.lookup k l))
    go true e ih = lookup_past k (pairs l) (pair_of r ∷ []) (has_pairs k l ∙ ap (λ (j : ℕ). held.has j l) (sym (eqb-true r.key k e)) ∙ d.0) ∙ rw e
    go false e ih = lookup_before k (pairs l) (pair_of r ∷ []) (rw e) ∙ ih

pub deadline_pairs : (k : ℕ) (l : held.Model) → held.Distinct l → deadline_in (held_score (held.lookup k l)) ≡ deadline_of k (pairs l)
unfolding deadline_of
deadline_pairs k l d = rw (lookup_pairs k l d) (go (held.lookup k l))
  where
    go : (o : Option Record) → deadline_in (held_score o) ≡ model.deadline_in (option_map pair_of o)
    go (Some r) = refl
    go None = refl

has_lookup : (k : ℕ) (l : held.Model) → is_some (held_score (held.lookup k l)) ≡ held.has k l
unfolding held.lookup held.has
has_lookup k [] = refl
has_lookup k (r ∷ l) = go (eqb r.key k) (has_lookup k l)
  where
    go : (b : Bool) → is_some (held_score (held.lookup k l)) ≡ held.has k l → is_some (held_score (cond b (Some r) (held.lookup k l))) ≡ (b || held.has k l)
    go true ih = refl
    go false ih = ih

pub held_pairs : (k : ℕ) (l : held.Model) → is_some (held_score (held.lookup k l)) ≡ has k (pairs l)
held_pairs k l = has_lookup k l ∙ sym (has_pairs k l)

-- ---- how many are expired
module _ (t : Tick) where
  pub count_append : (l m : Pairs) → expired_count t (l ++ m) ≡ expired_count t l + expired_count t m
  unfolding expired_count
  count_append [] m = omega arith
  count_append (p ∷ l) m = omega (arith, count_append l m)

  count_pairs : (l : held.Model) → count_at_most t.0 l ≡ expired_count t (pairs l)
  unfolding pairs count_at_most expired_count is_expired_at
  count_pairs [] = refl
  count_pairs (r ∷ l) = omega (arith, count_pairs l, count_append (pairs l) (pair_of r ∷ []))

  pub expired_deadlines : (m : Heap) → at_most t.0 m ≡ expired_count t (deadlines m)
  unfolding deadlines
  expired_deadlines m = count_pairs m.held

-- ---- the heap's steps
pub deadlines_length : (m : Heap) → length (deadlines m) ≡ length m.held
unfolding deadlines
deadlines_length m = length_pairs m.held

pub deadlines_opened : (d f s : ℕ) → deadlines (opened d f s) ≡ []
unfolding deadlines pairs opened
deadlines_opened d f s = refl

pub deadlines_cleared : (m : Heap) → deadlines (cleared m) ≡ []
unfolding deadlines pairs cleared
deadlines_cleared m = refl

pub deadlines_removed : (k : ℕ) (m : Heap) → deadlines (removed k m) ≡ without k (deadlines m)
unfolding deadlines removed
deadlines_removed k m = without_pairs k m.held

-- a key that holds none is removed for nothing
none_held : (k : ℕ) (l : Pairs) → deadline_of k l ≡ None → has k l ≡ false
unfolding deadline_of lookup has
none_held k [] e = refl
none_held k (p ∷ l) e = go (eqb p.key k) e (none_held k l)
  where
    go : (b : Bool) → model.deadline_in (cond b (Some p) (lookup k l)) ≡ None → (model.deadline_in (lookup k l) ≡ None → has k l ≡ false) → (b || has k l) ≡ false
    go true q ih = absurd (let z : ◌≡◌ {A = ℕ} 0 1 = cc in omega arith)
    go false q ih = ih q

pub removed_none : (k : ℕ) (m : Heap) → deadline_of k (deadlines m) ≡ None → removed k m ≡ m
unfolding removed deadlines
removed_none k m e = ap (λ (l : held.Model). record { limit = m.limit; factor = m.factor; next = m.next; held = l; entries = m.entries }) (without_none k m.held (sym (has_pairs k m.held) ∙ none_held k (pairs m.held) e))

pub deadlines_peeked : (m : Heap) → deadlines (peeked m) ≡ deadlines m
unfolding deadlines peeked
deadlines_peeked m = refl

pub full_deadlines : (k : ℕ) (m : Heap) → is_full m.limit k (deadlines m) ≡ lazy.is_full k m
unfolding deadlines is_full lazy.is_full
full_deadlines k m = rw (has_pairs k m.held, length_pairs m.held)

-- renumbering and rebuilding leave the pairs alone
deadlines_before : (m : Heap) → deadlines (before_push m) ≡ deadlines m
unfolding deadlines before_push renumbered
deadlines_before m = go (eqb m.next (2 ^ 64 - 1))
  where
    go : (b : Bool) → pairs (cond b (renumbered m) m).held ≡ pairs m.held
    go true = numbered_pairs m.held
    go false = refl

deadlines_maybe : (f : ℕ) (m : Heap) → deadlines (maybe_rebuilt f m) ≡ deadlines m
unfolding deadlines maybe_rebuilt rebuilt
deadlines_maybe f m = go (too_many f m)
  where
    go : (b : Bool) → pairs (cond b (rebuilt m) m).held ≡ pairs m.held
    go true = refl
    go false = refl

deadlines_pushed : (k s : ℕ) (m : Heap) → deadlines (pushed k s m) ≡ set k (tick s) (deadlines m)
unfolding deadlines pushed set pairs
deadlines_pushed k s m = ap (λ (x : Pairs). x ++ (record { key = k; deadline = tick s } ∷ [])) (without_pairs k m.held)

pub deadlines_updated : (k s : ℕ) (m : Heap) → deadlines (updated k s m) ≡ set k (tick s) (deadlines m)
unfolding updated
deadlines_updated k s m = deadlines_maybe m.factor (pushed k s (before_push m)) ∙ deadlines_pushed k s (before_push m) ∙ ap (set k (tick s)) (deadlines_before m)
