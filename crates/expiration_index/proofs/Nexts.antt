-- The heap's best is the next due: numbers fall from the latest set to the earliest, so that the least by deadline and then
-- by number is the least by deadline, and of equal ones the earliest set.
use mathlib.Core.Path.{◌≡◌, refl, sym, ap, ◌∙◌}
use mathlib.Core.Bool.{Bool, true, false, cond}
use mathlib.Core.Logic.{⊎_elim}
use mathlib.Core.List.{List, [], ◌∷◌, ◌++◌, Memᴰ}
use mathlib.Core.List.Memᴰ.{cases_cons}
use mathlib.Core.List.Memᴰ.{head}
use mathlib.Core.List.Memᴰ.{not-nil}
use mathlib.Core.List.Memᴰ.{tail}
use Prim.Native.Nat.{ℕ, ◌<◌, ◌≤◌}
use native.Mathlib.Omega.{arith}
use lib.Dec.{leb}
use lib.ListN.{length}
use borrow.Author.Tests.{lt-ltb, le-ltb}
use Rattle.std.specs.Prelude.{Option, Some, None}
use Rattle.time.specs.declared.tick.Tick.{Tick}
use Rattle.time.specs.Deadline.{is_expired_at}
use Rattle.binary_heap.specs.declared.entries.Entry.{Entry}
use Rattle.binary_heap.specs.Order.{le}
use Rattle.binary_heap.proofs.Laws.{le_by_score, le_by_seq, le_same, le_then}
use Rattle.rings.proofs.Counts.{by_lt}
use Rattle.linked_hash_map.specs.declared.map.Record.{Record}
use Rattle.lazy_heap_model.specs.Model.{Heap, entry_of, from_live, peeked, popped, popped_from, best_of_heap}
use Rattle.lazy_heap.specs.Valid.{Falling, Valid}
use Rattle.lazy_heap.specs.Calls.{within_best, popped_at_most}
use Rattle.lazy_heap.proofs.Helds.{falling_below}
use Rattle.lazy_heap.proofs.Laws.{best_is, best_none}
use Rattle.expiration_index.specs.Model.{Pair, Pairs, without, sooner, soonest, next, next_due, pair_in, if_expired, next_expired, expired_due, less, without_expired}
use Rattle.expiration_index.specs.Answers.{due_in}
use Rattle.expiration_index.specs.Index.{pair_of, pairs, deadlines}
use Rattle.expiration_index.specs.Calls.{taken_if, popped_expired}
use Rattle.expiration_index.proofs.Pairs.{without_pairs, deadlines_peeked}

-- ---- a pair more
abbrev sooner_in : Option Pair → Pair → Pair
sooner_in None q = q
sooner_in (Some p) q = sooner p q

soonest_append : (p q : Pair) (l : Pairs) → soonest p (l ++ (q ∷ [])) ≡ sooner (soonest p l) q
soonest_append p q [] = refl
soonest_append p q (x ∷ l) = soonest_append (sooner p x) q l

next_append : (l : Pairs) (q : Pair) → next (l ++ (q ∷ [])) ≡ Some (sooner_in (next l) q)
unfolding next
next_append [] q = refl
next_append (p ∷ l) q = ap Some (soonest_append p q l)

-- ---- the next due of held keys
data Next (held : List Record) : Type 0 where
  nothing : held ≡ [] → next (pairs held) ≡ None → Next held
  least : (r : Record) → Memᴰ r held → next (pairs held) ≡ Some (pair_of r) → ((q : Record) → Memᴰ q held → le (entry_of r) (entry_of q) ≡ true) → Next held

next_held : (b : ℕ) (held : List Record) → Falling b held → Next held
unfolding pairs next
next_held b [] f = nothing refl refl
next_held b (x ∷ held) f = go (next_held x.second held f.1)
  where
    more : next (pairs held ++ (pair_of x ∷ [])) ≡ Some (sooner_in (next (pairs held)) (pair_of x))
    more = next_append (pairs held) (pair_of x)

    go : Next held → Next (x ∷ held)
    go (nothing q n) =
        least x (head refl) (more ∙ rw n)
        (λ y m. ⊎_elim (λ e. rw e (le_same (entry_of x))) (λ t. absurd (not-nil (rw q at t))) (cases_cons m))
    go (least r i n l) = by_lt x.first r.first sooner_x later_x
      where
        sooner_x : x.first < r.first → Next (x ∷ held)
        sooner_x h =
            least x (head refl) (more ∙ rw (n, lt-ltb x.first r.first h))
            (λ y m. ⊎_elim (λ e. rw e (le_same (entry_of x))) (λ t. le_then (entry_of x) (entry_of r) (entry_of y) (le_by_score (entry_of x) (entry_of r) h) (l y t)) (cases_cons m))

        later_x : r.first ≤ x.first → Next (x ∷ held)
        later_x h =
            least r (tail i) (more ∙ rw (n, le-ltb x.first r.first h))
            (λ y m. ⊎_elim (λ e. rw e (le_by_seq (entry_of r) (entry_of x) h (falling_below x.second held f.1 r i))) (l y) (cases_cons m))

-- ---- the heap's best
-- the first live entry, if any, is of the next due
pub data Best (m : Heap) : Type 0 where
  empty : next (deadlines m) ≡ None → from_live m.held m.entries ≡ [] → Best m
  first : (r : Record) (es : List Entry) → next (deadlines m) ≡ Some (pair_of r) → from_live m.held m.entries ≡ entry_of r ∷ es → Best m

pub best_next : (m : Heap) → Valid m → Best m
unfolding deadlines
best_next m v = go (next_held m.next m.held v.numbers)
  where
    go : Next m.held → Best m
    go (nothing q n) = empty n (best_none m q)
    go (least r i n l) = let o = best_is m v r i l in first r o.0 n o.1

pub best_due : (m : Heap) → Valid m → due_in (best_of_heap m) ≡ next_due (deadlines m)
unfolding next_due
best_due m v = go (best_next m v)
  where
    go : Best m → due_in (best_of_heap m) ≡ pair_in (next (deadlines m))
    go (empty n q) = rw (n, q)
    go (first r es n q) = rw (n, q)

-- `pop_best` takes its pair out
deadlines_at : (m : Heap) (r : Record) (es : List Entry) → deadlines (popped_from (entry_of r ∷ es) m) ≡ without r.key (deadlines m)
unfolding deadlines
deadlines_at m r es = without_pairs r.key m.held

pub deadlines_popped : (m : Heap) → Valid m → deadlines (popped m) ≡ less (next (deadlines m)) (deadlines m)
unfolding popped
deadlines_popped m v = go (best_next m v)
  where
    go : Best m → deadlines (popped m) ≡ less (next (deadlines m)) (deadlines m)
    go (empty n q) = rw (n, q) (deadlines_peeked m)
    go (first r es n q) = rw (n, q) (deadlines_at m r es)

-- where one is taken there was a live entry
pub best_taken : (t : Tick) (m : Heap) → Valid m → {p : Pair} → next_expired t (deadlines m) ≡ Some p → 1 ≤ length (peeked m).entries
unfolding next_expired peeked
best_taken t m v {p} e = go (best_next m v)
  where
    go : Best m → 1 ≤ length (from_live m.held m.entries)
    go (empty n q) = absurd (let w : None ≡ Some p = ap (if_expired t) (sym n) ∙ e in let z : ◌≡◌ {A = ℕ} 0 1 = cc in omega arith)
    go (first r es n q) = rw q (omega arith)

-- ---- `pop_at_most` at a tick: the heap's best has at most that score where the next due is expired
module _ (t : Tick) (m : Heap) (v : Valid m) where
  pub expired_due_lem : due_in (within_best t.0 (best_of_heap m)) ≡ expired_due t (deadlines m)
  unfolding expired_due next_expired is_expired_at
  expired_due_lem = go (best_next m v)
    where
      by : (r : Record) (b : Bool) → due_in (cond b (Some (r.key, r.first)) None) ≡ pair_in (cond b (Some (pair_of r)) None)
      by r true = refl
      by r false = refl

      go : Best m → due_in (within_best t.0 (best_of_heap m)) ≡ pair_in (if_expired t (next (deadlines m)))
      go (empty n q) = rw (n, q)
      go (first r es n q) = rw (n, q) (by r (leb r.first t.0))

  pub expired_heap : popped_at_most t.0 m ≡ popped_expired t m
  unfolding popped_expired next_expired is_expired_at
  expired_heap = go (best_next m v)
    where
      by : (r : Record) (b : Bool) → cond b (popped m) (peeked m) ≡ taken_if (cond b (Some (pair_of r)) None) m
      by r true = refl
      by r false = refl

      go : Best m → popped_at_most t.0 m ≡ taken_if (if_expired t (next (deadlines m))) m
      go (empty n q) = rw (n, q)
      go (first r es n q) = rw (n, q) (by r (leb r.first t.0))

  pub expired_pairs : deadlines (popped_expired t m) ≡ without_expired t (deadlines m)
  unfolding popped_expired without_expired next_expired
  expired_pairs = go (next (deadlines m)) refl
    where
      go : (o : Option Pair) → next (deadlines m) ≡ o → deadlines (taken_if (if_expired t o) m) ≡ less (if_expired t o) (deadlines m)
      go None n = deadlines_peeked m
      go (Some p) n = by (is_expired_at p.deadline t)
        where
          by : (b : Bool) → deadlines (taken_if (cond b (Some p) None) m) ≡ less (cond b (Some p) None) (deadlines m)
          by true = deadlines_popped m v ∙ ap (λ (o : Option Pair). less o (deadlines m)) n
          by false = deadlines_peeked m
