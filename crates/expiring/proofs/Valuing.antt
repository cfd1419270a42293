-- Steps on the values, with the value that a key had, and the setting of a deadline.
use mathlib.Core.Path.{◌≡◌, refl, sym, ap, ◌∙◌}
use mathlib.Core.Bool.{Bool, true, false, cond}
use mathlib.Core.Logic.{⊎_elim}
use mathlib.Core.List.{List}
use Prim.Native.Nat.{ℕ, ◌-◌}
use lib.ListN.{length}
use borrow.Rule.Slice.PartMut.{put_same}
use Rattle.std.specs.Prelude.{Option, Some, None, Result, Ok, Err}
use Rattle.std.specs.Result.{result_unwrap_or}
use Rattle.time.specs.declared.tick.Tick.{Tick}
use Rattle.time.specs.declared.refusal.Refusal.{Refusal}
use Rattle.time.specs.declared.refusal.Refusal.TheVariants.{KeyLimitReached}
use Rattle.lazy_heap_model.specs.declared.counted.Counted.{Counted}
use Rattle.lazy_heap_model.specs.Model.{updated, update_discards}
use Rattle.lazy_heap.specs.Answers.{outcome_of}
use Rattle.lazy_heap.specs.Calls.{counted}
use Rattle.fast_lru.specs.declared.lru.FastLru.{FastLru}
use Rattle.fast_lru_model.specs.Model.{Item, Items}
use Rattle.fast_lru_model.specs.Model as list
use Rattle.fast_lru.specs.Calls as lru
use Rattle.expiration_index.specs.declared.index.ExpirationIndex.{ExpirationIndex}
use Rattle.expiration_index.specs.Answers.{beside}
use Rattle.expiration_index.specs.Model.{is_full, deadline_of}
use Rattle.expiration_index.specs.Model as pairs
use Rattle.expiration_index.specs.Index as index
use Rattle.expiration_index.specs.Calls as calls
use Rattle.expiring_model.specs.declared.answers.Answer.TheVariants as answers
use Rattle.expiring.specs.declared.expiring.Expiring.{Expiring}
use Rattle.expiring_model.specs.Model.{keep, set, value_in, pairs_after}
use Rattle.expiring_model.specs.Discards.{discards, heap_after}
use Rattle.expiring.specs.Book.{start, Room, capacity_of, limit_of, IsBook}
use Rattle.expiring_answers.specs.Answers.{of_found}
use Rattle.expiring.specs.Steps.{with_list, with_index, stored_of, DeadlineOf, Moved, Dating}
use Rattle.expiring.proofs.Limits.{err_ok, same_err, same_value}
use Rattle.expiring.proofs.Moving.{moved_list, lent, back, lent_is, lent_index, lent_limits, moved_index}
use Rattle.expiring.proofs.Acting.{Accepted, no_refusal}

-- ---- a value
value_found : (x : Option Item) → of_found (Ok (list.value_in x)) ≡ value_in x
value_found None = refl
value_found (Some i) = refl

pub found_accepted : (f : Result (Option ℕ) Refusal) → Accepted (of_found f)
found_accepted (Ok (Some v)) = no_refusal (answers.Value v) refl
found_accepted (Ok None) = no_refusal answers.Nothing refl
found_accepted (Err why) = no_refusal answers.Nothing refl

pub value_of_lem : (k : ℕ) (s : Items) → of_found (Ok (list.value_of k s)) ≡ value_in (list.lookup k s)
unfolding list.value_of
value_of_lem k s = value_found (list.lookup k s)

-- ---- the list's calls. What it refuses it would answer on no book.
module _ {ws : List ℕ} {b : Expiring} {A : Type 0} {answer : Items → A} {r : Result A Refusal} where
  module _ {ws' : List ℕ} {f : Items → Items} {l : FastLru} (o : lru.Changing ws b.inner answer f ws' l r) where
    pub moved_values : Moved ws b keep f ws' (with_list b l) 0
    moved_values = moved_list b l o.capacity o.kept f o.list o.model

    pub said_changing : (u : A) → IsBook ws b → result_unwrap_or r u ≡ answer (stored_of ws b)
    said_changing u is = ap (λ (x : Result A Refusal). result_unwrap_or x u) (o.answer is.list)

-- ---- a deadline
-- an answer told by a test
beside_err : {A : Type 0} (z : Bool) (d : ℕ) (v : Refusal) (a : A) {w : Refusal} → Err w ≡ beside d (cond z (Err v) (Ok a)) → z ≡ true
beside_err true d v a e = refl
beside_err false d v a {w} e = absurd (err_ok w e)

beside_ok : {A : Type 0} (z : Bool) (d : ℕ) (v : Refusal) (a : A) {x : Counted A} → Ok x ≡ beside d (cond z (Err v) (Ok a)) → (z ≡ false) × (x ≡ counted a d)
beside_ok true d v a e = absurd (err_ok v (sym e))
beside_ok false d v a e = (refl, same_value e)

module _ (ws : List ℕ) (b : Expiring) (room : Room (length ws) (capacity_of b) (limit_of b)) (k : ℕ) (t : Tick) {ys : List ℕ} {x : ExpirationIndex} {r : Result (Counted (Option Tick)) Refusal} (o : calls.Setting (lent ws b) b.index k t ys x r) where
  abbrev full : List ℕ → Bool
  full l = is_full (limit_of b) k (index.model_of l b.index)

  only : (why : Refusal) → r ≡ Err why → why ≡ KeyLimitReached
  only why e =
      ⊎_elim (λ q. absurd (err_ok why (sym (ap outcome_of e) ∙ q ∙ lent_limits ws b room))) (λ q. same_err (sym e ∙ q.1)) o.outcome

  taken : {y : Counted (Option Tick)} → r ≡ Ok y → IsBook ws b → (full (lent ws b) ≡ false) × (y ≡ counted (deadline_of k (index.model_of (lent ws b) b.index)) (update_discards k t.0 (index.heap_of (lent ws b) b.index)))
  taken e is = beside_ok (full (lent ws b)) _ _ _ (sym e ∙ o.answer (lent_index ws b room is))

  pub dating : Dating ws b k t (back ws b ys) (with_index b x) r
  unfolding pairs_after heap_after discards
  dating = record {
    only = only;
    refused = λ why e. let same = o.refused why e in (ap (with_index b) same.0, ap (back ws b) same.1 ∙ put_same (start (capacity_of b)) (length ws - start (capacity_of b)) ws);
    full = λ why e is. sym (ap full (lent_is ws b room)) ∙ beside_err (full (lent ws b)) _ _ _ (sym e ∙ o.answer (lent_index ws b room is));
    free = λ y e is. sym (ap full (lent_is ws b room)) ∙ (taken e is).0;
    moved = λ y e.
        moved_index ws b room x o.kept (set k t) o.limit (λ is. o.index (lent_index ws b room is))
        (λ is. o.model (lent_index ws b room is) (taken e is).0 ∙ ap (λ (l : List ℕ). pairs.set k t (index.model_of l b.index)) (lent_is ws b room))
        (λ is. o.heap (lent_index ws b room is) (taken e is).0 ∙ ap (λ (l : List ℕ). updated k t.0 (index.heap_of l b.index)) (lent_is ws b room))
        (λ is. ap (λ (c : Counted (Option Tick)). c.discarded) (taken e is).1 ∙ ap (λ (l : List ℕ). update_discards k t.0 (index.heap_of l b.index)) (lent_is ws b room));
    held = λ y e. record { answer = λ is. ap (λ (c : Counted (Option Tick)). c.answer) (taken e is).1 ∙ ap (λ (l : List ℕ). deadline_of k (index.model_of l b.index)) (lent_is ws b room) };
  }

-- that of a removed deadline is what it was
pub removed_held : (ws : List ℕ) (b : Expiring) → Room (length ws) (capacity_of b) (limit_of b) → {k : ℕ} {ys : List ℕ} {x : ExpirationIndex} {r : Result (Counted (Option Tick)) Refusal} {y : Counted (Option Tick)} → calls.Removing (lent ws b) b.index k ys x r → r ≡ Ok y → DeadlineOf ws b k y.answer
removed_held ws b room {k} o e = record { answer = λ is. ap (λ (c : Counted (Option Tick)). c.answer) (same_value (sym e ∙ o.answer (lent_index ws b room is))) ∙ ap (λ (l : List ℕ). deadline_of k (index.model_of l b.index)) (lent_is ws b room) }
