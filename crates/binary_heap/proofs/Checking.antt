-- `is_heap`: the entries passed are in order, and the first that is not shows that all are none.
use mathlib.Core.Path.{◌≡◌, refl, sym, ap, ◌∙◌}
use mathlib.Core.Bool.{true, false, true≢false}
use mathlib.Core.List.{List}
use Prim.Native.Nat.{ℕ, ◌+◌, ◌<◌, ◌≤◌}
use native.Mathlib.Omega.{arith}
use native.Mathlib.Decide.{ℕ_discrete}
use lib.ListN.{length}
use Rattle.binary_heap.specs.Order.{le}
use Rattle.binary_heap.specs.Entries.{entry_at}
use Rattle.binary_heap.specs.Heap.{fit, parent, Ordered, IsHeap}
use Rattle.binary_heap.specs.Calls.{Checking}
use Rattle.binary_heap.proofs.Order.{le_at}
use Rattle.binary_heap.proofs.Limits.{is_room}
use Rattle.binary_heap.proofs.Root.{unfit_heap}

module _ (ws : List ℕ) where
  pub ordered_one : Ordered ws 1
  unfolding Ordered
  ordered_one k a b = absurd (omega arith)

  pub ordered_next : (i : ℕ) → Ordered ws i → le (entry_at ws (parent i)) (entry_at ws i) ≡ true → Ordered ws (i + 1)
  unfolding Ordered
  ordered_next i o h k a b = go (ℕ_discrete k i)
    where
      go : Dec (k ≡ i) → le (entry_at ws (parent k)) (entry_at ws k) ≡ true
      go (yes e) = le_at (ap (λ (y : ℕ). entry_at ws (parent y)) e) (ap (entry_at ws) e) h
      go (no d) = o k a (omega arith)

  ordered_fewer : (n i : ℕ) → n ≤ i → Ordered ws i → Ordered ws n
  unfolding Ordered
  ordered_fewer n i l o k a b = o k a (omega arith)

  no_heap_lem : {n : ℕ} → (IsHeap ws n → ⊥) → Checking ws n false
  no_heap_lem d = record { sound = λ e. absurd (true≢false (sym e)); complete = λ h. absurd (d h) }

  pub checking_refused : {n : ℕ} → fit n (length ws) ≡ false → Checking ws n false
  checking_refused f = no_heap_lem (unfit_heap f)

  pub checking_no : {n i : ℕ} → 0 < i → i < n → le (entry_at ws (parent i)) (entry_at ws i) ≡ false → Checking ws n false
  unfolding Ordered
  checking_no {n} {i} a b e = no_heap_lem (λ h. true≢false (sym (h.ordered i a b) ∙ e))

  pub checking_yes : {n i : ℕ} → fit n (length ws) ≡ true → n ≤ i → Ordered ws i → Checking ws n true
  checking_yes {n} {i} f l o = record { sound = λ _. record { room = is_room n (length ws) f; ordered = ordered_fewer n i l o }; complete = λ _. refl }

pub ruleset checking = (is_room, ordered_one, ordered_next, checking_refused, checking_yes)
