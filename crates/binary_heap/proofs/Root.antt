-- The root of a heap is its least entry: no entry's parent is after it, nor is the parent's, up to the root.
use mathlib.Core.Path.{◌≡◌, refl, sym, ap, ◌∙◌}
use mathlib.Core.Bool.{Bool, true, false, true≢false}
use mathlib.Core.List.{List}
use Prim.Native.Nat.{ℕ, zero, suc, ◌<◌, ◌≤◌}
use native.Mathlib.Omega.{arith}
use native.Mathlib.Decide.{ℕ_discrete}
use lib.ListN.{length}
use Rattle.std.specs.Prelude.{None, Some}
use Rattle.binary_heap.specs.declared.entries.Entry.{Entry}
use Rattle.binary_heap.specs.Order.{le, sort}
use Rattle.binary_heap.specs.Entries.{entry_at, entries_of}
use Rattle.binary_heap.specs.Heap.{fit, Room, parent, Ordered, IsHeap, model_of}
use Rattle.binary_heap.specs.Least.{Least}
use Rattle.binary_heap.specs.Calls.{Peeking}
use Rattle.binary_heap.proofs.Order.{le_at, le_same, le_then}
use Rattle.binary_heap.proofs.Counts.{mem_count, count_mem}
use Rattle.binary_heap.proofs.Places.{count_place, place_count}
use Rattle.binary_heap.proofs.Limits.{is_room, room_fits}
use Rattle.binary_heap.proofs.Least.{first_least}

module _ (ws : List ℕ) (n : ℕ) (o : Ordered ws n) where
  -- f bounds how far k is
  root_by : (f k : ℕ) → k ≤ f → k < n → le (entry_at ws 0) (entry_at ws k) ≡ true
  unfolding Ordered
  root_by zero k l b = le_at refl (ap (entry_at ws) (let q : k ≡ 0 = omega arith in q)) (le_same (entry_at ws 0))
  root_by (suc f) k l b = go (ℕ_discrete k 0) (λ p. root_by f (parent k) (omega arith) (omega arith))
    where
      go : Dec (k ≡ 0) → (0 < k → le (entry_at ws 0) (entry_at ws (parent k)) ≡ true) → le (entry_at ws 0) (entry_at ws k) ≡ true
      go (yes q) ih = le_at refl (ap (entry_at ws) q) (le_same (entry_at ws 0))
      go (no d) ih = le_then _ (entry_at ws (parent k)) _ (ih (omega arith)) (o k (omega arith) b)

  pub root_least : 0 < n → Least (entry_at ws 0) (entries_of ws n)
  root_least pos = record {
    member = count_mem (entry_at ws 0) (entries_of ws n) (count_place (entry_at ws 0) ws n 0 pos refl);
    greatest = λ x m. let p = place_count x ws n (mem_count x (entries_of ws n) m) in le_at refl (sym p.2) (root_by p.0 p.0 (omega arith) p.1);
  }

-- ---- peek
pub unfit_heap : {ws : List ℕ} {n : ℕ} → fit n (length ws) ≡ false → IsHeap ws n → ⊥
unfit_heap f h = true≢false (sym (room_fits h.room) ∙ f)

module _ (ws : List ℕ) where
  pub peeking_refused : {n : ℕ} → fit n (length ws) ≡ false → Peeking ws n None
  peeking_refused f = record {
    refused = λ _. refl;
    none = λ _. refl;
    root = λ t _. absurd (true≢false (sym t ∙ f));
    answer = λ h. absurd (unfit_heap f h);
  }

  pub peeking_none : {n : ℕ} → n ≡ 0 → Peeking ws n None
  unfolding model_of entries_of sort
  peeking_none q = record { refused = λ _. refl; none = λ _. refl; root = λ _ p. absurd (omega arith); answer = λ h. rw q }

  pub peeking_root : {n : ℕ} → fit n (length ws) ≡ true → 0 < n → Peeking ws n (Some (entry_at ws 0))
  unfolding model_of
  peeking_root {n} t pos = record {
    refused = λ f. absurd (true≢false (sym t ∙ f));
    none = λ q. absurd (omega arith);
    root = λ _ _. refl;
    answer = λ h. sym (first_least (root_least ws n h.ordered pos));
  }

pub ruleset peeking = (is_room, peeking_refused, peeking_none, peeking_root)

-- a root was told: there is one
pub record Rooted (ws : List ℕ) (n : ℕ) (e : Entry) : Type 0 where
  pub fits : fit n (length ws) ≡ true
  pub room : Room (length ws) n
  pub some : 0 < n
  pub is : e ≡ entry_at ws 0

pub peeked_root : {ws : List ℕ} {n : ℕ} {e : Entry} → Peeking ws n (Some e) → Rooted ws n e
peeked_root {ws} {n} {e} p = go (fit n (length ws)) refl n refl
  where
    go : (b : Bool) → fit n (length ws) ≡ b → (m : ℕ) → n ≡ m → Rooted ws n e
    go false f m q = cc (p.refused f)
    go true t zero q = cc (p.none q)
    go true t (suc m) q = let pos : 0 < n = omega arith in record { fits = t; room = is_room n (length ws) t; some = pos; is = cc (p.root t pos) }
