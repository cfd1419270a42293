-- An entry that goes up. All but it against its parent is in order, and its children are not before its parent: a swap with
-- the parent leaves the same to be said one level up.
use mathlib.Core.Path.{◌≡◌, refl, sym, ap, ◌∙◌}
use mathlib.Core.Bool.{true, false, true≢false}
use mathlib.Core.Logic.{◌≢◌}
use mathlib.Core.List.{List}
use Prim.Native.Nat.{ℕ, zero, suc, ◌+◌, ◌*◌, ◌<◌, ◌≤◌}
use native.Mathlib.Omega.{arith}
use native.Mathlib.Decide.{ℕ_discrete}
use lib.ListN.{length, get_or}
use Rattle.binary_heap.specs.declared.entries.Entry.{Entry}
use Rattle.binary_heap.specs.Order.{le, count}
use Rattle.binary_heap.specs.Entries.{Holds, entry_at, entries_of, swap_at}
use Rattle.binary_heap.specs.Heap.{parent, Ordered}
use Rattle.binary_heap.specs.Sifts.{Rises, stays, climbs}
use Rattle.binary_heap.proofs.Order.{le_at, le_same, le_then, le_total}
use Rattle.binary_heap.proofs.Words.{Swapped, swapped, swapped_kept}
use Rattle.binary_heap.proofs.Places.{count_swap}

-- of the first n entries only entry i may be before its parent
pub record OrderedBut (ws : List ℕ) (n i : ℕ) : Type 0 where
  pub others : (k : ℕ) → 0 < k → k < n → k ≢ i → le (entry_at ws (parent k)) (entry_at ws k) ≡ true
  pub below : (k : ℕ) → 0 < i → 0 < k → k < n → parent k ≡ i → le (entry_at ws (parent i)) (entry_at ws k) ≡ true

pub record Risen (ws ws' : List ℕ) (i : ℕ) : Type 0 where
  pub size : length ws' ≡ length ws
  pub past : (w : ℕ) → 3 * (i + 1) ≤ w → get_or ws' w 0 ≡ get_or ws w 0
  pub counts : (e : Entry) (n : ℕ) → i < n → count e (entries_of ws' n) ≡ count e (entries_of ws n)
  pub ordered : (n : ℕ) → i < n → OrderedBut ws n i → Ordered ws' n

-- the root counts as its own parent
pub root_in_order : (ws : List ℕ) (i : ℕ) → i ≡ 0 → le (entry_at ws (parent i)) (entry_at ws i) ≡ true
root_in_order ws i q = le_at (ap (entry_at ws) (let e : parent i ≡ i = omega arith in e)) refl (le_same (entry_at ws i))

pub not_root : (ws : List ℕ) (i : ℕ) → le (entry_at ws (parent i)) (entry_at ws i) ≡ false → 0 < i
not_root ws zero h = absurd (true≢false (sym (root_in_order ws 0 refl) ∙ h))
not_root ws (suc i) h = omega arith

-- up a level, and on from there
pub rises_on : {ws vs ws' : List ℕ} {i : ℕ} → le (entry_at ws (parent i)) (entry_at ws i) ≡ false → vs ≡ swap_at ws i (parent i) → Rises vs (parent i) ws' → Rises ws i ws'
rises_on {ws} {i = i} h q r = climbs (not_root ws i h) h (rw q at r)

-- where it stops
stopped : (ws : List ℕ) (n i : ℕ) → le (entry_at ws (parent i)) (entry_at ws i) ≡ true → OrderedBut ws n i → Ordered ws n
unfolding Ordered
stopped ws n i h x k a b = go (ℕ_discrete k i)
  where
    go : Dec (k ≡ i) → le (entry_at ws (parent k)) (entry_at ws k) ≡ true
    go (yes e) = le_at (ap (λ (y : ℕ). entry_at ws (parent y)) e) (ap (entry_at ws) e) h
    go (no d) = x.others k a b d

-- where it goes on
module _ (ws vs : List ℕ) (n i : ℕ) (pos : 0 < i) (lt : i < n) (s : Swapped ws vs i (parent i)) (h : le (entry_at ws i) (entry_at ws (parent i)) ≡ true) (x : OrderedBut ws n i) where
  others : (k : ℕ) → 0 < k → k < n → k ≢ parent i → le (entry_at vs (parent k)) (entry_at vs k) ≡ true
  others k a b d = go (ℕ_discrete k i) (ℕ_discrete (parent k) i) (ℕ_discrete (parent k) (parent i))
    where
      go : Dec (k ≡ i) → Dec (parent k ≡ i) → Dec (parent k ≡ parent i) → le (entry_at vs (parent k)) (entry_at vs k) ≡ true
      go (yes e) _ _ = le_at (ap (λ (y : ℕ). entry_at vs (parent y)) e ∙ s.at_j) (ap (entry_at vs) e ∙ s.at_i) h
      go (no ki) (yes e) _ = le_at (ap (entry_at vs) e ∙ s.at_i) (swapped_kept s k ki d) (x.below k pos a b e)
      go (no ki) (no pi) (yes e) =
          le_at (ap (entry_at vs) e ∙ s.at_j) (swapped_kept s k ki d)
          (le_then _ (entry_at ws (parent i)) _ h (le_at (ap (entry_at ws) (sym e)) refl (x.others k a b ki)))
      go (no ki) (no pi) (no pp) = le_at (swapped_kept s (parent k) pi pp) (swapped_kept s k ki d) (x.others k a b ki)

  below : (k : ℕ) → 0 < parent i → 0 < k → k < n → parent k ≡ parent i → le (entry_at vs (parent (parent i))) (entry_at vs k) ≡ true
  below k p a b e = le_at (swapped_kept s (parent (parent i)) (omega arith) (omega arith)) refl (go (ℕ_discrete k i))
    where
      above : le (entry_at ws (parent (parent i))) (entry_at ws (parent i)) ≡ true
      above = x.others (parent i) p (omega arith) (omega arith)

      go : Dec (k ≡ i) → le (entry_at ws (parent (parent i))) (entry_at vs k) ≡ true
      go (yes f) = le_at refl (ap (entry_at vs) f ∙ s.at_i) above
      go (no d) =
          le_at refl (swapped_kept s k d (omega arith))
          (le_then _ (entry_at ws (parent i)) _ above (le_at (ap (entry_at ws) (sym e)) refl (x.others k a b d)))

  level : OrderedBut vs n (parent i)
  level = record { others = others; below = below }

pub risen : {ws ws' : List ℕ} {i : ℕ} → Holds (length ws) i → Rises ws i ws' → Risen ws ws' i
risen {ws} {ws'} {i} h (stays p) = record {
  size = refl;
  past = λ w l. refl;
  counts = λ e n l. refl;
  ordered = λ n l x. stopped ws n i p x;
}
risen {ws} {ws'} {i} h (climbs pos p u) =
    let s : Swapped ws (swap_at ws i (parent i)) i (parent i) = swapped ws i (parent i) h (omega arith) in
    let q : le (entry_at ws i) (entry_at ws (parent i)) ≡ true = le_total (entry_at ws (parent i)) (entry_at ws i) p in
    let z : Risen (swap_at ws i (parent i)) ws' (parent i) = risen (omega arith) u in
    record {
      size = z.size ∙ s.size;
      past = λ w l. z.past w (omega arith) ∙ s.others w (omega arith) (omega arith);
      counts = λ e n l. z.counts e n (omega arith) ∙ count_swap e ws (swap_at ws i (parent i)) i (parent i) n (omega arith) l s;
      ordered = λ n l x. z.ordered n (omega arith) (level ws (swap_at ws i (parent i)) n i pos l s q x);
    }
