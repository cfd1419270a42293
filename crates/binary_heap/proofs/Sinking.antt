-- An entry that goes down. All but it against its children is in order, and its children are not before its parent: a swap
-- with the lesser child leaves the same to be said one level down.
use mathlib.Core.Path.{◌≡◌, refl, sym, ap, ◌∙◌}
use mathlib.Core.Bool.{Bool, true, false}
use mathlib.Core.Logic.{◌≢◌}
use mathlib.Core.List.{List}
use Prim.Native.Nat.{ℕ, ◌+◌, ◌*◌, ◌<◌, ◌≤◌}
use native.Mathlib.Omega.{arith}
use native.Mathlib.Decide.{ℕ_discrete}
use lib.Dec.{leb}
use lib.ListN.{length, get_or}
use borrow.Author.Tests.{leb-true, leb-false}
use Rattle.binary_heap.specs.declared.entries.Entry.{Entry}
use Rattle.binary_heap.specs.Order.{le, count}
use Rattle.binary_heap.specs.Entries.{entry_at, entries_of, swap_at}
use Rattle.binary_heap.specs.Heap.{parent, Ordered}
use Rattle.binary_heap.specs.Sifts.{Sinks, leaf, stays, drops, child_of}
use Rattle.binary_heap.proofs.Order.{le_at, le_same, le_then, le_total}
use Rattle.binary_heap.proofs.Words.{swap_length, Swapped, swapped, swapped_kept}
use Rattle.binary_heap.proofs.Places.{count_swap}

-- m is a child of i among the first n entries, and none is before it
pub record Child (ws : List ℕ) (n i m : ℕ) : Type 0 where
  pub after : i < m
  pub inside : m < n
  pub parent_is : parent m ≡ i
  pub least : (k : ℕ) → 0 < k → k < n → parent k ≡ i → le (entry_at ws m) (entry_at ws k) ≡ true

module _ (ws : List ℕ) (n i : ℕ) (h : 2 * i + 1 < n) where
  left_child : (2 * i + 2 < n → le (entry_at ws (2 * i + 1)) (entry_at ws (2 * i + 2)) ≡ true) → Child ws n i (2 * i + 1)
  left_child q = record { after = omega arith; inside = h; parent_is = omega arith; least = λ k a b e. go k b e (ℕ_discrete k (2 * i + 1)) a }
    where
      go : (k : ℕ) → k < n → parent k ≡ i → Dec (k ≡ 2 * i + 1) → 0 < k → le (entry_at ws (2 * i + 1)) (entry_at ws k) ≡ true
      go k b e (yes f) a = le_at refl (ap (entry_at ws) f) (le_same (entry_at ws (2 * i + 1)))
      go k b e (no f) a = let g : k ≡ 2 * i + 2 = omega arith in le_at refl (ap (entry_at ws) g) (q (omega arith))

  right_child : 2 * i + 2 < n → le (entry_at ws (2 * i + 2)) (entry_at ws (2 * i + 1)) ≡ true → Child ws n i (2 * i + 2)
  right_child l q = record { after = omega arith; inside = l; parent_is = omega arith; least = λ k a b e. go k b e (ℕ_discrete k (2 * i + 1)) a }
    where
      go : (k : ℕ) → k < n → parent k ≡ i → Dec (k ≡ 2 * i + 1) → 0 < k → le (entry_at ws (2 * i + 2)) (entry_at ws k) ≡ true
      go k b e (yes f) a = le_at refl (ap (entry_at ws) f) q
      go k b e (no f) a = let g : k ≡ 2 * i + 2 = omega arith in le_at refl (ap (entry_at ws) g) (le_same (entry_at ws (2 * i + 2)))

  child_of_lem : Child ws n i (child_of ws n i)
  unfolding child_of
  child_of_lem = go (leb n (2 * i + 2)) refl (le (entry_at ws (2 * i + 1)) (entry_at ws (2 * i + 2))) refl
    where
      go : (b : Bool) → leb n (2 * i + 2) ≡ b → (c : Bool) → le (entry_at ws (2 * i + 1)) (entry_at ws (2 * i + 2)) ≡ c → Child ws n i (child_of ws n i)
      go true p c q = rw p (left_child (λ l. absurd (omega (arith, leb-true n (2 * i + 2) p))))
      go false p true q = rw (p, q) (left_child (λ l. q))
      go false p false q = rw (p, q) (right_child (leb-false n (2 * i + 2) p) (le_total (entry_at ws (2 * i + 1)) (entry_at ws (2 * i + 2)) q))

pub child_is : {ws : List ℕ} {n i m : ℕ} → 2 * i + 1 < n → m ≡ child_of ws n i → Child ws n i m
child_is {ws} {n} {i} h q = rw q (child_of_lem ws n i h)

-- of the first n entries only entry i may be after its children
pub record OrderedAbove (ws : List ℕ) (n i : ℕ) : Type 0 where
  pub others : (k : ℕ) → 0 < k → k < n → parent k ≢ i → le (entry_at ws (parent k)) (entry_at ws k) ≡ true
  pub below : (k : ℕ) → 0 < i → 0 < k → k < n → parent k ≡ i → le (entry_at ws (parent i)) (entry_at ws k) ≡ true

pub record Sunk (ws ws' : List ℕ) (n i : ℕ) : Type 0 where
  pub size : length ws' ≡ length ws
  pub past : (w : ℕ) → 3 * n ≤ w → get_or ws' w 0 ≡ get_or ws w 0
  pub counts : (e : Entry) → count e (entries_of ws' n) ≡ count e (entries_of ws n)
  pub ordered : OrderedAbove ws n i → Ordered ws' n

-- where it stops
bottom : (ws : List ℕ) (n i : ℕ) → n ≤ 2 * i + 1 → OrderedAbove ws n i → Ordered ws n
unfolding Ordered
bottom ws n i l x k a b = x.others k a b (omega arith)

stopped : (ws : List ℕ) (n i m : ℕ) → Child ws n i m → le (entry_at ws i) (entry_at ws m) ≡ true → OrderedAbove ws n i → Ordered ws n
unfolding Ordered
stopped ws n i m c h x k a b = go (ℕ_discrete (parent k) i)
  where
    go : Dec (parent k ≡ i) → le (entry_at ws (parent k)) (entry_at ws k) ≡ true
    go (yes e) = le_at (ap (entry_at ws) e) refl (le_then _ (entry_at ws m) _ h (c.least k a b e))
    go (no d) = x.others k a b d

-- where it goes on
module _ (ws vs : List ℕ) (n i m : ℕ) (c : Child ws n i m) (s : Swapped ws vs m i) (h : le (entry_at ws m) (entry_at ws i) ≡ true) (x : OrderedAbove ws n i) where
  others : (k : ℕ) → 0 < k → k < n → parent k ≢ m → le (entry_at vs (parent k)) (entry_at vs k) ≡ true
  others k a b d = go (ℕ_discrete k m) (ℕ_discrete k i) (ℕ_discrete (parent k) i)
    where
      go : Dec (k ≡ m) → Dec (k ≡ i) → Dec (parent k ≡ i) → le (entry_at vs (parent k)) (entry_at vs k) ≡ true
      go (yes e) _ _ = le_at (ap (λ (y : ℕ). entry_at vs (parent y)) e ∙ ap (entry_at vs) c.parent_is ∙ s.at_j) (ap (entry_at vs) e ∙ s.at_i) h
      go (no km) (yes e) _ =
          le_at (swapped_kept s (parent k) d (omega arith) ∙ ap (λ (y : ℕ). entry_at ws (parent y)) e) (ap (entry_at vs) e ∙ s.at_j)
          (x.below m (omega arith) (omega arith) c.inside c.parent_is)
      go (no km) (no ki) (yes e) = le_at (ap (entry_at vs) e ∙ s.at_j) (swapped_kept s k km ki) (c.least k a b e)
      go (no km) (no ki) (no pi) = le_at (swapped_kept s (parent k) d pi) (swapped_kept s k km ki) (x.others k a b pi)

  below : (k : ℕ) → 0 < m → 0 < k → k < n → parent k ≡ m → le (entry_at vs (parent m)) (entry_at vs k) ≡ true
  below k p a b e =
      le_at (ap (entry_at vs) c.parent_is ∙ s.at_j) (swapped_kept s k (omega arith) (omega arith))
      (le_at (ap (entry_at ws) (sym e)) refl (x.others k a b (omega arith)))

  level : OrderedAbove vs n m
  level = record { others = others; below = below }

fallen : (ws ws' : List ℕ) (n i m : ℕ) → 3 * n ≤ length ws → Child ws n i m → le (entry_at ws i) (entry_at ws m) ≡ false → Sunk (swap_at ws m i) ws' n m → Sunk ws ws' n i
fallen ws ws' n i m l c h z =
    let im : i < m = c.after in
    let mn : m < n = c.inside in
    let s : Swapped ws (swap_at ws m i) m i = swapped ws m i (omega arith) (omega arith) in
    record {
      size = z.size ∙ s.size;
      past = λ w q. z.past w q ∙ s.others w (omega arith) (omega arith);
      counts = λ e. z.counts e ∙ count_swap e ws (swap_at ws m i) m i n im mn s;
      ordered = λ x. z.ordered (level ws (swap_at ws m i) n i m c s (le_total (entry_at ws i) (entry_at ws m) h) x);
    }

pub sunk : {ws ws' : List ℕ} {n i : ℕ} → 3 * n ≤ length ws → Sinks ws n i ws' → Sunk ws ws' n i
sunk {ws} {ws'} {n} {i} l (leaf h) = record { size = refl; past = λ w q. refl; counts = λ e. refl; ordered = λ x. bottom ws n i h x }
sunk {ws} {ws'} {n} {i} l (stays h p) = record { size = refl; past = λ w q. refl; counts = λ e. refl; ordered = λ x. stopped ws n i (child_of ws n i) (child_of_lem ws n i h) p x }
sunk {ws} {ws'} {n} {i} l (drops h p u) = fallen ws ws' n i (child_of ws n i) l (child_of_lem ws n i h) p (sunk (omega (arith, swap_length ws (child_of ws n i) i)) u)
