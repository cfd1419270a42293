-- `walks` holds of exactly the two rings. Of any words, the nodes that it meets are linked both ways, so that one met twice has
-- before it one met twice, and so on back to a sentinel; but every node met is below n, so none is met twice, and n of them
-- are all the nodes below n.
use mathlib.Core.Path.{◌≡◌, refl, sym, ap, ◌∙◌}
use mathlib.Core.Logic.{◌≢◌}
use mathlib.Core.Bool.{Bool, true, false, ◌&&◌, and-false, true≢false}
use mathlib.Core.List.{List, [], ◌∷◌, ◌++◌, Memᴰ}
use Prim.Native.Nat.{ℕ, zero, suc, ◌+◌, ◌-◌, ◌*◌, ◌<◌, ◌≤◌}
use native.Mathlib.Omega.{arith}
use borrow.Author.Tests.{lt-ltb, le-ltb, eq-eqb, ne_eqb, ltb-true, eqb-true}
use lib.Dec.{ltb, eqb}
use lib.ListN.{length, length-append}
use Rattle.rings.specs.Ring.{prev, next, Linked, Ring, bit, count, Two, along, walks}
use Rattle.rings.proofs.Counts.{by_lt, bit_eq, bit_ne, bit_lt, count_append, count_cons_le, count_full}
use Rattle.rings.proofs.Rings.{edges_around}
use Rattle.rings.proofs.Two.{one_is_below, other_is_below}

-- ---- one step

module _ (ws : List ℕ) (n a z k : ℕ) where
  pub walks_end : k ≤ 0 → walks ws n a z k ≡ (eqb (next ws a) z && eqb (prev ws z) a)
  unfolding walks
  walks_end h =
      let e : k ≡ 0 = omega arith in
      rw e refl

  walks_step : 0 < k → walks ws n a z k ≡ (ltb (next ws a) n && (eqb (prev ws (next ws a)) a && walks ws n (next ws a) z (k - 1)))
  unfolding walks
  walks_step h =
      let e : k ≡ suc (k - 1) = omega arith in
      ap (walks ws n a z) e

  pub walks_past : 0 < k → n ≤ next ws a → walks ws n a z k ≡ false
  walks_past h p = walks_step h ∙ rw (le-ltb (next ws a) n p)

  pub walks_one_way : 0 < k → prev ws (next ws a) ≢ a → walks ws n a z k ≡ false
  walks_one_way h p = walks_step h ∙ rw (ne_eqb (prev ws (next ws a)) a p) (and-false (ltb (next ws a) n))

  pub walks_on : 0 < k → next ws a < n → prev ws (next ws a) ≡ a → walks ws n a z k ≡ walks ws n (next ws a) z (k - 1)
  walks_on h p q = walks_step h ∙ rw (lt-ltb (next ws a) n p, eq-eqb (prev ws (next ws a)) a q)

-- ---- two rings walk

linked_walks : (N : ℕ) (ws : List ℕ) (n a : ℕ) (l : List ℕ) (z : ℕ) → Linked N ws a l z → ((x : ℕ) → Memᴰ x l → x < n) → walks ws n a z (length l) ≡ true
unfolding walks
linked_walks N ws n a [] z e h = simp (eq-eqb (next ws a) z e.forward, eq-eqb (prev ws z) a e.backward)
linked_walks N ws n a (y ∷ l) z e h = rw e.0.forward (simp (lt-ltb y n (h y (Memᴰ.head refl)), eq-eqb (prev ws y) a e.0.backward, linked_walks N ws n y l z e.1 (λ x m. h x (Memᴰ.tail m))))

module _ {n : ℕ} {ws l m : List ℕ} (w : Two (n + 2) ws n l (n + 1) m) where
  pub one_walks : walks ws n n n (length l) ≡ true
  one_walks = linked_walks (n + 2) ws n n l n w.one (λ x. one_is_below w)

  pub other_walks : walks ws n (n + 1) (n + 1) (length m) ≡ true
  other_walks = linked_walks (n + 2) ws n (n + 1) m (n + 1) w.other (λ x. other_is_below w)

-- ---- what walks is two rings

both : (p q : Bool) → (p && q) ≡ true → (p ≡ true) × (q ≡ true)
both true q h = (refl, h)
both false q h = absurd (true≢false (sym h))

pub length_along : (ws : List ℕ) (x k : ℕ) → length (along ws x k) ≡ k
unfolding along
length_along ws x zero = refl
length_along ws x (suc k) = ap suc (length_along ws (next ws x) k)

module _ (ws : List ℕ) (n : ℕ) where
  walks_told : (a z k : ℕ) → walks ws n a z (suc k) ≡ true → (next ws a < n) × (prev ws (next ws a) ≡ a) × (walks ws n (next ws a) z k ≡ true)
  unfolding walks
  walks_told a z k h =
      let b = both (ltb (next ws a) n) (eqb (prev ws (next ws a)) a && walks ws n (next ws a) z k) h in
      let c = both (eqb (prev ws (next ws a)) a) (walks ws n (next ws a) z k) b.1 in
      (ltb-true _ _ b.0, eqb-true _ _ c.0, c.1)

  walks_linked : (a z k : ℕ) → a < n + 2 → z < n + 2 → walks ws n a z k ≡ true → Linked (n + 2) ws a (along ws (next ws a) k) z
  unfolding walks along
  walks_linked a z zero ha hz h =
      let b = both (eqb (next ws a) z) (eqb (prev ws z) a) h in
      record { from = ha; to = hz; forward = eqb-true _ _ b.0; backward = eqb-true _ _ b.1 }
  walks_linked a z (suc k) ha hz h =
      let t = walks_told a z k h in
      (record { from = ha; to = omega arith; forward = refl; backward = t.1 }, walks_linked (next ws a) z k (omega arith) hz t.2)

  walks_below : (a z k i : ℕ) → n ≤ i → walks ws n a z k ≡ true → count i (along ws (next ws a) k) ≡ 0
  unfolding along
  walks_below a z zero i hi h = refl
  walks_below a z (suc k) i hi h =
      let t = walks_told a z k h in
      omega (arith, walks_below (next ws a) z k i hi t.2, bit_ne (next ws a) i (omega arith))

-- a is none of the nodes after it nor of r, and r has the node before each node of l that it has: no node stands twice
linked_once : (N : ℕ) (ws r : List ℕ) → ((x : ℕ) → count x r ≤ 1) → (a : ℕ) (l : List ℕ) (z : ℕ) → Linked N ws a l z → count a (l ++ r) ≡ 0
    → ((y : ℕ) → 1 ≤ count y l → 1 ≤ count y r → 1 ≤ count (prev ws y) r) → (x : ℕ) → count x (a ∷ (l ++ r)) ≤ 1
linked_once N ws r le a [] z e h back = count_cons_le (λ i. 1) a r le (omega arith)
linked_once N ws r le a (y ∷ l) z e h back =
    let not-l : 1 ≤ count y l → ⊥ = λ k. omega (arith, count_append a l r, ap (λ (j : ℕ). count j (y ∷ l)) e.0.backward, (edges_around N ws y l z y e.1 k).2) in
    let not-r : 1 ≤ count y r → ⊥ = λ k. omega (arith, count_append a l r, ap (λ (j : ℕ). count j r) e.0.backward, back y (omega (arith, bit_eq y y refl)) k) in
    let rest = linked_once N ws r le y l z e.1 (omega (arith, count_append y l r)) (λ i p q. back i (omega arith) q) in
    count_cons_le (λ i. 1) a (y ∷ (l ++ r)) rest (omega arith)

module _ (n : ℕ) (ws l m : List ℕ) (one : Ring (n + 2) ws n l) (other : Ring (n + 2) ws (n + 1) m) (below : (i : ℕ) → n ≤ i → count i l + count i m ≡ 0) where
  other_once : (x : ℕ) → count x ((n + 1) ∷ m) ≤ 1
  other_once x = omega (
    arith,
    count_append x m [],
    linked_once (n + 2) ws [] (λ i. omega arith) (n + 1) m (n + 1) other
        (omega (arith, count_append (n + 1) m [], below (n + 1) (omega arith))) (λ i p q. absurd (omega arith)) x,
  )

  -- a node of both rings is below n, so that it is not the second sentinel
  prev_in_other : (y : ℕ) → 1 ≤ count y l → 1 ≤ count y ((n + 1) ∷ m) → 1 ≤ count (prev ws y) ((n + 1) ∷ m)
  prev_in_other y h k = by_lt y n
      (λ q. (edges_around (n + 2) ws (n + 1) m (n + 1) y other (omega (arith, bit_ne (n + 1) y (omega arith)))).2)
      (λ q. absurd (omega (arith, below y q)))

  rings_once : (x : ℕ) → count x (n ∷ (l ++ ((n + 1) ∷ m))) ≤ 1
  rings_once = linked_once (n + 2) ws ((n + 1) ∷ m) other_once n l n one
      (omega (arith, count_append n l ((n + 1) ∷ m), below n (omega arith), bit_ne (n + 1) n (omega arith))) prev_in_other

  rings_nodes : (i : ℕ) → count i (n ∷ (l ++ ((n + 1) ∷ m))) ≤ bit (ltb i (n + 2))
  rings_nodes i = by_lt i (n + 2)
      (λ q. omega (arith, bit_lt i (n + 2) q, rings_once i))
      (λ q. omega (arith, count_append i l ((n + 1) ∷ m), below i (omega arith), bit_ne n i (omega arith), bit_ne (n + 1) i (omega arith)))

  rings_two : length l + length m ≡ n → 5 * (n + 2) ≤ length ws → Two (n + 2) ws n l (n + 1) m
  rings_two size fit = record {
    fit = fit;
    one = one;
    other = other;
    all = λ i. omega (arith, count_append i l ((n + 1) ∷ m), count_full (n + 2) (n ∷ (l ++ ((n + 1) ∷ m))) rings_nodes (omega (arith, length-append l ((n + 1) ∷ m))) i);
    size = omega arith;
  }

pub two_of_walks : (n : ℕ) (ws : List ℕ) (a b : ℕ) → walks ws n n n a ≡ true → walks ws n (n + 1) (n + 1) b ≡ true → a + b ≡ n → 5 * (n + 2) ≤ length ws
    → Two (n + 2) ws n (along ws (next ws n) a) (n + 1) (along ws (next ws (n + 1)) b)
two_of_walks n ws a b ha hb e = rings_two n ws (along ws (next ws n) a) (along ws (next ws (n + 1)) b)
    (walks_linked ws n n n a (omega arith) (omega arith) ha) (walks_linked ws n (n + 1) (n + 1) b (omega arith) (omega arith) hb)
    (λ i h. omega (arith, walks_below ws n n n a i h ha, walks_below ws n (n + 1) (n + 1) b i h hb))
    (omega (arith, length_along ws (next ws n) a, length_along ws (next ws (n + 1)) b))
