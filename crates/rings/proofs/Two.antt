-- Two rings that hold each node once between them. A node of one ring is none of the other and no sentinel, for its count is
-- one already; so taking it out and putting it at a front keeps both the edges and the counts, and so does putting all of
-- a ring there.
use mathlib.Core.Path.{◌≡◌, refl, sym, ◌∙◌}
use mathlib.Core.Logic.{◌≢◌}
use mathlib.Core.List.{List, [], ◌∷◌, ◌++◌, Memᴰ}
use Prim.Native.Nat.{ℕ, suc, ◌+◌, ◌-◌, ◌*◌, ◌<◌, ◌≤◌}
use native.Mathlib.Omega.{arith}
use native.Mathlib.Numerals.{add-one}
use lib.Dec.{ltb}
use lib.ListN.{length, get_or, length-append, get_or-eq_default}
use Rattle.rings.specs.Ring.{prev, next, detached, attached, moved, spliced, Edge, Ring, bit, count, Two, along, without}
use Rattle.rings.proofs.Links.{length_attached, length_detached, length_spliced}
use Rattle.rings.proofs.Counts.{by_lt, bit_le, bit_eq, bit_ge, count_append, count_of_mem, length_without, without_none, count_front}
use Rattle.rings.proofs.Rings.{edge_at, edges_around, along_linked, linked_frame, ring_detached, ring_attached, ring_attached_other, ring_spliced}

pub two_swap : {N : ℕ} {ws : List ℕ} {s : ℕ} {l : List ℕ} {t : ℕ} {m : List ℕ} → Two N ws s l t m → Two N ws t m s l
two_swap w = record { fit = w.fit; one = w.other; other = w.one; all = λ i. omega (arith, w.all i); size = omega arith }

-- ---- the nodes of a ring

module _ {N : ℕ} {ws : List ℕ} {s : ℕ} {l : List ℕ} {t : ℕ} {m : List ℕ} (w : Two N ws s l t m) where
  counts_le_one : (x : ℕ) → count x (s ∷ l) + count x (t ∷ m) ≤ 1
  counts_le_one x = omega (arith, w.all x, bit_le (ltb x N))

  pub count_le_one : (x : ℕ) → count x l ≤ 1
  count_le_one x = omega (arith, counts_le_one x)

  pub mem_is_node : {x : ℕ} → Memᴰ x l → (x < N) × (x ≢ s) × (x ≢ t)
  mem_is_node {x} h =
      let k = count_of_mem h in (
        by_lt x N (λ q. q) (λ q. absurd (omega (arith, w.all x, bit_ge x N q))),
        (λ e. omega (arith, counts_le_one x, bit_eq s x (sym e))),
        (λ e. omega (arith, counts_le_one x, bit_eq t x (sym e))),
      )

  pub mem_not_both : {x : ℕ} → Memᴰ x l → Memᴰ x m → ⊥
  mem_not_both {x} h k = omega (arith, counts_le_one x, count_of_mem h, count_of_mem k)

module _ {n : ℕ} {ws l m : List ℕ} (w : Two (n + 2) ws n l (n + 1) m) where
  pub one_is_below : {x : ℕ} → Memᴰ x l → x < n
  one_is_below h =
      let k = mem_is_node w h in
      omega arith

  pub other_is_below : {x : ℕ} → Memᴰ x m → x < n
  other_is_below h =
      let k = mem_is_node (two_swap w) h in
      omega arith

-- ---- the order of a ring

module _ {N : ℕ} {ws : List ℕ} {s : ℕ} {l : List ℕ} {t : ℕ} {m : List ℕ} (w : Two N ws s l t m) where
  pub along_ring : along ws (next ws s) (length l) ≡ l
  along_ring = along_linked N ws s l s w.one

  pub next_sentinel : next ws s ≡ get_or l 0 s
  next_sentinel = (edge_at N ws s l s 0 w.one (omega arith)).forward

  pub next_at : (i : ℕ) → i < length l → next ws (get_or l i s) ≡ get_or l (i + 1) s
  next_at i h = rw (add-one i) (edge_at N ws s l s (suc i) w.one h).forward

  pub prev_first : prev ws (get_or l 0 s) ≡ s
  prev_first = (edge_at N ws s l s 0 w.one (omega arith)).backward

  pub prev_at : (i : ℕ) → i < length l → prev ws (get_or l (i + 1) s) ≡ get_or l i s
  prev_at i h = rw (add-one i) (edge_at N ws s l s (suc i) w.one h).backward

  pub prev_sentinel : prev ws s ≡ get_or l (length l - 1) s
  prev_sentinel = go l w.one
    where
      go : (k : List ℕ) → Ring N ws s k → prev ws s ≡ get_or k (length k - 1) s
      go [] r = r.backward
      go (x ∷ k) r =
          let d : suc (length k) - 1 ≡ length k = omega arith in
          rw d (rw (get_or-eq_default k s {n = length k} (omega arith)) at (edge_at N ws s (x ∷ k) s (suc (length k)) r (omega arith)).backward)

  -- ---- other words with the same links

  module _ (ws' : List ℕ) (prevs : (i : ℕ) → i < N → prev ws' i ≡ prev ws i) (nexts : (i : ℕ) → i < N → next ws' i ≡ next ws i) (fit : 5 * N ≤ length ws') where
    edge_frame : (a b : ℕ) → Edge N ws a b → Edge N ws' a b
    edge_frame a b e = record { from = e.from; to = e.to; forward = nexts a e.from ∙ e.forward; backward = prevs b e.to ∙ e.backward }

    pub two_frame : Two N ws' s l t m
    two_frame = record {
      fit = fit;
      one = linked_frame N ws ws' edge_frame s l s w.one;
      other = linked_frame N ws ws' edge_frame t m t w.other;
      all = w.all;
      size = w.size;
    }

-- ---- moving a node

two_attached : (N : ℕ) (ws : List ℕ) (s : ℕ) (l : List ℕ) (t : ℕ) (m : List ℕ) (x : ℕ) → 5 * N ≤ length ws → Ring N ws s l → Ring N ws t m
    → ((i : ℕ) → count i (s ∷ x ∷ l) + count i (t ∷ m) ≡ bit (ltb i N)) → length (x ∷ l) + length m + 2 ≡ N
    → Two N (attached N ws s x) s (x ∷ l) t m
two_attached N ws s l t m x fit one other all size =
    let le-one : (i : ℕ) → count i (s ∷ x ∷ l) + count i (t ∷ m) ≤ 1 = λ i. omega (arith, all i, bit_le (ltb i N)) in
    let hx : x < N = by_lt x N (λ q. q) (λ q. absurd (omega (arith, all x, bit_ge x N q, bit_eq x x refl))) in
    record {
      fit = rw length_attached fit;
      one = ring_attached N ws fit s l x hx one (omega (arith, le-one s, bit_eq s s refl)) (omega (arith, le-one x, bit_eq x x refl));
      other = ring_attached_other N ws fit s l x hx one t m (omega (arith, le-one s, bit_eq s s refl)) (omega (arith, le-one x, bit_eq x x refl)) other;
      all = all;
      size = size;
    }

module _ {N : ℕ} {ws : List ℕ} {s : ℕ} {l : List ℕ} {t : ℕ} {m : List ℕ} {x : ℕ} (w : Two N ws s l t m) (h : Memᴰ x l) where
  pub count_is_one : count x l ≡ 1
  count_is_one = omega (arith, count_le_one w x, count_of_mem h)

  pub length_without_one : length (without x l) + 1 ≡ length l
  length_without_one = omega (arith, length_without x l, count_is_one)

  fit_out : 5 * N ≤ length (detached N ws x)
  fit_out = rw length_detached w.fit

  ring_out : (u : ℕ) (k : List ℕ) → u ≢ x → Ring N ws u k → Ring N (detached N ws x) u (without x k)
  ring_out u k d r =
      let e = edges_around N ws s l s x w.one (count_of_mem h) in
      ring_detached N ws w.fit x e.0 e.1 u k d r

  one_out : Ring N (detached N ws x) s (without x l)
  one_out = ring_out s l (λ e. (mem_is_node w h).1 (sym e)) w.one

  other_out : Ring N (detached N ws x) t m
  other_out = rw (without_none x m (omega (arith, counts_le_one w x, count_of_mem h))) at (ring_out t m (λ e. (mem_is_node w h).2 (sym e)) w.other)

  pub move_front : Two N (moved N ws s x) s (x ∷ without x l) t m
  unfolding moved
  move_front = two_attached N (detached N ws x) s (without x l) t m x fit_out one_out other_out
      (λ i. omega (arith, w.all i, count_front x i l count_is_one)) (omega (arith, w.size, length_without_one))

  pub move_across : Two N (moved N ws t x) s (without x l) t (x ∷ m)
  unfolding moved
  move_across = two_swap (two_attached N (detached N ws x) t m s (without x l) x fit_out other_out one_out
      (λ i. omega (arith, w.all i, count_front x i l count_is_one)) (omega (arith, w.size, length_without_one)))

-- ---- all nodes of a ring go to the other

pub two_spliced : {N : ℕ} {ws : List ℕ} {s : ℕ} {l : List ℕ} {t : ℕ} {m : List ℕ} → Two N ws s l t m → Two N (spliced N ws s t) s [] t (l ++ m)
two_spliced {N} {ws} {s} {l} {t} {m} w =
    let cs = counts_le_one w s in
    let ct = counts_le_one w t in
    let r = ring_spliced N ws w.fit s l t m
    (omega (arith, cs, bit_eq s s refl)) (omega (arith, cs, bit_eq s s refl))
    (omega (arith, ct, bit_eq t t refl)) (omega (arith, ct, bit_eq t t refl)) w.one w.other in
    record {
      fit = rw length_spliced w.fit;
      one = r.0;
      other = r.1;
      all = λ i. omega (arith, w.all i, count_append i l m);
      size = omega (arith, w.size, length-append l m);
    }
