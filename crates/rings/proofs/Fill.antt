-- Opening: the sentinels n and n + 1 are linked to themselves, and then 0, 1, .. go one by one to the front of the second's
-- ring. After i of them it holds `down i`.
use mathlib.Core.Path.{◌≡◌, refl, sym, ap}
use mathlib.Core.List.{List, []}
use Prim.Native.Nat.{ℕ, zero, suc, ◌+◌, ◌*◌, ◌<◌, ◌≤◌}
use native.Mathlib.Omega.{arith}
use native.Mathlib.Numerals.{add-one, towards_suc}
use lib.Dec.{ltb}
use lib.ListN.{length}
use Rattle.rings.specs.Ring.{joined, attached, Ring, bit, count, Two, down}
use Rattle.rings.proofs.Links.{length_linked, length_attached, joined_in}
use Rattle.rings.proofs.Counts.{bit_ne, bit_ge, bit_suc}
use Rattle.rings.proofs.Rings.{edge_new, edge_other, ring_attached, ring_attached_other}

pub length_down : (k : ℕ) → length (down k) ≡ k
length_down zero = refl
length_down (suc k) = ap suc (length_down k)

pub count_down : (i k : ℕ) → count i (down k) ≡ bit (ltb i k)
count_down i zero = sym (bit_ge i 0 (omega arith))
count_down i (suc k) = omega (arith, count_down i k, bit_suc i k)

pub record Filled (n : ℕ) (ws : List ℕ) (i : ℕ) : Type 0 where
  pub within : i ≤ n
  pub fit : 5 * (n + 2) ≤ length ws
  pub live : Ring (n + 2) ws n []
  pub free : Ring (n + 2) ws (n + 1) (down i)

pub fill_start : (n : ℕ) (ws : List ℕ) → 5 * (n + 2) ≤ length ws → Filled n (joined (n + 2) (joined (n + 2) ws n n) (n + 1) (n + 1)) 0
fill_start n ws fit = rw (joined_in (n + 2) ws n n (omega arith) (omega arith)) (rw (joined_in (n + 2) _ (n + 1) (n + 1) (omega arith) (omega arith)) (record {
  within = omega arith;
  fit = simp length_linked fit;
  live = edge_other (n + 2) _ (n + 1) (n + 1) n n (omega arith) (omega arith) (edge_new (n + 2) ws n n fit (omega arith) (omega arith));
  free = edge_new (n + 2) _ (n + 1) (n + 1) (simp length_linked fit) (omega arith) (omega arith);
}))

pub fill_more : {n : ℕ} {ws : List ℕ} {i : ℕ} → i < n → Filled n ws i → Filled n (attached (n + 2) ws (n + 1) i) (i + 1)
fill_more {n} {ws} {i} h f = record {
  within = omega arith;
  fit = rw length_attached f.fit;
  live = ring_attached_other (n + 2) ws f.fit (n + 1) (down i) i (omega arith) f.free n [] (omega (arith, bit_ne n (n + 1) (omega arith))) (omega (arith, bit_ne n i (omega arith))) f.live;
  free = rw (add-one i) (ring_attached (n + 2) ws f.fit (n + 1) (down i) i (omega arith) f.free
      (omega (arith, count_down (n + 1) i, bit_ge (n + 1) i (omega arith)))
      (omega (arith, count_down i i, bit_ge i i (omega arith), bit_ne (n + 1) i (omega arith))));
}

pub fill_done : {n : ℕ} {ws : List ℕ} {i : ℕ} → n ≤ i → Filled n ws i → Two (n + 2) ws n [] (n + 1) (down n)
fill_done {n} {ws} {i} h f =
    let e : i ≡ n = omega arith in
    record {
      fit = f.fit;
      one = f.live;
      other = rw e at f.free;
      all = λ j. simp towards_suc (omega (arith, count_down j n, bit_suc j n, bit_suc j (suc n)));
      size = omega (arith, length_down n);
    }
