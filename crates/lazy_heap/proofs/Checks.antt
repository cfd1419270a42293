-- The check: what its walks find is what makes a heap.
use mathlib.Core.Path.{◌≡◌, refl, sym}
use mathlib.Core.Bool.{Bool, true}
use mathlib.Core.List.{List, [], ◌∷◌, Memᴰ}
use mathlib.Core.List.Memᴰ.{cases_cons}
use mathlib.Core.List.Memᴰ.{head}
use mathlib.Core.List.Memᴰ.{not-nil}
use mathlib.Core.List.Memᴰ.{tail}
use mathlib.Core.Logic.{⊎_elim}
use Prim.Native.Nat.{ℕ, zero, suc, ◌<◌, ◌≤◌}
use native.Mathlib.Omega.{arith}
use lib.ListN.{length, replicate, length-replicate, get_or-replicate, get_or-eq_default}
use Rattle.std.specs.Prelude.{Some}
use Rattle.rings.proofs.Counts.{by_lt}
use Rattle.binary_heap.proofs.Laws.{model_sorted}
use Rattle.linked_hash_map.specs.declared.map.LinkedHashMap.{LinkedHashMap}
use Rattle.linked_hash_map.specs.declared.map.Record.{Record}
use Rattle.linked_hash_map.specs.Model.{nth}
use Rattle.linked_hash_map.specs.Map as map
use Rattle.linked_hash_map.proofs.Laws.{place_taken, place_below, place_key, map_distinct}
use Rattle.linked_hash_map.proofs.Putting.{model_length}
use Rattle.lazy_heap.specs.declared.heap.LazyMinHeap.{LazyMinHeap}
use Rattle.lazy_heap.specs.Words.{part}
use Rattle.lazy_heap.specs.Walks.{Blank, Tallying, RecordsValid, Agreeing}

-- a record of a list has a place in it, and a place a record
mem_nth : (r : Record) (l : List Record) → Memᴰ r l → (i : ℕ) × (i < length l) × (nth i l ≡ Some r)
unfolding nth
mem_nth r [] q = absurd (not-nil q)
mem_nth r (x ∷ l) q = ⊎_elim here (λ t. there (mem_nth r l t)) (cases_cons q)
  where
    here : r ≡ x → (i : ℕ) × (i < length (x ∷ l)) × (nth i (x ∷ l) ≡ Some r)
    here e = (0, omega arith, sym (rw e))

    there : (i : ℕ) × (i < length l) × (nth i l ≡ Some r) → (i : ℕ) × (i < length (x ∷ l)) × (nth i (x ∷ l) ≡ Some r)
    there o = (suc o.0, omega (arith, o.1), o.2)

nth_mem : (i : ℕ) (l : List Record) → i < length l → (r : Record) × (nth i l ≡ Some r) × Memᴰ r l
unfolding nth
nth_mem i [] h = absurd (omega arith)
nth_mem zero (x ∷ l) h = (x, refl, head refl)
nth_mem (suc i) (x ∷ l) h = let o = nth_mem i l (omega arith) in (o.0, o.1, tail o.2)

pub blank : (m : LinkedHashMap) → m.capacity ≤ 4096 → Blank m (replicate 4096 0)
blank m h = record {
  enough = omega (arith, length-replicate {A = ℕ} 4096 0);
  zero = λ s. by_lt s 4096 (get_or-replicate 4096 s 0 0) (λ b. get_or-eq_default (replicate 4096 0) 0 {n = s} (omega (arith, length-replicate {A = ℕ} 4096 0)));
}

-- ---- what the parts have to do with each other
module _ {ws : List ℕ} {h : LazyMinHeap} {t t' : List ℕ} {u r : Bool} (k : Tallying ws h.scores h.entries h.seq t t' u) (yes : u ≡ true) (b : Blank h.scores t) (s : RecordsValid ws h.scores h.seq t' r) where
  pub agreeing : Agreeing ws h r
  agreeing = record {
    sound = λ p q. record {
      keys = map_distinct p.scores;
      few = omega (arith, model_length ws h.scores, p.scores.count);
      numbers = (s.sound p.scores q).0;
      below = k.below p.entries yes;
      once = λ x m.
          let o = mem_nth x (map.model_of ws h.scores) m in
          let at = place_taken ws h.scores o.0 (omega (arith, o.1, model_length ws h.scores)) in
          omega (arith, (s.sound p.scores q).1 o.0 _ at, k.tallied p.entries p.scores b yes x m _ (place_key p.scores o.0 _ x at o.2));
      sorted = model_sorted (part h.scores.capacity ws) h.entries;
    };
    complete = λ p v. s.complete p.scores v.numbers (λ i x e.
        let o = nth_mem i (map.model_of ws h.scores) (omega (arith, place_below ws h.scores i x e, model_length ws h.scores)) in
        omega (arith, k.tallied p.entries p.scores b yes o.0 o.2 x (place_key p.scores i x o.0 e o.1), v.once o.0 o.2));
  }
