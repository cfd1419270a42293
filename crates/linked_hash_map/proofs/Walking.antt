-- `first`, `last`, `next` and `previous`: a link leads to the neighbour in the order, or to the ring's own node at its end.
use mathlib.Core.Path.{◌≡◌, refl, sym, ap, ◌∙◌}
use mathlib.Core.Bool.{false}
use mathlib.Core.List.{List, [], ◌∷◌}
use Prim.Native.Nat.{ℕ, zero, suc, ◌+◌, ◌-◌, ◌*◌, ◌<◌, ◌≤◌}
use native.Mathlib.Nat.{not-suc-le-zero, le_of_suc-le-suc}
use native.Mathlib.Omega.{arith}
use lib.ListN.{length, get_or, get_or-eq_default}
use borrow.Author.Tests.{lt-ltb, le-ltb}
use Rattle.std.specs.Prelude.{Some, Ok}
use Rattle.limits.specs.Limits.{map_fits}
use Rattle.rings.specs.Ring.{prev, next}
use Rattle.rings.proofs.Counts.{by_lt}
use Rattle.rings.proofs.Two.{next_sentinel, next_at, prev_first, prev_at, prev_sentinel}
use Rattle.linked_hash_map.specs.declared.map.LinkedHashMap.{LinkedHashMap}
use Rattle.linked_hash_map.specs.Numbers.{slot_from}
use Rattle.linked_hash_map.specs.Map.{IsMap, live_of, slot_at}
use Rattle.linked_hash_map.specs.Calls.{unfit, end_of, beside, Ending, Next, Previous}
use Rattle.linked_hash_map.proofs.Records.{mem_at}
use Rattle.linked_hash_map.proofs.Laid.{of_map, live_below}
use Rattle.linked_hash_map.proofs.Probed.{map_fits_lem, live_length}
use Rattle.linked_hash_map.proofs.Finding.{place_slot}

-- what stands in place of a missing element does not matter where none is missing
get_d_any : (l : List ℕ) (i d e : ℕ) → i < length l → get_or l i d ≡ get_or l i e
get_d_any [] i d e h = absurd (not-suc-le-zero h)
get_d_any (x ∷ l) zero d e h = refl
get_d_any (x ∷ l) (suc i) d e h = get_d_any l i d e (le_of_suc-le-suc h)

-- a link to the i-th node of the live ring, its own node past the end, is the slot at place i
link_slot : {ws : List ℕ} {m : LinkedHashMap} → IsMap ws m → (i : ℕ) → slot_from m.capacity (get_or (live_of ws m) i m.capacity) ≡ slot_at ws m i
unfolding slot_from slot_at
link_slot {ws} {m} is i = by_lt i m.len at past
  where
    at : i < m.len → slot_from m.capacity (get_or (live_of ws m) i m.capacity) ≡ slot_at ws m i
    at h =
        let b : i < length (live_of ws m) = omega (arith, live_length ws m) in
        rw (lt-ltb i m.len h, lt-ltb (get_or (live_of ws m) i m.capacity) m.capacity (live_below (of_map is) (mem_at (live_of ws m) i m.capacity b)))
        (ap Some (get_d_any (live_of ws m) i m.capacity 0 b))

    past : m.len ≤ i → slot_from m.capacity (get_or (live_of ws m) i m.capacity) ≡ slot_at ws m i
    past h =
        let b : length (live_of ws m) ≤ i = omega (arith, live_length ws m) in
        rw (le-ltb i m.len h, get_or-eq_default (live_of ws m) m.capacity {n = i} b, le-ltb m.capacity m.capacity (omega arith))

-- the place of a slot, with the ring's own node past the end
place_node : {ws : List ℕ} {m : LinkedHashMap} → IsMap ws m → (i s : ℕ) → slot_at ws m i ≡ Some s → (i < length (live_of ws m)) × (get_or (live_of ws m) i m.capacity ≡ s)
place_node {ws} {m} is i s e =
    let p = place_slot ws m i s e in
    let b : i < length (live_of ws m) = omega (arith, live_length ws m, p.0) in
    (b, get_d_any (live_of ws m) i m.capacity 0 b ∙ p.1)

module _ (ws : List ℕ) (m : LinkedHashMap) where
  end_misfit : (k : ℕ) → map_fits m.capacity (length ws) ≡ false → end_of ws m k ≡ unfit
  unfolding end_of
  end_misfit k f = rw f refl

  end_is : (k : ℕ) → IsMap ws m → end_of ws m k ≡ Ok (slot_from m.capacity (get_or ws (5 * m.capacity + k) 0))
  unfolding end_of
  end_is k is = rw (map_fits_lem is) refl

  pub first_is : Ending ws m 0 (end_of ws m 4)
  first_is = record {
    refused = end_misfit 4;
    answer = λ is. end_is 4 is ∙ ap (λ (x : ℕ). Ok (slot_from m.capacity x)) (next_sentinel is.rings) ∙ ap Ok (link_slot is 0);
  }

  pub last_is : Ending ws m (m.len - 1) (end_of ws m 3)
  last_is = record {
    refused = end_misfit 3;
    answer = λ is.
        end_is 3 is
        ∙ ap (λ (x : ℕ). Ok (slot_from m.capacity x)) (prev_sentinel is.rings ∙ ap (λ (k : ℕ). get_or (live_of ws m) (k - 1) m.capacity) (live_length ws m))
        ∙ ap Ok (link_slot is (m.len - 1));
  }

  -- no slot of the map is past its records
  slot_below : (is : IsMap ws m) (i s : ℕ) → slot_at ws m i ≡ Some s → s < m.capacity
  slot_below is i s e = let p = place_node is i s e in rw (sym p.1) (live_below (of_map is) (mem_at (live_of ws m) i m.capacity p.0))

  -- the slot beside one of the map's
  beside_is : (is : IsMap ws m) (i s k : ℕ) → slot_at ws m i ≡ Some s → beside ws m s k ≡ Ok (slot_from m.capacity (get_or ws (5 * s + k) 0))
  unfolding beside
  beside_is is i s k e = rw (map_fits_lem is, lt-ltb s m.capacity (slot_below is i s e))

  beside_misfit : (s k : ℕ) → map_fits m.capacity (length ws) ≡ false → beside ws m s k ≡ unfit
  unfolding beside
  beside_misfit s k f = rw f refl

  pub next_is : (s : ℕ) → Next ws m s (beside ws m s 4)
  next_is s = record {
    refused = beside_misfit s 4;
    answer = λ is i e.
        let p = place_node is i s e in
        beside_is is i s 4 e
        ∙ ap (λ (x : ℕ). Ok (slot_from m.capacity (next ws x))) (sym p.1)
        ∙ ap (λ (x : ℕ). Ok (slot_from m.capacity x)) (next_at is.rings i p.0)
        ∙ ap Ok (link_slot is (i + 1));
  }

  pub previous_is : (s : ℕ) → Previous ws m s (beside ws m s 3)
  unfolding slot_from
  previous_is s = record {
    refused = beside_misfit s 3;
    front = λ is e.
        let p = place_node is 0 s e in
        let q : prev ws s ≡ m.capacity = ap (prev ws) (sym p.1) ∙ prev_first is.rings in
        beside_is is 0 s 3 e ∙ rw (q, le-ltb m.capacity m.capacity (omega arith)) refl;
    answer = λ is i e.
        let p = place_node is (i + 1) s e in
        beside_is is (i + 1) s 3 e
        ∙ ap (λ (x : ℕ). Ok (slot_from m.capacity (prev ws x))) (sym p.1)
        ∙ ap (λ (x : ℕ). Ok (slot_from m.capacity x)) (prev_at is.rings i (omega (arith, p.0)))
        ∙ ap Ok (link_slot is i);
  }
