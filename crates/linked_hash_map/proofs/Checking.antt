-- `check`: its four tests together say exactly what a map is.
use mathlib.Core.Path.{◌≡◌, refl, sym, ap, ◌∙◌}
use mathlib.Core.Bool.{Bool, true, false, true≢false, ◌&&◌}
use mathlib.Core.List.{List, Memᴰ}
use mathlib.Core.List.Memᴰ.{cases_cons}
use mathlib.Core.List.Memᴰ.{head}
use mathlib.Core.List.Memᴰ.{not-nil}
use mathlib.Core.List.Memᴰ.{tail}
use mathlib.Core.Logic.{⊎_elim}
use Prim.Native.Nat.{ℕ, zero, suc, ◌+◌, ◌-◌, ◌<◌, ◌≤◌}
use native.Mathlib.Omega.{arith}
use lib.Dec.{ltb, eqb}
use lib.ListN.{length}
use borrow.Author.Tests.{lt-ltb, eq-eqb, eqb-true}
use Rattle.limits.specs.Limits.{map_fits}
use Rattle.rings.specs.Ring.{next, along, walks, Two}
use Rattle.rings.proofs.Two.{count_le_one, one_is_below}
use Rattle.rings.proofs.Walks.{one_walks, other_walks, two_of_walks}
use Rattle.cells.specs.declared.Probe.{Probe}
use Rattle.cells.specs.declared.Probe.TheVariants as probed
use Rattle.cells.specs.Cells.{key_at, cell_count}
use Rattle.cells.specs.Probe.{probe}
use Rattle.cells.specs.Index.{held_in}
use Rattle.cells.proofs.Indexing.{live_found}
use Rattle.cells.proofs.Exact.{index_counts, count_indexes}
use Rattle.linked_hash_map.specs.declared.map.LinkedHashMap.{LinkedHashMap}
use Rattle.linked_hash_map.specs.Words.{Room}
use Rattle.linked_hash_map.specs.Checks.{ends_at, finds_of, finds_all}
use Rattle.linked_hash_map.specs.Map.{IsMap, live_of, free_of}
use Rattle.linked_hash_map.specs.Calls.{Checking}
use Rattle.linked_hash_map.proofs.Refill.{distinct}
use Rattle.linked_hash_map.proofs.Probed.{live_length, free_length}
use Rattle.linked_hash_map.proofs.Limits.{is_room}

-- a probe that ends at the record
finds_found : (ws : List ℕ) (n s : ℕ) → finds_of ws n s ≡ true → (c : ℕ) × (probe ws n (key_at ws s) ≡ probed.At c s)
unfolding finds_of
finds_found ws n s e = go (probe ws n (key_at ws s)) refl e
  where
    go : (r : Probe) → probe ws n (key_at ws s) ≡ r → ends_at s r ≡ true → (c : ℕ) × (probe ws n (key_at ws s) ≡ probed.At c s)
    go (probed.At c x) q t = (c, q ∙ ap (probed.At c) (eqb-true x s t))
    go (probed.Free c) q t = absurd (true≢false (sym t))
    go probed.Full q t = absurd (true≢false (sym t))

found_finds : (ws : List ℕ) (n s c : ℕ) → probe ws n (key_at ws s) ≡ probed.At c s → finds_of ws n s ≡ true
unfolding finds_of
found_finds ws n s c e = rw e (eq-eqb s s refl)

both : (a b : Bool) → (a && b) ≡ true → (a ≡ true) × (b ≡ true)
both true b e = (refl, e)
both false b e = absurd (true≢false (sym e))

-- all along a walk
all_found : (ws : List ℕ) (n k x : ℕ) → finds_all ws n k x ≡ true → (s : ℕ) → Memᴰ s (along ws x k) → finds_of ws n s ≡ true
unfolding finds_all along
all_found ws n zero x e s q = absurd (not-nil q)
all_found ws n (suc k) x e s q =
    let first = both (ltb x n) (finds_of ws n x && finds_all ws n k (next ws x)) e in
    let rest = both (finds_of ws n x) (finds_all ws n k (next ws x)) first.1 in
    ⊎_elim (λ d. rw d rest.0) (λ t. all_found ws n k (next ws x) rest.1 s t) (cases_cons q)

found_all : (ws : List ℕ) (n k x : ℕ) → ((s : ℕ) → Memᴰ s (along ws x k) → (s < n) × (finds_of ws n s ≡ true)) → finds_all ws n k x ≡ true
unfolding finds_all along
found_all ws n zero x h = refl
found_all ws n (suc k) x h =
    rw (lt-ltb x n (h x (head refl)).0, (h x (head refl)).1, found_all ws n k (next ws x) (λ s q. h s (tail q)))

module _ (ws : List ℕ) (m : LinkedHashMap) where
  -- what the tests have shown
  pub tests_map : map_fits m.capacity (length ws) ≡ true → m.len ≤ m.capacity → (m.refill_in ≡ 0 → ⊥) → walks ws m.capacity m.capacity m.capacity m.len ≡ true → walks ws m.capacity (m.capacity + 1) (m.capacity + 1) (m.capacity - m.len) ≡ true → finds_all ws m.capacity m.len (next ws m.capacity) ≡ true → length (held_in ws m.capacity (cell_count m.capacity)) ≡ m.len → IsMap ws m
  unfolding live_of free_of
  tests_map f h o a b c d = record {
    room = room;
    count = h;
    rings = two;
    index =
        count_indexes ws m.capacity (live_of ws m) (distinct (live_of ws m) (count_le_one two))
        (λ s q. finds_found ws m.capacity s (all_found ws m.capacity m.len (next ws m.capacity) c s q))
        (d ∙ sym (live_length ws m));
    opened = omega arith;
  }
    where
      room : Room (length ws) m.capacity
      room = is_room m.capacity (length ws) f

      two : Two (m.capacity + 2) ws m.capacity (live_of ws m) (m.capacity + 1) (free_of ws m)
      two = two_of_walks m.capacity ws m.len (m.capacity - m.len) a b (omega arith) (omega (arith, room.words))

  -- and what they show of a map
  module _ (is : IsMap ws m) where
    pub map_walks : walks ws m.capacity m.capacity m.capacity m.len ≡ true
    map_walks = rw (live_length ws m) at (one_walks is.rings)

    pub map_walks_free : walks ws m.capacity (m.capacity + 1) (m.capacity + 1) (m.capacity - m.len) ≡ true
    map_walks_free = rw (free_length ws m) at (other_walks is.rings)

    pub map_finds : finds_all ws m.capacity m.len (next ws m.capacity) ≡ true
    unfolding live_of
    map_finds =
        found_all ws m.capacity m.len (next ws m.capacity)
        (λ s q. let o = live_found is.index (key_at ws s) s q refl in (one_is_below is.rings q, found_finds ws m.capacity s o.0 o.1))

    pub map_held : length (held_in ws m.capacity (cell_count m.capacity)) ≡ m.len
    map_held = index_counts ws m.capacity (live_of ws m) (distinct (live_of ws m) (count_le_one is.rings)) is.index ∙ live_length ws m

pub checking_no : {ws : List ℕ} {m : LinkedHashMap} → (IsMap ws m → ⊥) → Checking ws m false
checking_no none = record { sound = λ e. absurd (true≢false (sym e)); complete = λ is. absurd (none is) }

-- the last test decides
pub checking : (ws : List ℕ) (m : LinkedHashMap) {h : ℕ} → map_fits m.capacity (length ws) ≡ true → m.len ≤ m.capacity → (m.refill_in ≡ 0 → ⊥) → walks ws m.capacity m.capacity m.capacity m.len ≡ true → walks ws m.capacity (m.capacity + 1) (m.capacity + 1) (m.capacity - m.len) ≡ true → finds_all ws m.capacity m.len (next ws m.capacity) ≡ true → h ≡ length (held_in ws m.capacity (cell_count m.capacity)) → Checking ws m (eqb h m.len)
checking ws m {h} f a o b c d e = record {
  sound = λ q. tests_map ws m f a o b c d (sym e ∙ eqb-true h m.len q);
  complete = λ is. eq-eqb h m.len (e ∙ map_held ws m is);
}
