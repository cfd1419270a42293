-- `put` and `remove`: a record comes to the front of the model, or leaves it.
use mathlib.Core.Path.{◌≡◌, refl, sym, ap, ◌∙◌}
use mathlib.Core.Bool.{Bool, true, false, true≢false, cond}
use mathlib.Core.Logic.{inl}
use mathlib.Core.List.{List, [], ◌∷◌, map, Memᴰ}
use mathlib.Core.List.Memᴰ.{head}
use Prim.Native.Nat.{ℕ, ◌+◌, ◌-◌, ◌<◌, ◌≤◌}
use native.Mathlib.Omega.{arith}
use lib.Dec.{ltb}
use lib.ListN.{length, get_or, length-map}
use borrow.Author.Tests.{lt-ltb, le-ltb}
use Rattle.std.specs.Prelude.{Some, None, Ok, Err}
use Rattle.limits.specs.Limits.{map_fits}
use Rattle.rings.specs.Ring as ring
use Rattle.rings.proofs.Counts.{by_lt, mem_without}
use Rattle.rings.proofs.Two.{two_swap, other_is_below, mem_not_both, next_sentinel, length_without_one}
use Rattle.cells.specs.declared.Probe.TheVariants as probed
use Rattle.cells.specs.Cells.{key_at, cell_count, erased, set_cell}
use Rattle.cells.specs.Probe.{probe}
use Rattle.cells.proofs.Packing.{set_outside}
use Rattle.cells.proofs.Probing.{at_found, free_vacant}
use Rattle.cells.proofs.Indexing.{erased_outside, never_full}
use Rattle.linked_hash_map.specs.declared.map.LinkedHashMap.{LinkedHashMap}
use Rattle.linked_hash_map.specs.declared.map.Record.{Record}
use Rattle.linked_hash_map.specs.declared.map.PutError.TheVariants as failed
use Rattle.linked_hash_map.specs.Words.{Kept, record_at, written, replaced, taken_out, put_in, refilled}
use Rattle.linked_hash_map.specs.Numbers.{longer_map, shrunk_map, len_after, Grown, Inserting}
use Rattle.linked_hash_map.specs.Model.{Model, has, lookup, without, placing, put}
use Rattle.linked_hash_map.specs.Map.{IsMap, live_of, free_of, model_of}
use Rattle.linked_hash_map.specs.Calls.{unfit, Putting, Removing}
use Rattle.linked_hash_map.proofs.Records.{records, records_same, without_records, without_missing}
use Rattle.linked_hash_map.proofs.Frames.{record_below, record_moved, record_written, record_written_other}
use Rattle.linked_hash_map.proofs.Laid.{Laid, of_map, to_map, live_is, live_below, laid_front, laid_written, laid_taken, laid_put}
use Rattle.linked_hash_map.proofs.Refill.{laid_refilled}
use Rattle.linked_hash_map.proofs.Keeping.{kept_same, kept_then, kept_replaced, kept_taken, kept_put, kept_refilled, refilled_outside}
use Rattle.linked_hash_map.proofs.Probed.{misfit, hit, miss, free_not_at, live_length}

-- the model has as many records as the map says
pub model_length : (ws : List ℕ) (m : LinkedHashMap) → length (model_of ws m) ≡ m.len
unfolding model_of
model_length ws m = length-map (live_of ws m) (record_at ws) ∙ live_length ws m

-- ---- remove
taken_record : (ws : List ℕ) (n c s y : ℕ) → c < cell_count n → y < n → record_at (taken_out ws n c s) y ≡ record_at ws y
unfolding taken_out
taken_record ws n c s y b h =
    record_moved (n + 2) (erased ws n c) (n + 1) s y
    ∙ record_below n ws (erased ws n c) (λ j q. erased_outside ws n c b j (inl q)) y h

module _ {ws : List ℕ} {m : LinkedHashMap} (k : ℕ) where
  pub removing_refused : map_fits m.capacity (length ws) ≡ false → Removing ws m k ws m unfit
  removing_refused e = record {
    refused = λ _. (refl, refl, refl);
    answer = λ is. absurd (misfit e is);
    capacity = refl;
    map = λ is. is;
    model = λ is. absurd (misfit e is);
    kept = kept_same m.capacity ws;
  }

  pub removing_none : map_fits m.capacity (length ws) ≡ true → ((c s : ℕ) → probe ws m.capacity k ≡ probed.At c s → ⊥) → Removing ws m k ws m (Ok None)
  unfolding model_of
  removing_none f none = record {
    refused = λ q. absurd (true≢false (sym f ∙ q));
    answer = λ is. ap Ok (sym (miss is k none).look);
    capacity = refl;
    map = λ is. is;
    model = λ is. sym (without_missing ws k (live_of ws m) (miss is k none).none);
    kept = kept_same m.capacity ws;
  }

  module _ (c s : ℕ) (f : map_fits m.capacity (length ws) ≡ true) (e : probe ws m.capacity k ≡ probed.At c s) where
    taken_laid : IsMap ws m → Laid (taken_out ws m.capacity c s) m.capacity (ring.without s (live_of ws m)) (s ∷ free_of ws m)
    taken_laid is = laid_taken (of_map is) c s (ap (probe ws m.capacity) (hit is k e).key ∙ e)

    taken_count : IsMap ws m → m.len - 1 ≡ length (ring.without s (live_of ws m))
    taken_count is = omega (arith, length_without_one is.rings (hit is k e).live, live_length ws m)

    pub removing_at : Removing ws m k (taken_out ws m.capacity c s) (shrunk_map m) (Ok (Some (record_at ws s)))
    unfolding model_of shrunk_map
    removing_at = record {
      refused = λ q. absurd (true≢false (sym f ∙ q));
      answer = λ is. ap Ok (sym (hit is k e).look);
      capacity = refl;
      map = λ is. to_map (shrunk_map m) (taken_laid is) (taken_count is) is.opened;
      model = λ is.
          let h = hit is k e in
          rw (live_is (shrunk_map m) (taken_laid is) (taken_count is))
          (records_same ws (taken_out ws m.capacity c s) (ring.without s (live_of ws m)) (λ y q. taken_record ws m.capacity c s y (at_found ws m.capacity k c s e).cell (live_below (of_map is) ((mem_without s y (live_of ws m)).0 q).0))
          ∙ without_records ws s (live_of ws m) (λ x q d. is.index.apart x s q h.live d)
          ∙ ap (λ (j : ℕ). without j (records ws (live_of ws m))) h.key);
      kept = kept_taken m.capacity ws c s (at_found ws m.capacity k c s e).cell;
    }

-- ---- put
-- the record at slot s in front, and the others of a list as they were
pub in_front_lem : (ws ws' : List ℕ) (s : ℕ) (x : Record) (l : List ℕ) → record_at ws' s ≡ x → ((y : ℕ) → Memᴰ y l → record_at ws' y ≡ record_at ws y) → records ws' (s ∷ l) ≡ x ∷ records ws l
in_front_lem ws ws' s x l at same = let ih : records ws' l ≡ records ws l = records_same ws ws' l same in cc

module _ {ws : List ℕ} {m : LinkedHashMap} (x : Record) where
  pub putting_refused : map_fits m.capacity (length ws) ≡ false → Putting ws m x ws m (Err failed.Unfit)
  putting_refused e = record {
    refused = λ _. (refl, refl, refl);
    answer = λ is. absurd (misfit e is);
    capacity = refl;
    map = λ is. is;
    model = λ is. absurd (misfit e is);
    full = λ q. (refl, refl);
    kept = kept_same m.capacity ws;
  }

  -- every cell holds a record: no map
  pub putting_crowded : map_fits m.capacity (length ws) ≡ true → probe ws m.capacity x.key ≡ probed.Full → Putting ws m x ws m (Err failed.Full)
  putting_crowded f e = record {
    refused = λ q. absurd (true≢false (sym f ∙ q));
    answer = λ is. absurd (never_full is.index x.key e);
    capacity = refl;
    map = λ is. is;
    model = λ is. absurd (never_full is.index x.key e);
    full = λ q. (refl, refl);
    kept = kept_same m.capacity ws;
  }

  module _ (c s : ℕ) (f : map_fits m.capacity (length ws) ≡ true) (e : probe ws m.capacity x.key ≡ probed.At c s) where
    replaced_laid : IsMap ws m → Laid (replaced ws m.capacity s x) m.capacity (s ∷ ring.without s (live_of ws m)) (free_of ws m)
    unfolding replaced
    replaced_laid is =
        let h = hit is x.key e in
        laid_front (laid_written (of_map is) s x (live_below (of_map is) h.live) (λ q. h.key)) h.live

    replaced_count : IsMap ws m → m.len ≡ length (s ∷ ring.without s (live_of ws m))
    replaced_count is = omega (arith, length_without_one is.rings (hit is x.key e).live, live_length ws m)

    pub putting_at : Putting ws m x (replaced ws m.capacity s x) m (Ok (Some (record_at ws s)))
    unfolding model_of placing put replaced
    putting_at = record {
      refused = λ q. absurd (true≢false (sym f ∙ q));
      answer = λ is. rw (hit is x.key e).look;
      capacity = refl;
      map = λ is. to_map m (replaced_laid is) (replaced_count is) is.opened;
      model = λ is.
          let h = hit is x.key e in
          let n = m.capacity in
          rw (live_is m (replaced_laid is) (replaced_count is), h.held)
          (in_front_lem ws (replaced ws n s x) s x (ring.without s (live_of ws m))
          (record_moved (n + 2) (written ws s x) n s s ∙ record_written ws s x (omega (arith, is.room.words, live_below (of_map is) h.live)))
          (λ y q. record_moved (n + 2) (written ws s x) n s y ∙ record_written_other ws s x y ((mem_without s y (live_of ws m)).0 q).1)
          ∙ ap (λ (rest : Model). x ∷ rest)
          (without_records ws s (live_of ws m) (λ y q d. is.index.apart y s q h.live d)
          ∙ ap (λ (j : ℕ). without j (records ws (live_of ws m))) h.key));
      full = λ q. absurd (let z : ◌≡◌ {A = ℕ} 0 1 = cc in omega arith);
      kept = kept_replaced m.capacity ws s x (at_found ws m.capacity x.key c s e).small;
    }

-- a new key with room
placing_new : (n : ℕ) (x : Record) (m : Model) → lookup x.key m ≡ None → length m < n → placing n x m ≡ Ok None
unfolding placing
placing_new n x m e h = rw (e, lt-ltb (length m) n h)

put_new : (n : ℕ) (x : Record) (m : Model) → has x.key m ≡ false → length m < n → put n x m ≡ x ∷ without x.key m
unfolding put
put_new n x m e h = rw (e, lt-ltb (length m) n h)

-- ---- the numbers and the cells after an insertion: entering the records anew changes no record
module _ (P : List ℕ) (m : LinkedHashMap) (k : ℕ) (ws' : List ℕ) (r : LinkedHashMap) (g : Grown P m k ws' r) where
  either : (G : List ℕ → Type 0) → G P → G (refilled P m.capacity k) → G ws'
  either G a b = rw g.words (pick (ltb 1 m.refill_in))
    where
      pick : (t : Bool) → G (cond t P (refilled P m.capacity k))
      pick true = a
      pick false = b

  pub grown_laid : (l f : List ℕ) → k ≡ length l → Laid P m.capacity l f → Laid ws' m.capacity l f
  grown_laid l f e laid = either (λ (ws : List ℕ). Laid ws m.capacity l f) laid (rw e (laid_refilled laid))

  pub grown_record : (y : ℕ) → y < m.capacity → record_at ws' y ≡ record_at P y
  grown_record y h =
      either (λ (ws : List ℕ). record_at ws y ≡ record_at P y) refl
      (record_below m.capacity P (refilled P m.capacity k) (λ j b. refilled_outside m.capacity k j P (inl b)) y h)

  pub grown_kept : Kept m.capacity P ws'
  grown_kept = either (λ (ws : List ℕ). Kept m.capacity P ws) (kept_same m.capacity P) (kept_refilled m.capacity k P)

-- its three steps
pub put_in_lem : {w₁ w₂ w₃ : List ℕ} (ws : List ℕ) (n c s : ℕ) (r : Record) → w₁ ≡ written ws s r → w₂ ≡ set_cell w₁ n c (s + 1) → w₃ ≡ ring.moved (n + 2) w₂ n s → w₃ ≡ put_in ws n c s r
unfolding put_in
put_in_lem ws n c s r p q m = cc

pub put_record : (ws : List ℕ) (n c s : ℕ) (x : Record) (y : ℕ) → c < cell_count n → y < n → record_at (put_in ws n c s x) y ≡ record_at (written ws s x) y
unfolding put_in
put_record ws n c s x y b h =
    record_moved (n + 2) (set_cell (written ws s x) n c (s + 1)) n s y
    ∙ record_below n (written ws s x) (set_cell (written ws s x) n c (s + 1)) (λ j q. set_outside (written ws s x) n c (s + 1) b j (inl q)) y h

module _ (ws : List ℕ) (m : LinkedHashMap) (x : Record) (c : ℕ) (f : map_fits m.capacity (length ws) ≡ true) (e : probe ws m.capacity x.key ≡ probed.Free c) where
  -- the first free record, or where there is none the ring's own node
  first_free : IsMap ws m → ring.next ws (m.capacity + 1) ≡ get_or (free_of ws m) 0 (m.capacity + 1)
  first_free is = next_sentinel (two_swap is.rings)

  none_free : IsMap ws m → m.capacity ≤ ring.next ws (m.capacity + 1) → m.len ≡ m.capacity
  none_free is h = go (free_of ws m) refl
    where
      go : (l : List ℕ) → free_of ws m ≡ l → m.len ≡ m.capacity
      go [] q = omega (arith, is.rings.size, live_length ws m, ap length q)
      go (y ∷ l) q =
          let here : ring.next ws (m.capacity + 1) ≡ y = first_free is ∙ ap (λ (k : List ℕ). get_or k 0 (m.capacity + 1)) q in
          let mem : Memᴰ y (free_of ws m) = rw q (head refl) in
          absurd (omega (arith, other_is_below is.rings mem))

  some_free : IsMap ws m → ring.next ws (m.capacity + 1) < m.capacity → Memᴰ (ring.next ws (m.capacity + 1)) (free_of ws m)
  some_free is h = go (free_of ws m) refl
    where
      go : (l : List ℕ) → free_of ws m ≡ l → Memᴰ (ring.next ws (m.capacity + 1)) (free_of ws m)
      go [] q =
          let here : ring.next ws (m.capacity + 1) ≡ m.capacity + 1 = first_free is ∙ ap (λ (k : List ℕ). get_or k 0 (m.capacity + 1)) q in
          absurd (omega arith)
      go (y ∷ l) q =
          let here : ring.next ws (m.capacity + 1) ≡ y = first_free is ∙ ap (λ (k : List ℕ). get_or k 0 (m.capacity + 1)) q in
          rw q (head here)

  -- as many records as the capacity
  pub putting_full : m.capacity ≤ m.len → Putting ws m x ws m (Err failed.Full)
  unfolding placing put
  putting_full h = record {
    refused = λ q. absurd (true≢false (sym f ∙ q));
    answer = λ is. rw ((miss is x.key (free_not_at e)).look, le-ltb (length (model_of ws m)) m.capacity (omega (arith, model_length ws m)));
    capacity = refl;
    map = λ is. is;
    model = λ is. rw ((miss is x.key (free_not_at e)).held, le-ltb (length (model_of ws m)) m.capacity (omega (arith, model_length ws m)));
    full = λ q. (refl, refl);
    kept = kept_same m.capacity ws;
  }

  -- fewer, and no record free: no map
  putting_nowhere : {r : LinkedHashMap} → r.capacity ≡ m.capacity → m.len < m.capacity → m.capacity ≤ ring.next ws (m.capacity + 1) → Putting ws m x ws r (Ok None)
  putting_nowhere {r} q b h = record {
    refused = λ q. absurd (true≢false (sym f ∙ q));
    answer = λ is. absurd (omega (arith, none_free is h));
    capacity = q;
    map = λ is. absurd (omega (arith, none_free is h));
    model = λ is. absurd (omega (arith, none_free is h));
    full = λ q. absurd (let z : ◌≡◌ {A = ℕ} 0 1 = cc in omega arith);
    kept = kept_same m.capacity ws;
  }

  module _ (ws' : List ℕ) (r : LinkedHashMap) (ins : Inserting ws m x c ws' r) (h : ring.next ws (m.capacity + 1) < m.capacity) where
    abbrev s : ℕ
    s = ring.next ws (m.capacity + 1)

    abbrev P : List ℕ
    P = put_in ws m.capacity c s x

    new : (is : IsMap ws m) (y : ℕ) → Memᴰ y (live_of ws m) → key_at ws y ≡ x.key → ⊥
    new is = (miss is x.key (free_not_at e)).none

    count_after : IsMap ws m → len_after m ≡ length (s ∷ live_of ws m)
    unfolding len_after
    count_after is =
        let room : m.len < m.capacity = omega (arith, is.rings.size, live_length ws m, length_without_one (two_swap is.rings) (some_free is h)) in
        rw (lt-ltb m.len m.capacity room) (omega (arith, live_length ws m))

    new_laid : IsMap ws m → Laid ws' m.capacity (s ∷ live_of ws m) (ring.without s (free_of ws m))
    new_laid is = grown_laid P m (len_after m) ws' r (ins.grown h) _ _ (count_after is) (laid_put (of_map is) c s x (some_free is h) (new is) e)

    -- what stands at the slots after the insertion
    new_at : IsMap ws m → record_at ws' s ≡ x
    new_at is =
        grown_record P m (len_after m) ws' r (ins.grown h) s h
        ∙ put_record ws m.capacity c s x s (free_vacant ws m.capacity x.key c e).cell h
        ∙ record_written ws s x (omega (arith, is.room.words))

    new_other : IsMap ws m → (y : ℕ) → Memᴰ y (live_of ws m) → record_at ws' y ≡ record_at ws y
    new_other is y q =
        let b : y < m.capacity = live_below (of_map is) q in
        grown_record P m (len_after m) ws' r (ins.grown h) y b
        ∙ put_record ws m.capacity c s x y (free_vacant ws m.capacity x.key c e).cell b
        ∙ record_written_other ws s x y (λ d. mem_not_both is.rings (mathlib.Core.List.Memᴰ.cast (sym d) q) (some_free is h))

    laid_after : IsMap ws m → Laid ws' r.capacity (s ∷ live_of ws m) (ring.without s (free_of ws m))
    laid_after is = rw (ins.grown h).capacity (new_laid is)

    new_live : IsMap ws m → live_of ws' r ≡ s ∷ live_of ws m
    new_live is = live_is r (laid_after is) ((ins.grown h).count ∙ count_after is)

    room_left : IsMap ws m → length (model_of ws m) < m.capacity
    room_left is = omega (arith, model_length ws m, is.rings.size, live_length ws m, length_without_one (two_swap is.rings) (some_free is h))

    putting_inserted : Putting ws m x ws' r (Ok None)
    unfolding model_of
    putting_inserted = record {
      refused = λ q. absurd (true≢false (sym f ∙ q));
      answer = λ is. sym (placing_new m.capacity x (model_of ws m) (miss is x.key (free_not_at e)).look (room_left is));
      capacity = (ins.grown h).capacity;
      map = λ is. to_map r (laid_after is) ((ins.grown h).count ∙ count_after is) (ins.grown h).opened;
      model = λ is.
          let h' = miss is x.key (free_not_at e) in
          ap (records ws') (new_live is)
          ∙ in_front_lem ws ws' s x (live_of ws m) (new_at is) (new_other is)
          ∙ ap (λ (rest : Model). x ∷ rest) (sym (without_missing ws x.key (live_of ws m) h'.none))
          ∙ sym (put_new m.capacity x (model_of ws m) h'.held (room_left is));
      full = λ q. absurd (let z : ◌≡◌ {A = ℕ} 0 1 = cc in omega arith);
      kept = kept_then (kept_put m.capacity ws c s x (free_vacant ws m.capacity x.key c e).cell h) (grown_kept P m (len_after m) ws' r (ins.grown h));
    }

  -- the insertion of a key whose probe offers cell c
  pub putting_free : (ws' : List ℕ) (r : LinkedHashMap) → m.len < m.capacity → Inserting ws m x c ws' r → Putting ws m x ws' r (Ok None)
  unfolding longer_map
  putting_free ws' r b ins =
      by_lt (ring.next ws (m.capacity + 1)) m.capacity
      (putting_inserted ws' r ins)
      (λ h. rw (ins.none h).1 (putting_nowhere (ap (λ (y : LinkedHashMap). y.capacity) (ins.none h).0) b h))

-- the numbers after an insertion, whatever the words
pub inserted_numbers : {ws ws' : List ℕ} {m r : LinkedHashMap} {x : Record} {c : ℕ} → Inserting ws m x c ws' r → r ≡ longer_map m r.refill_in
unfolding longer_map
inserted_numbers {ws} {ws'} {m} {r} ins =
    by_lt (ring.next ws (m.capacity + 1)) m.capacity
    (λ h. let g = ins.grown h in λ i. record { capacity = g.capacity i; len = g.count i; refill_in = r.refill_in })
    (λ h. let e = (ins.none h).0 in λ i. record { capacity = (e i).capacity; len = (e i).len; refill_in = r.refill_in })
