-- What the layers above cite: how slots, keys, places and the model go together, with the words out of sight.
use mathlib.Core.Path.{◌≡◌, refl, sym, ap, ◌∙◌}
use mathlib.Core.Bool.{Bool, true, false, cond, ◌||◌, true≢false}
use mathlib.Core.List.{List, [], ◌∷◌, Memᴰ}
use Prim.Native.Nat.{ℕ, ◌+◌, ◌*◌, ◌<◌, ◌≤◌}
use native.Mathlib.Omega.{arith}
use lib.Dec.{eqb}
use lib.ListN.{length, get_or}
use borrow.Author.Tests.{lt-ltb, le-ltb}
use Rattle.std.specs.Prelude.{Some, None}
use Rattle.rings.proofs.Two.{count_le_one, two_frame}
use Rattle.cells.specs.Cells.{key_at}
use Rattle.cells.proofs.Indexing.{frame_words}
use Rattle.linked_hash_map.specs.declared.map.LinkedHashMap.{LinkedHashMap}
use Rattle.linked_hash_map.specs.declared.map.Record.{Record}
use Rattle.linked_hash_map.specs.Words.{words_for, record_at}
use Rattle.linked_hash_map.specs.Model.{Model, has, lookup, nth, without, Distinct}
use Rattle.linked_hash_map.specs.Map.{IsMap, live_of, free_of, model_of, slot_in, slot_of, slot_at}
use Rattle.linked_hash_map.proofs.Records.{Search, found, missing, search_key, records, records_same, records_distinct, record_at_lem, mem_at}
use Rattle.linked_hash_map.proofs.Frames.{record_of_words}
use Rattle.linked_hash_map.proofs.Laid.{Laid, of_map, to_map, live_is, live_below}
use Rattle.linked_hash_map.proofs.Probed.{live_length}
use Rattle.linked_hash_map.proofs.Finding.{place_slot}

-- a key that is not held takes nothing out
pub without_none : (k : ℕ) (l : Model) → has k l ≡ false → without k l ≡ l
unfolding has without
without_none k [] h = refl
without_none k (r ∷ l) h = go (eqb r.key k) h (without_none k l)
  where
    go : (b : Bool) → (b || has k l) ≡ false → (has k l ≡ false → without k l ≡ l) → cond b (without k l) (r ∷ without k l) ≡ r ∷ l
    go true q e = absurd (true≢false q)
    go false q e = ap (λ (x : Model). r ∷ x) (e q)

-- a key has a slot exactly where the model holds it
pub data Keyed (ws : List ℕ) (m : LinkedHashMap) (k : ℕ) : Type 0 where
  held : (s : ℕ) (r : Record) → slot_of ws m k ≡ Some s → lookup k (model_of ws m) ≡ Some r → has k (model_of ws m) ≡ true → Keyed ws m k
  absent : slot_of ws m k ≡ None → lookup k (model_of ws m) ≡ None → has k (model_of ws m) ≡ false → Keyed ws m k

pub keyed : (ws : List ℕ) (m : LinkedHashMap) (k : ℕ) → Keyed ws m k
unfolding slot_of model_of
keyed ws m k = go (search_key ws k (live_of ws m))
  where
    go : Search ws k (live_of ws m) → Keyed ws m k
    go (found s q d a b h) = held s (record_at ws s) a b h
    go (missing none a b h) = absent a b h

-- the key at a key's slot
slot_found : (ws : List ℕ) (m : LinkedHashMap) (k s : ℕ) → slot_of ws m k ≡ Some s → Memᴰ s (live_of ws m) × (key_at ws s ≡ k)
unfolding slot_of
slot_found ws m k s e = go (search_key ws k (live_of ws m))
  where
    go : Search ws k (live_of ws m) → Memᴰ s (live_of ws m) × (key_at ws s ≡ k)
    go (found x q d a b h) = let same : Some x ≡ Some s = sym a ∙ e in let is : x ≡ s = cc in (rw (sym is) q, ap (key_at ws) (sym is) ∙ d)
    go (missing none a b h) = absurd (let no : None ≡ Some s = sym a ∙ e in let z : ◌≡◌ {A = ℕ} 0 1 = cc in omega arith)

-- different keys have different slots
pub slot_key : (ws : List ℕ) (m : LinkedHashMap) (j k s : ℕ) → slot_of ws m j ≡ Some s → slot_of ws m k ≡ Some s → j ≡ k
slot_key ws m j k s a b = sym (slot_found ws m j s a).1 ∙ (slot_found ws m k s b).1

-- a place has a slot exactly where it is below the length
pub place_taken : (ws : List ℕ) (m : LinkedHashMap) (i : ℕ) → i < m.len → slot_at ws m i ≡ Some (get_or (live_of ws m) i 0)
unfolding slot_at
place_taken ws m i h = rw (lt-ltb i m.len h)

pub place_past : (ws : List ℕ) (m : LinkedHashMap) (i : ℕ) → m.len ≤ i → slot_at ws m i ≡ None
unfolding slot_at
place_past ws m i h = rw (le-ltb i m.len h)

pub place_below : (ws : List ℕ) (m : LinkedHashMap) (i s : ℕ) → slot_at ws m i ≡ Some s → i < m.len
place_below ws m i s e = (place_slot ws m i s e).0

module _ {ws : List ℕ} {m : LinkedHashMap} (is : IsMap ws m) where
  -- a key's slot is one of the map's
  pub slot_below : (k s : ℕ) → slot_of ws m k ≡ Some s → s < m.capacity
  slot_below k s e = live_below (of_map is) (slot_found ws m k s e).0

  -- no two records of the model share a key
  pub map_distinct : Distinct (model_of ws m)
  unfolding model_of
  map_distinct = records_distinct ws (live_of ws m) (count_le_one is.rings) is.index.apart

  -- the slot at a place is that of the key there
  pub place_key : (i s : ℕ) (r : Record) → slot_at ws m i ≡ Some s → nth i (model_of ws m) ≡ Some r → slot_of ws m r.key ≡ Some s
  unfolding slot_of model_of
  place_key i s r e q = go (search_key ws r.key (live_of ws m))
    where
      at : (i < m.len) × (get_or (live_of ws m) i 0 ≡ s)
      at = place_slot ws m i s e

      below : i < length (live_of ws m)
      below = omega (arith, live_length ws m, at.0)

      same : record_at ws s ≡ r
      same =
          let p : Some (record_at ws s) ≡ Some r = ap (λ (x : ℕ). Some (record_at ws x)) (sym at.1) ∙ sym (record_at_lem ws (live_of ws m) i 0 below) ∙ q in
          cc

      live : Memᴰ s (live_of ws m)
      live = rw (sym at.1) (mem_at (live_of ws m) i 0 below)

      key : key_at ws s ≡ r.key
      key = ap (λ (x : Record). x.key) same

      go : Search ws r.key (live_of ws m) → slot_in ws r.key (live_of ws m) ≡ Some s
      go (found x p d a b h) = a ∙ ap Some (is.index.apart x s p live (d ∙ sym key))
      go (missing none a b h) = absurd (none s live key)

  -- words past the map's own do not matter
  module _ (ws' : List ℕ) (fits : words_for m.capacity ≤ length ws') (same : (j : ℕ) → j < words_for m.capacity → get_or ws' j 0 ≡ get_or ws j 0) where
    frame_laid : Laid ws' m.capacity (live_of ws m) (free_of ws m)
    frame_laid = record {
      room = record { limit = is.room.limit; words = fits };
      rings = two_frame is.rings ws' (λ i h. same (5 * i + 3) (omega arith)) (λ i h. same (5 * i + 4) (omega arith)) (omega arith);
      index = frame_words (λ j a b. same j b) (λ s q. same (5 * s) (omega (arith, live_below (of_map is) q))) is.index;
    }

    pub map_frame : IsMap ws' m
    map_frame = to_map m frame_laid (sym (live_length ws m)) is.opened

    live_frame : live_of ws' m ≡ live_of ws m
    live_frame = live_is m frame_laid (sym (live_length ws m))

    pub model_frame : model_of ws' m ≡ model_of ws m
    unfolding model_of
    model_frame =
        ap (records ws') live_frame
        ∙ records_same ws ws' (live_of ws m) (λ s q. let b = live_below (of_map is) q in record_of_words ws ws' s (same (5 * s) (omega (arith, b))) (same (5 * s + 1) (omega (arith, b))) (same (5 * s + 2) (omega (arith, b))))

    pub place_frame : (i : ℕ) → slot_at ws' m i ≡ slot_at ws m i
    unfolding slot_at
    place_frame i = rw live_frame
