-- `recycle`: as a record taken out and another put in, in the words of the first.
use mathlib.Core.Path.{◌≡◌, refl, sym, ap, ◌∙◌}
use mathlib.Core.Bool.{true, false, true≢false}
use mathlib.Core.Logic.{inl}
use mathlib.Core.List.{List, ◌∷◌, Memᴰ}
use Prim.Native.Nat.{ℕ, ◌+◌, ◌*◌, ◌/◌, ◌%◌, ◌<◌}
use native.Mathlib.Omega.{arith}
use lib.ListN.{length}
use Rattle.std.specs.Prelude.{Some, Ok}
use Rattle.limits.specs.Limits.{map_fits}
use Rattle.rings.specs.Ring as ring
use Rattle.rings.proofs.Counts.{mem_without}
use Rattle.rings.proofs.Links.{get_d_moved, past_moved}
use Rattle.rings.proofs.Two.{length_without_one}
use Rattle.cells.specs.declared.Probe.{Probe}
use Rattle.cells.specs.declared.Probe.TheVariants as probed
use Rattle.cells.specs.Cells.{key_at, cell_count, cell_word, weight, cell_at, erased}
use Rattle.cells.specs.Probe.{probe}
use Rattle.cells.proofs.Same.{probe_same}
use Rattle.cells.proofs.Probing.{at_found, free_vacant}
use Rattle.cells.proofs.Indexing.{erased_length, erased_outside, never_full}
use Rattle.linked_hash_map.specs.declared.map.LinkedHashMap.{LinkedHashMap}
use Rattle.linked_hash_map.specs.declared.map.Record.{Record}
use Rattle.linked_hash_map.specs.Words.{record_at, taken_out, put_in}
use Rattle.linked_hash_map.specs.Numbers.{shrunk_map, Grown, Renewing}
use Rattle.linked_hash_map.specs.Model.{Model, has, without, recycled}
use Rattle.linked_hash_map.specs.Map.{IsMap, live_of, free_of, model_of}
use Rattle.linked_hash_map.specs.Calls.{Recycling, Removing}
use Rattle.linked_hash_map.proofs.Records.{Search, found, missing, search_key, records, without_records}
use Rattle.linked_hash_map.proofs.Frames.{record_below, record_written, record_written_other}
use Rattle.linked_hash_map.proofs.Laid.{Laid, of_map, to_map, live_is, live_below, laid_recycled}
use Rattle.linked_hash_map.proofs.Keeping.{kept_same, kept_then, kept_erased, kept_put}
use Rattle.linked_hash_map.proofs.Probed.{misfit, Ends, hit, miss, free_not_at, free_not_full, live_length}
use Rattle.linked_hash_map.proofs.Putting.{removing_at, in_front_lem, put_record, grown_laid, grown_record, grown_kept}

-- the model, by whether the new record's key is held beside the old one's
recycled_none : (k : ℕ) (x : Record) (m : Model) → has k m ≡ false → recycled k x m ≡ m
unfolding recycled
recycled_none k x m e = rw e

recycled_held : (k : ℕ) (x : Record) (m : Model) → has k m ≡ true → has x.key (without k m) ≡ true → recycled k x m ≡ without k m
unfolding recycled
recycled_held k x m e h = rw (e, h)

pub recycled_new : (k : ℕ) (x : Record) (m : Model) → has k m ≡ true → has x.key (without k m) ≡ false → recycled k x m ≡ x ∷ without k m
unfolding recycled
recycled_new k x m e h = rw (e, h)

module _ {ws : List ℕ} {m : LinkedHashMap} (k : ℕ) (x : Record) where
  pub recycling_refused : map_fits m.capacity (length ws) ≡ false → Recycling ws m k x ws m
  recycling_refused e = record {
    refused = λ _. (refl, refl);
    capacity = refl;
    map = λ is. is;
    model = λ is. absurd (misfit e is);
    kept = kept_same m.capacity ws;
  }

  pub recycling_none : {r : Probe} → Ends ws m k r → ((c s : ℕ) → r ≡ probed.At c s → ⊥) → Recycling ws m k x ws m
  recycling_none o none = record {
    refused = λ q. absurd (true≢false (sym o.fits ∙ q));
    capacity = refl;
    map = λ is. is;
    model = λ is. sym (recycled_none k x (model_of ws m) (miss is k (λ c s p. none c s (sym o.at ∙ p))).held);
    kept = kept_same m.capacity ws;
  }

module _ (ws : List ℕ) (m : LinkedHashMap) (k : ℕ) (x : Record) (c s : ℕ) (f : map_fits m.capacity (length ws) ≡ true) (e : probe ws m.capacity k ≡ probed.At c s) where
  abbrev n : ℕ
  n = m.capacity

  abbrev E : List ℕ
  E = erased ws n c

  -- the map with the record taken out
  abbrev T : List ℕ
  T = taken_out ws n c s

  out : Removing ws m k T (shrunk_map m) (Ok (Some (record_at ws s)))
  out = removing_at k c s f e

  -- its cells are those with the record's cell emptied, since links alone differ
  same_probe : (j : ℕ) → probe T n j ≡ probe E n j
  unfolding taken_out cell_at
  same_probe j =
      probe_same E T n j
      (λ i h. ap (λ (w : ℕ). w / weight i % 65536) (past_moved (n + 2) E (n + 1) s (cell_word n i) (omega arith)))
      (λ i y h b d. get_d_moved (n + 2) E (n + 1) s (5 * y) (omega arith) (omega arith))

  out_probe : (j : ℕ) → probe T (shrunk_map m).capacity j ≡ probe E n j
  unfolding shrunk_map
  out_probe j = same_probe j

  -- ---- the new record's key is held, or the words are no map
  freed : (IsMap ws m → has x.key (model_of T (shrunk_map m)) ≡ true) → Recycling ws m k x T (shrunk_map m)
  freed h = record {
    refused = λ q. absurd (true≢false (sym f ∙ q));
    capacity = out.capacity;
    map = out.map;
    model = λ is. out.model is ∙ sym (recycled_held k x (model_of ws m) (hit is k e).held (ap (has x.key) (sym (out.model is)) ∙ h is));
    kept = out.kept;
  }

  -- ---- it is new
  module _ (d : ℕ) (q : probe E n x.key ≡ probed.Free d) (ws' : List ℕ) (r : LinkedHashMap) (g : Grown (put_in E n d s x) m m.len ws' r) where
    abbrev P : List ℕ
    P = put_in E n d s x

    abbrev rest : List ℕ
    rest = ring.without s (live_of ws m)

    c_in : c < cell_count n
    c_in = (at_found ws n k c s e).cell

    d_in : d < cell_count n
    d_in = (free_vacant E n x.key d q).cell

    below : s < n
    below = (at_found ws n k c s e).small

    -- what stands at the slots
    new_at : IsMap ws m → record_at ws' s ≡ x
    new_at is =
        grown_record P m m.len ws' r g s below
        ∙ put_record E n d s x s d_in below
        ∙ record_written E s x (omega (arith, is.room.words, erased_length ws n c, below))

    new_other : IsMap ws m → (y : ℕ) → Memᴰ y rest → record_at ws' y ≡ record_at ws y
    new_other is y p =
        let was = (mem_without s y (live_of ws m)).0 p in
        let b : y < n = live_below (of_map is) was.0 in
        grown_record P m m.len ws' r g y b
        ∙ put_record E n d s x y d_in b
        ∙ record_written_other E s x y was.1
        ∙ record_below n ws E (λ j h. erased_outside ws n c c_in j (inl h)) y b

    rest_records : IsMap ws m → records ws rest ≡ without k (model_of ws m)
    unfolding model_of
    rest_records is =
        let h = hit is k e in
        without_records ws s (live_of ws m) (λ y p z. is.index.apart y s p h.live z)
        ∙ ap (λ (j : ℕ). without j (records ws (live_of ws m))) h.key

    absent : IsMap ws m → has x.key (without k (model_of ws m)) ≡ false
    absent is = ap (has x.key) (sym (out.model is)) ∙ (miss (out.map is) x.key (free_not_at (out_probe x.key ∙ q))).held

    new : IsMap ws m → (y : ℕ) → Memᴰ y rest → key_at ws y ≡ x.key → ⊥
    new is y p d = go (search_key ws x.key rest)
      where
        go : Search ws x.key rest → ⊥
        go (found z i j a b h) = true≢false (sym h ∙ ap (has x.key) (rest_records is) ∙ absent is)
        go (missing none a b h) = none y p d

    count : IsMap ws m → m.len ≡ length (s ∷ rest)
    count is = omega (arith, length_without_one is.rings (hit is k e).live, live_length ws m)

    laid : IsMap ws m → Laid ws' r.capacity (s ∷ rest) (free_of ws m)
    laid is =
        rw g.capacity
        (grown_laid P m m.len ws' r g (s ∷ rest) (free_of ws m) (count is)
        (laid_recycled (of_map is) c d s x (ap (probe ws n) (hit is k e).key ∙ e) (new is) q))

    placed : Recycling ws m k x ws' r
    unfolding model_of
    placed = record {
      refused = λ z. absurd (true≢false (sym f ∙ z));
      capacity = g.capacity;
      map = λ is. to_map r (laid is) (g.count ∙ count is) g.opened;
      model = λ is.
          ap (records ws') (live_is r (laid is) (g.count ∙ count is))
          ∙ in_front_lem ws ws' s x rest (new_at is) (new_other is)
          ∙ ap (λ (l : Model). x ∷ l) (rest_records is)
          ∙ sym (recycled_new k x (model_of ws m) (hit is k e).held (absent is));
      kept = kept_then (kept_erased n ws c c_in) (kept_then (kept_put n E d s x d_in below) (grown_kept P m m.len ws' r g));
    }

  pub recycling_at : (ws' : List ℕ) (r : LinkedHashMap) → Renewing E m x s ws' r → Recycling ws m k x ws' r
  unfolding taken_out
  recycling_at ws' r g = go (probe E n x.key) refl
    where
      as_freed : (IsMap ws m → has x.key (model_of T (shrunk_map m)) ≡ true) → ((d : ℕ) → probe E n x.key ≡ probed.Free d → ⊥) → Recycling ws m k x ws' r
      as_freed h none = let w = g.freed none in rw (w.0, w.1) (freed h)

      go : (p : Probe) → probe E n x.key ≡ p → Recycling ws m k x ws' r
      go (probed.Free d) q = placed d q ws' r (g.put d q)
      go (probed.At d y) q = as_freed (λ is. (hit (out.map is) x.key (out_probe x.key ∙ q)).held) (λ b z. free_not_at z d y q)
      go probed.Full q = as_freed (λ is. absurd (never_full (out.map is).index x.key (out_probe x.key ∙ q))) (λ b z. free_not_full z q)
