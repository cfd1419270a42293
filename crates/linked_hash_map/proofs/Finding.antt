-- `find`, `touch`, `record` and `set_payload`: a probe leads to the key's record, or shows that there is none.
use mathlib.Core.Path.{◌≡◌, refl, sym, ap, ◌∙◌}
use mathlib.Core.Bool.{Bool, true, false, true≢false, cond}
use mathlib.Core.List.{List, ◌∷◌}
use Prim.Native.Nat.{ℕ, ◌+◌, ◌<◌, ◌≤◌}
use native.Mathlib.Omega.{arith}
use lib.Dec.{ltb}
use lib.ListN.{length, get_or}
use borrow.Author.Tests.{lt-ltb, ltb-true}
use Rattle.std.specs.Prelude.{Some, None, Ok}
use Rattle.limits.specs.Limits.{map_fits}
use Rattle.rings.specs.Ring as ring
use Rattle.rings.proofs.Two.{length_without_one}
use Rattle.cells.specs.declared.Probe.{Probe}
use Rattle.cells.specs.declared.Probe.TheVariants as probed
use Rattle.cells.specs.Probe.{probe}
use Rattle.cells.proofs.Probing.{at_found}
use Rattle.linked_hash_map.specs.declared.map.LinkedHashMap.{LinkedHashMap}
use Rattle.linked_hash_map.specs.declared.map.Record.{Record}
use Rattle.linked_hash_map.specs.Words.{record_at, written}
use Rattle.linked_hash_map.specs.Model.{Model, lookup, nth, without, to_front}
use Rattle.linked_hash_map.specs.Map.{IsMap, live_of, free_of, model_of, slot_of, slot_at}
use Rattle.linked_hash_map.specs.Calls.{unfit, zeros, Finding, Touching, Reading, Writing}
use Rattle.linked_hash_map.proofs.Records.{records, Search, found, missing, search_key, record_at_lem, records_same, records_written, payload_missing, mem_at, without_records}
use Rattle.linked_hash_map.proofs.Frames.{record_moved, record_written, record_written_other}
use Rattle.linked_hash_map.proofs.Laid.{Laid, of_map, to_map, live_is, live_below, laid_front, laid_written}
use Rattle.linked_hash_map.proofs.Keeping.{kept_same, kept_moved, kept_written}
use Rattle.linked_hash_map.proofs.Probed.{misfit, Ends, hit, miss, live_length}

-- a slot that a place has is a live record
pub place_slot : (ws : List ℕ) (m : LinkedHashMap) (i s : ℕ) → slot_at ws m i ≡ Some s → (i < m.len) × (get_or (live_of ws m) i 0 ≡ s)
unfolding slot_at
place_slot ws m i s e = go (ltb i m.len) refl e
  where
    go : (b : Bool) → ltb i m.len ≡ b → cond b (Some (get_or (live_of ws m) i 0)) None ≡ Some s → (i < m.len) × (get_or (live_of ws m) i 0 ≡ s)
    go true t q = (ltb-true _ _ t, cc)
    go false t q = absurd (let z : ◌≡◌ {A = ℕ} 0 1 = cc in omega arith)

-- ---- find
module _ {ws : List ℕ} {m : LinkedHashMap} (k : ℕ) where
  pub finding_refused : map_fits m.capacity (length ws) ≡ false → Finding ws m k unfit
  finding_refused e = record { refused = λ _. refl; answer = λ is. absurd (misfit e is) }

  pub finding_at : {c s : ℕ} → Ends ws m k (probed.At c s) → Finding ws m k (Ok (Some s))
  finding_at o = record { refused = λ q. absurd (true≢false (sym o.fits ∙ q)); answer = λ is. ap Ok (sym (hit is k o.at).slot) }

  pub finding_none : {r : Probe} → Ends ws m k r → ((c s : ℕ) → r ≡ probed.At c s → ⊥) → Finding ws m k (Ok None)
  finding_none o none = record { refused = λ q. absurd (true≢false (sym o.fits ∙ q)); answer = λ is. ap Ok (sym (miss is k (λ c s p. none c s (sym o.at ∙ p))).slot) }

-- ---- touch
module _ {ws : List ℕ} {m : LinkedHashMap} (k : ℕ) where
  pub touching_refused : map_fits m.capacity (length ws) ≡ false → Touching ws m k ws unfit
  touching_refused e = record {
    refused = λ _. (refl, refl);
    answer = λ is. absurd (misfit e is);
    map = λ is. is;
    model = λ is. absurd (misfit e is);
    front = λ is. absurd (misfit e is);
    kept = kept_same m.capacity ws;
  }

  pub touching_none : {r : Probe} → Ends ws m k r → ((c s : ℕ) → r ≡ probed.At c s → ⊥) → Touching ws m k ws (Ok None)
  unfolding to_front
  touching_none o none = record {
    refused = λ q. absurd (true≢false (sym o.fits ∙ q));
    answer = λ is. ap Ok (sym (miss is k not).slot);
    map = λ is. is;
    model = λ is. rw (miss is k not).look;
    front = λ is s q. absurd (let z : ◌≡◌ {A = ℕ} 0 1 = cc in omega arith);
    kept = kept_same m.capacity ws;
  }
    where
      not : (c s : ℕ) → probe ws m.capacity k ≡ probed.At c s → ⊥
      not c s p = none c s (sym o.at ∙ p)

  module _ (c s : ℕ) (o : Ends ws m k (probed.At c s)) where
    front_laid : IsMap ws m → Laid (ring.moved (m.capacity + 2) ws m.capacity s) m.capacity (s ∷ ring.without s (live_of ws m)) (free_of ws m)
    front_laid is = laid_front (of_map is) (hit is k o.at).live

    front_count : (is : IsMap ws m) → m.len ≡ length (s ∷ ring.without s (live_of ws m))
    front_count is = omega (arith, length_without_one is.rings (hit is k o.at).live, live_length ws m)

    pub touching_at : Touching ws m k (ring.moved (m.capacity + 2) ws m.capacity s) (Ok (Some s))
    unfolding to_front model_of slot_at
    touching_at = record {
      refused = λ q. absurd (true≢false (sym o.fits ∙ q));
      answer = λ is. ap Ok (sym (hit is k o.at).slot);
      map = λ is. to_map m (front_laid is) (front_count is) is.opened;
      model = λ is.
          let h = hit is k o.at in
          rw (live_is m (front_laid is) (front_count is), h.look)
          (records_same ws (ring.moved (m.capacity + 2) ws m.capacity s) (s ∷ ring.without s (live_of ws m)) (λ y q. record_moved (m.capacity + 2) ws m.capacity s y)
          ∙ ap (λ (rest : Model). record_at ws s ∷ rest) (without_records ws s (live_of ws m) (λ x q d. is.index.apart x s q h.live d) ∙ ap (λ (j : ℕ). without j (records ws (live_of ws m))) h.key));
      front = λ is r q.
          let same : s ≡ r = cc in
          rw (live_is m (front_laid is) (front_count is), lt-ltb 0 m.len (omega (arith, front_count is))) (ap Some same);
      kept = kept_moved m.capacity ws m.capacity s;
    }

-- ---- record
pub reading : (ws : List ℕ) (m : LinkedHashMap) (s : ℕ) → map_fits m.capacity (length ws) ≡ true → s < m.capacity → Reading ws m s (record_at ws s)
unfolding slot_of model_of
reading ws m s room h = record {
  refused = λ e. absurd (true≢false (sym room ∙ e));
  past = λ e. absurd (omega arith);
  keyed = λ is k e. go k (search_key ws k (live_of ws m)) e;
  placed = λ is i e. at i (place_slot ws m i s e);
}
  where
    go : (k : ℕ) → Search ws k (live_of ws m) → slot_of ws m k ≡ Some s → lookup k (model_of ws m) ≡ Some (record_at ws s)
    go k (found r q d a b h) e = let same : r ≡ s = cc in b ∙ ap (λ (x : ℕ). Some (record_at ws x)) same
    go k (missing none a b h) e = absurd (let z : ◌≡◌ {A = ℕ} 0 1 = cc in omega arith)

    at : (i : ℕ) → (i < m.len) × (get_or (live_of ws m) i 0 ≡ s) → nth i (model_of ws m) ≡ Some (record_at ws s)
    at i (h, e) = record_at_lem ws (live_of ws m) i 0 (omega (arith, live_length ws m)) ∙ ap (λ (x : ℕ). Some (record_at ws x)) e

-- a slot that is no record has no key and no place
pub reading_none : (ws : List ℕ) (m : LinkedHashMap) (s : ℕ) → (IsMap ws m → m.capacity ≤ s) → Reading ws m s zeros
unfolding slot_of
reading_none ws m s out = record {
  refused = λ e. refl;
  past = λ e. refl;
  keyed = λ is k e. absurd (go k is (search_key ws k (live_of ws m)) e);
  placed = λ is i e. absurd (at i is (place_slot ws m i s e));
}
  where
    go : (k : ℕ) → IsMap ws m → Search ws k (live_of ws m) → slot_of ws m k ≡ Some s → ⊥
    go k is (found x q d a b h) e = let same : x ≡ s = cc in omega (arith, live_below (of_map is) q, out is)
    go k is (missing none a b h) e = let z : ◌≡◌ {A = ℕ} 0 1 = cc in omega arith

    at : (i : ℕ) → IsMap ws m → (i < m.len) × (get_or (live_of ws m) i 0 ≡ s) → ⊥
    at i is (h, e) = omega (arith, live_below (of_map is) (mem_at (live_of ws m) i 0 (omega (arith, live_length ws m))), out is)

-- ---- set_payload
module _ {ws : List ℕ} {m : LinkedHashMap} (x : Record) where
  pub writing_refused : map_fits m.capacity (length ws) ≡ false → Writing ws m x ws false
  writing_refused e = record {
    refused = λ _. (refl, refl);
    answer = λ is. absurd (misfit e is);
    map = λ is. is;
    model = λ is. absurd (misfit e is);
    slots = λ is i. refl;
    kept = kept_same m.capacity ws;
  }

  pub writing_none : {r : Probe} → Ends ws m x.key r → ((c s : ℕ) → r ≡ probed.At c s → ⊥) → Writing ws m x ws false
  unfolding model_of
  writing_none o none = record {
    refused = λ q. absurd (true≢false (sym o.fits ∙ q));
    answer = λ is. sym (miss is x.key not).held;
    map = λ is. is;
    model = λ is. sym (payload_missing ws x (live_of ws m) (miss is x.key not).none);
    slots = λ is i. refl;
    kept = kept_same m.capacity ws;
  }
    where
      not : (c s : ℕ) → probe ws m.capacity x.key ≡ probed.At c s → ⊥
      not c s p = none c s (sym o.at ∙ p)

  module _ (c s : ℕ) (o : Ends ws m x.key (probed.At c s)) where
    written_laid : IsMap ws m → Laid (written ws s x) m.capacity (live_of ws m) (free_of ws m)
    written_laid is = laid_written (of_map is) s x (live_below (of_map is) (hit is x.key o.at).live) (λ q. (hit is x.key o.at).key)

    written_live : IsMap ws m → live_of (written ws s x) m ≡ live_of ws m
    written_live is = live_is m (written_laid is) (sym (live_length ws m))

    pub writing_at : Writing ws m x (written ws s x) true
    unfolding model_of slot_at
    writing_at = record {
      refused = λ q. absurd (true≢false (sym o.fits ∙ q));
      answer = λ is. sym (hit is x.key o.at).held;
      map = λ is. to_map m (written_laid is) (sym (live_length ws m)) is.opened;
      model = λ is.
          let h = hit is x.key o.at in
          let b : s < m.capacity = live_below (of_map is) h.live in
          rw (written_live is)
          (records_written ws (written ws s x) s x (live_of ws m)
          (λ y q d. is.index.apart y s q h.live d)
          (record_written ws s x (omega (arith, is.room.words)))
          (sym h.key)
          (λ y d. record_written_other ws s x y d));
      slots = λ is i. rw (written_live is);
      kept = kept_written m.capacity ws s x (at_found ws m.capacity x.key c s o.at).small;
    }
