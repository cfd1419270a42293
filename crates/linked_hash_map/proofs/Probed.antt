-- What the probe of a key says of the model.
use mathlib.Core.Path.{◌≡◌, refl, sym, ap, ◌∙◌}
use mathlib.Core.Bool.{Bool, true, false, cond, true≢false}
use mathlib.Core.Logic.{◌⊎◌, ⊎_elim}
use mathlib.Core.List.{List, Memᴰ}
use Prim.Native.Nat.{ℕ, ◌+◌, ◌-◌, ◌*◌}
use native.Mathlib.Omega.{arith}
use lib.ListN.{length}
use borrow.Author.Tests.{le-leb}
use Rattle.std.specs.Prelude.{Some, None, Result, Ok, Err, IsErr}
use Rattle.limits.specs.Limits.{map_fits}
use Rattle.cells.specs.declared.Probe.{Probe}
use Rattle.cells.specs.declared.Probe.TheVariants as probed
use Rattle.cells.specs.Cells.{key_at}
use Rattle.cells.specs.Probe.{probe}
use Rattle.cells.proofs.Indexing.{found_live, live_found}
use Rattle.rings.proofs.Walks.{length_along}
use Rattle.linked_hash_map.specs.declared.map.LinkedHashMap.{LinkedHashMap}
use Rattle.linked_hash_map.specs.declared.map.Unfit.{Unfit}
use Rattle.linked_hash_map.specs.Words.{Room, record_at}
use Rattle.linked_hash_map.specs.Model.{has, lookup}
use Rattle.linked_hash_map.specs.Map.{IsMap, live_of, free_of, model_of, slot_of}
use Rattle.linked_hash_map.specs.Calls.{unfit, place_of}
use Rattle.linked_hash_map.proofs.Limits.{is_room}
use Rattle.linked_hash_map.proofs.Records.{Search, found, missing, search_key}

pub map_fits_lem : {ws : List ℕ} {m : LinkedHashMap} → IsMap ws m → map_fits m.capacity (length ws) ≡ true
unfolding map_fits
map_fits_lem {ws} {m} is = simp (le-leb m.capacity 4096 is.room.limit, le-leb (8 * m.capacity + 58) (length ws) is.room.words)

-- where the search for a key ends, and that there is none
module _ (ws : List ℕ) (m : LinkedHashMap) (k : ℕ) where
  pub record Ends (r : Probe) : Type 0 where
    pub fits : map_fits m.capacity (length ws) ≡ true
    pub at : probe ws m.capacity k ≡ r

  pub ends : {r : Probe} → place_of ws m k ≡ Ok r → Ends r
  unfolding place_of
  ends {r} e = go (map_fits m.capacity (length ws)) refl e
    where
      go : (b : Bool) → map_fits m.capacity (length ws) ≡ b → cond b (Ok (probe ws m.capacity k)) unfit ≡ Ok r → Ends r
      go true f q = record { fits = f; at = cc }
      go false f q = absurd (let z : ◌≡◌ {A = ℕ} 0 1 = cc in omega arith)

  pub ends_not : {e : Unfit} → place_of ws m k ≡ Err e → map_fits m.capacity (length ws) ≡ false
  unfolding place_of
  ends_not {e} q = go (map_fits m.capacity (length ws)) refl q
    where
      go : (b : Bool) → map_fits m.capacity (length ws) ≡ b → cond b (Ok (probe ws m.capacity k)) unfit ≡ Err e → map_fits m.capacity (length ws) ≡ false
      go true f p = absurd (let z : ◌≡◌ {A = ℕ} 0 1 = cc in omega arith)
      go false f p = f

pub ends_room : {ws : List ℕ} {m : LinkedHashMap} {k : ℕ} {r : Probe} → Ends ws m k r → Room (length ws) m.capacity
ends_room o = is_room _ _ o.fits

-- an error that a call hands on says that the words do not fit
pub err_unfit : {A : Type 0} (r : Result A Unfit) → IsErr r → r ≡ unfit
err_unfit (Ok x) e = absurd (true≢false (sym e))
err_unfit (Err y) e = refl

-- words that do not fit are no map
pub misfit : {ws : List ℕ} {m : LinkedHashMap} → map_fits m.capacity (length ws) ≡ false → IsMap ws m → ⊥
misfit e is = true≢false (sym (map_fits_lem is) ∙ e)

-- an end of a probe is no other
pub free_not_at : {r : Probe} {c : ℕ} → r ≡ probed.Free c → (d s : ℕ) → r ≡ probed.At d s → ⊥
free_not_at e d s q = let z : ◌≡◌ {A = ℕ} 0 1 = cc in omega arith

pub full_not_at : {r : Probe} → r ≡ probed.Full → (d s : ℕ) → r ≡ probed.At d s → ⊥
full_not_at e d s q = let z : ◌≡◌ {A = ℕ} 0 1 = cc in omega arith

-- what a search that finds no record ends at
pub none_at : {r : Probe} → ((c : ℕ) × (r ≡ probed.Free c)) ⊎ (r ≡ probed.Full) → (d s : ℕ) → r ≡ probed.At d s → ⊥
none_at e = ⊎_elim (λ o. free_not_at o.1) full_not_at e

pub free_not_full : {r : Probe} {c : ℕ} → r ≡ probed.Free c → r ≡ probed.Full → ⊥
free_not_full e q = let z : ◌≡◌ {A = ℕ} 0 1 = cc in omega arith

-- a record of the key is found
pub record Hit (ws : List ℕ) (m : LinkedHashMap) (k s : ℕ) : Type 0 where
  pub live : Memᴰ s (live_of ws m)
  pub key : key_at ws s ≡ k
  pub slot : slot_of ws m k ≡ Some s
  pub look : lookup k (model_of ws m) ≡ Some (record_at ws s)
  pub held : has k (model_of ws m) ≡ true

-- there is none
pub record Miss (ws : List ℕ) (m : LinkedHashMap) (k : ℕ) : Type 0 where
  pub none : (s : ℕ) → Memᴰ s (live_of ws m) → key_at ws s ≡ k → ⊥
  pub slot : slot_of ws m k ≡ None
  pub look : lookup k (model_of ws m) ≡ None
  pub held : has k (model_of ws m) ≡ false

module _ {ws : List ℕ} {m : LinkedHashMap} (is : IsMap ws m) (k : ℕ) where
  pub hit : {c s : ℕ} → probe ws m.capacity k ≡ probed.At c s → Hit ws m k s
  unfolding slot_of model_of
  hit {c} {s} e = go (search_key ws k (live_of ws m))
    where
      live : Memᴰ s (live_of ws m)
      live = (found_live is.index k c s e).0

      key : key_at ws s ≡ k
      key = (found_live is.index k c s e).1

      go : Search ws k (live_of ws m) → Hit ws m k s
      go (found r q d a b h) =
          let is-s : r ≡ s = is.index.apart r s q live (d ∙ sym key) in
          record { live = live; key = key; slot = a ∙ ap Some is-s; look = b ∙ ap (λ (x : ℕ). Some (record_at ws x)) is-s; held = h }
      go (missing none a b h) = absurd (none s live key)

  pub miss : ((c s : ℕ) → probe ws m.capacity k ≡ probed.At c s → ⊥) → Miss ws m k
  unfolding slot_of model_of
  miss not = go (search_key ws k (live_of ws m))
    where
      go : Search ws k (live_of ws m) → Miss ws m k
      go (found r q d a b h) = let o = live_found is.index k r q d in absurd (not o.0 r o.1)
      go (missing none a b h) = record { none = none; slot = a; look = b; held = h }

pub live_length : (ws : List ℕ) (m : LinkedHashMap) → length (live_of ws m) ≡ m.len
unfolding live_of
live_length ws m = length_along ws _ m.len

pub free_length : (ws : List ℕ) (m : LinkedHashMap) → length (free_of ws m) ≡ m.capacity - m.len
unfolding free_of
free_length ws m = length_along ws _ (m.capacity - m.len)
