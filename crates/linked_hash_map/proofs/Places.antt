-- `seek`, and what goes on at the place that it tells.
use mathlib.Core.Path.{◌≡◌, refl, sym, ap, ◌∙◌}
use mathlib.Core.Bool.{true, false, true≢false}
use mathlib.Core.List.{List}
use Prim.Native.Nat.{ℕ, ◌+◌, ◌<◌, ◌≤◌}
use native.Mathlib.Omega.{arith}
use lib.ListN.{length}
use Rattle.std.specs.Prelude.{None, Ok, Err}
use Rattle.limits.specs.Limits.{map_fits}
use Rattle.rings.specs.Ring as ring
use Rattle.rings.proofs.Counts.{by_lt}
use Rattle.cells.specs.declared.Probe.{Probe}
use Rattle.cells.specs.declared.Probe.TheVariants as probed
use Rattle.cells.specs.Cells.{cell_count}
use Rattle.cells.proofs.Probing.{at_found, free_vacant}
use Rattle.cells.proofs.Indexing.{never_full}
use Rattle.linked_hash_map.specs.declared.map.LinkedHashMap.{LinkedHashMap}
use Rattle.linked_hash_map.specs.declared.map.Record.{Record}
use Rattle.linked_hash_map.specs.declared.map.Unfit.{Unfit}
use Rattle.linked_hash_map.specs.declared.map.PutError.TheVariants as failed
use Rattle.linked_hash_map.specs.Words.{record_at, replaced, taken_out, put_in}
use Rattle.linked_hash_map.specs.Numbers.{len_after, longer_map, shrunk_map, Inserting}
use Rattle.linked_hash_map.specs.Map.{IsMap}
use Rattle.linked_hash_map.specs.Calls.{zeros, place_of, ReplacingAt, InsertingAt, TakingAt, Putting, Removing}
use Rattle.linked_hash_map.proofs.Keeping.{kept_same, kept_then, kept_replaced, kept_taken, kept_put}
use Rattle.linked_hash_map.proofs.Probed.{misfit, ends, ends_not}
use Rattle.linked_hash_map.proofs.Putting.{removing_refused, removing_none, removing_at, putting_refused, putting_crowded, putting_at, putting_full, putting_free, inserted_numbers, grown_kept}

-- a map has a place for every key
pub full_no_map : {ws : List ℕ} {m : LinkedHashMap} (k : ℕ) → place_of ws m k ≡ Ok probed.Full → IsMap ws m → ⊥
full_no_map {ws} {m} k e is = never_full is.index k (ends ws m k e).at

pub refused_no_map : {ws : List ℕ} {m : LinkedHashMap} {e : Unfit} (k : ℕ) → place_of ws m k ≡ Err e → IsMap ws m → ⊥
refused_no_map {ws} {m} k q = misfit (ends_not ws m k q)

-- ---- where nothing goes on
module _ {ws : List ℕ} {m : LinkedHashMap} where
  pub put_over : (x : Record) {c : ℕ} → place_of ws m x.key ≡ Ok (probed.Free c) → m.capacity ≤ m.len → Putting ws m x ws m (Err failed.Full)
  put_over x e h = let o = ends ws m x.key e in putting_full ws m x _ o.fits o.at h

  pub put_full : (x : Record) → place_of ws m x.key ≡ Ok probed.Full → Putting ws m x ws m (Err failed.Full)
  put_full x e = let o = ends ws m x.key e in putting_crowded x o.fits o.at

  pub put_refused : (x : Record) {e : Unfit} → place_of ws m x.key ≡ Err e → Putting ws m x ws m (Err failed.Unfit)
  put_refused x q = putting_refused x (ends_not ws m x.key q)

  pub remove_none : (k : ℕ) {r : Probe} → place_of ws m k ≡ Ok r → ((c s : ℕ) → r ≡ probed.At c s → ⊥) → Removing ws m k ws m (Ok None)
  remove_none k q none = let o = ends ws m k q in removing_none k o.fits (λ c s p. none c s (sym o.at ∙ p))

  pub remove_refused : (k : ℕ) {e : Unfit} → place_of ws m k ≡ Err e → Removing ws m k ws m (Err e)
  remove_refused k q = removing_refused k (ends_not ws m k q)

-- ---- what goes on
module _ (ws : List ℕ) (m : LinkedHashMap) where
  module _ (f : map_fits m.capacity (length ws) ≡ true) where
    fits : {A : Type 0} → map_fits m.capacity (length ws) ≡ false → A
    fits q = absurd (true≢false (sym f ∙ q))

    pub replacing_at : (s : ℕ) (x : Record) → s < m.capacity → ReplacingAt ws m s x (replaced ws m.capacity s x) (record_at ws s)
    replacing_at s x b = record {
      refused = fits;
      put = λ c e. let o = ends ws m x.key e in putting_at x c s o.fits o.at;
      kept = kept_replaced m.capacity ws s x b;
    }

    pub inserting_at : (c : ℕ) (x : Record) {ws' : List ℕ} {r : LinkedHashMap} → c < cell_count m.capacity → Inserting ws m x c ws' r → InsertingAt ws m c x ws' r
    unfolding longer_map
    inserting_at c x {ws'} {r} b ins = record {
      refused = fits;
      put = λ e g. let o = ends ws m x.key e in putting_free ws m x c o.fits o.at ws' r g ins;
      numbers = λ e. inserted_numbers ins;
      capacity = ap (λ (y : LinkedHashMap). y.capacity) (inserted_numbers ins);
      kept =
          by_lt (ring.next ws (m.capacity + 1)) m.capacity
          (λ h. kept_then (kept_put m.capacity ws c (ring.next ws (m.capacity + 1)) x b h) (grown_kept (put_in ws m.capacity c (ring.next ws (m.capacity + 1)) x) m (len_after m) ws' r (ins.grown h)))
          (λ h. rw (ins.none h).1 (kept_same m.capacity ws));
    }

    -- a cell past the last is no key's
    pub inserting_beyond : {c : ℕ} {x : Record} → cell_count m.capacity ≤ c → InsertingAt ws m c x ws m
    inserting_beyond {c} {x} h = record { refused = fits; put = λ e g. absurd (omega (arith, (free_vacant _ _ _ _ (ends ws m x.key e).at).cell)); numbers = λ e. absurd (omega (arith, (free_vacant _ _ _ _ (ends ws m x.key e).at).cell)); capacity = refl; kept = kept_same m.capacity ws }

  -- a slot past the last is no key's
  pub replacing_past : {s : ℕ} {x : Record} → m.capacity ≤ s → ReplacingAt ws m s x ws x
  replacing_past {s} {x} h = record { refused = λ _. (refl, refl); put = λ c e. absurd (omega (arith, (at_found _ _ _ _ _ (ends ws m x.key e).at).small)); kept = kept_same m.capacity ws }

  -- with no room there is none at all
  module _ (f : map_fits m.capacity (length ws) ≡ false) where
    pub replacing_unfit : {s : ℕ} {x : Record} → ReplacingAt ws m s x ws x
    replacing_unfit {s} {x} = record { refused = λ _. (refl, refl); put = λ c e. absurd (true≢false (sym (ends ws m x.key e).fits ∙ f)); kept = kept_same m.capacity ws }

    pub inserting_unfit : {c : ℕ} {x : Record} → InsertingAt ws m c x ws m
    inserting_unfit {c} {x} = record { refused = λ _. (refl, refl); put = λ e g. absurd (true≢false (sym (ends ws m x.key e).fits ∙ f)); numbers = λ e. absurd (true≢false (sym (ends ws m x.key e).fits ∙ f)); capacity = refl; kept = kept_same m.capacity ws }

-- ---- the same of a removal
module _ (ws : List ℕ) (m : LinkedHashMap) (c s : ℕ) where
  pub taking_at : map_fits m.capacity (length ws) ≡ true → c < cell_count m.capacity → TakingAt ws m c s (taken_out ws m.capacity c s) (shrunk_map m) (record_at ws s).first
  unfolding shrunk_map
  taking_at f b = record {
    gone = record_at ws s;
    first = refl;
    refused = λ q. absurd (true≢false (sym f ∙ q));
    remove = λ k e. let o = ends ws m k e in removing_at k c s o.fits o.at;
    numbers = λ k e. refl;
    capacity = refl;
    kept = kept_taken m.capacity ws c s b;
  }

  -- where there is no key
  pub taking_none : ((k : ℕ) → place_of ws m k ≡ Ok (probed.At c s) → ⊥) → TakingAt ws m c s ws m 0
  taking_none h = record { gone = zeros; first = refl; refused = λ _. (refl, refl, refl); remove = λ k e. absurd (h k e); numbers = λ k e. absurd (h k e); capacity = refl; kept = kept_same m.capacity ws }

  pub taking_unfit : map_fits m.capacity (length ws) ≡ false → TakingAt ws m c s ws m 0
  taking_unfit f = taking_none (λ k e. true≢false (sym (ends ws m k e).fits ∙ f))

  pub taking_past : m.capacity ≤ s → TakingAt ws m c s ws m 0
  taking_past h = taking_none (λ k e. omega (arith, (at_found _ _ _ _ _ (ends ws m k e).at).small))

  pub taking_beyond : cell_count m.capacity ≤ c → TakingAt ws m c s ws m 0
  taking_beyond h = taking_none (λ k e. omega (arith, (at_found _ _ _ _ _ (ends ws m k e).at).cell))

pub ruleset takings = (taking_unfit, taking_past, taking_beyond, taking_at)

pub ruleset puttings = (put_over, put_full, put_refused)
