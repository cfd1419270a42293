-- `open` makes the empty map, whatever the words held, and `clear` of a map, by wiping it or by draining it.
use mathlib.Core.Path.{◌≡◌, refl, sym, ap, ◌∙◌}
use mathlib.Core.Bool.{true, false, true≢false}
use mathlib.Core.List.{List, [], ◌∷◌, map}
use Prim.Native.Nat.{ℕ}
use native.Mathlib.Omega.{arith}
use lib.ListN.{length}
use Rattle.std.specs.Prelude.{Ok}
use Rattle.limits.specs.Limits.{map_fits}
use Rattle.linked_hash_map.specs.declared.map.LinkedHashMap.{LinkedHashMap}
use Rattle.linked_hash_map.specs.Words.{record_at, emptied, wiped}
use Rattle.linked_hash_map.specs.Numbers.{empty_map}
use Rattle.linked_hash_map.specs.Model.{Model}
use Rattle.linked_hash_map.specs.Map.{IsMap, model_of}
use Rattle.linked_hash_map.specs.Calls.{unfit, Opening, Clearing, Draining}
use Rattle.linked_hash_map.proofs.Limits.{is_room}
use Rattle.linked_hash_map.proofs.Probed.{misfit, err_unfit}
use Rattle.linked_hash_map.proofs.Laid.{of_map, to_map, live_is}
use Rattle.linked_hash_map.proofs.Refill.{laid_emptied, laid_wiped}
use Rattle.linked_hash_map.proofs.Keeping.{kept_same, kept_emptied, kept_wiped}

module _ (ws : List ℕ) (n : ℕ) (f : map_fits n (length ws) ≡ true) where
  empty_is_map : IsMap (emptied ws n) (empty_map n)
  empty_is_map = to_map (empty_map n) (laid_emptied ws n (is_room n (length ws) f)) refl (omega arith)

  empty_model : model_of (emptied ws n) (empty_map n) ≡ []
  unfolding model_of
  empty_model = ap (map (record_at (emptied ws n))) (live_is (empty_map n) (laid_emptied ws n (is_room n (length ws) f)) refl)

  pub opening : Opening ws n (emptied ws n) (Ok (empty_map n))
  opening = record {
    refused = λ q. absurd (true≢false (sym f ∙ q));
    opened = λ _. refl;
    capacity = refl;
    map = empty_is_map;
    model = empty_model;
    kept = kept_emptied n ws;
  }

pub opening_refused : (ws : List ℕ) (n : ℕ) → map_fits n (length ws) ≡ false → Opening ws n ws unfit
opening_refused ws n e = record {
  refused = λ _. (refl, refl);
  opened = λ q. absurd (true≢false (sym q ∙ e));
  capacity = tt;
  map = tt;
  model = tt;
  kept = kept_same n ws;
}

none_left : (l : Model) → length l ≡ 0 → l ≡ []
none_left [] e = refl
none_left (r ∷ l) e = absurd (omega arith)

module _ (ws : List ℕ) (m : LinkedHashMap) where
  wiped_is_map : IsMap ws m → IsMap (wiped ws m.capacity) (empty_map m.capacity)
  wiped_is_map is = to_map (empty_map m.capacity) (laid_wiped (of_map is)) refl (omega arith)

  wiped_model : IsMap ws m → model_of (wiped ws m.capacity) (empty_map m.capacity) ≡ []
  unfolding model_of
  wiped_model is = ap (map (record_at (wiped ws m.capacity))) (live_is (empty_map m.capacity) (laid_wiped (of_map is)) refl)

  pub clearing_wiped : map_fits m.capacity (length ws) ≡ true → Clearing ws m (wiped ws m.capacity) (empty_map m.capacity) (Ok tt)
  clearing_wiped f = record {
    refused = λ q. absurd (true≢false (sym f ∙ q));
    cleared = λ _. refl;
    capacity = refl;
    map = wiped_is_map;
    model = wiped_model;
    kept = kept_wiped m.capacity ws;
  }

  pub clearing_drained : map_fits m.capacity (length ws) ≡ true → {ws' : List ℕ} {r : LinkedHashMap} → Draining ws m 0 ws' r → Clearing ws m ws' r (Ok tt)
  clearing_drained f {ws'} {r} d = record {
    refused = λ q. absurd (true≢false (sym f ∙ q));
    cleared = λ _. refl;
    capacity = d.capacity;
    map = d.map;
    model = λ is. none_left (model_of ws' r) (d.left is);
    kept = d.kept;
  }

  pub clearing_refused : map_fits m.capacity (length ws) ≡ false → Clearing ws m ws m unfit
  clearing_refused e = record {
    refused = λ _. (refl, refl, refl);
    cleared = λ q. absurd (true≢false (sym q ∙ e));
    capacity = refl;
    map = λ is. absurd (misfit e is);
    model = λ is. absurd (misfit e is);
    kept = kept_same m.capacity ws;
  }

pub ruleset openings = (opening, opening_refused, err_unfit)

pub ruleset clearings = (clearing_refused, clearing_drained, clearing_wiped, err_unfit)
