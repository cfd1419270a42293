-- A map's records removed one by one. The first record's key is held once, so that each removal leaves one record less.
use mathlib.Core.Path.{◌≡◌, refl, sym, ap, ◌∙◌}
use mathlib.Core.List.{List, [], ◌∷◌}
use Prim.Native.Nat.{ℕ, ◌-◌, ◌≤◌}
use native.Mathlib.Decide.{ℕ_discrete}
use native.Mathlib.Omega.{arith}
use lib.ListN.{length, get_or}
use borrow.Author.Tests.{eq-eqb}
use Rattle.std.specs.Prelude.{Some, None, Result, Ok, Err, Option}
use Rattle.std.specs.Result.{result_unwrap_or}
use Rattle.linked_hash_map.specs.declared.map.LinkedHashMap.{LinkedHashMap}
use Rattle.linked_hash_map.specs.declared.map.Record.{Record}
use Rattle.linked_hash_map.specs.declared.map.Unfit.{Unfit}
use Rattle.linked_hash_map.specs.Model.{Model, nth, without, Distinct}
use Rattle.linked_hash_map.specs.Map.{IsMap, live_of, model_of, slot_at}
use Rattle.linked_hash_map.specs.Calls.{Draining, Ending, Reading, Removing}
use Rattle.linked_hash_map.proofs.Keeping.{kept_same, kept_then}
use Rattle.linked_hash_map.proofs.Putting.{model_length}
use Rattle.linked_hash_map.proofs.Laws.{without_none, map_distinct, place_taken}

-- without the key of the first record there is one record less
without_head : (l : Model) (r : Record) → Distinct l → nth 0 l ≡ Some r → length (without r.key l) ≡ length l - 1
unfolding nth without
without_head [] r d e = refl
without_head (x ∷ l) r d e =
    let is : x ≡ r = cc in
    let k : x.key ≡ r.key = ap (λ (y : Record). y.key) is in
    let none : without r.key l ≡ l = rw (sym k) (without_none x.key l d.0) in
    rw (eq-eqb x.key r.key k, none) (omega arith)

module _ (ws : List ℕ) (m : LinkedHashMap) where
  pub drain_start : Draining ws m (m.len - 0) ws m
  drain_start = record { capacity = refl; map = λ is. is; left = λ is. omega (arith, model_length ws m); kept = kept_same m.capacity ws }

  -- where there is no first record there is none
  pub drain_none : {r : Result (Option ℕ) Unfit} → Ending ws m 0 r → ((x : ℕ) → r ≡ Ok (Some x) → ⊥) → Draining ws m (m.len - 1) ws m
  drain_none e h = record {
    capacity = refl;
    map = λ is. is;
    left = λ is. omega (arith, model_length ws m, nothing is);
    kept = kept_same m.capacity ws;
  }
    where
      nothing : IsMap ws m → m.len ≤ 0
      nothing is = go (ℕ_discrete m.len 0)
        where
          go : Dec (m.len ≡ 0) → m.len ≤ 0
          go (yes z) = omega arith
          go (no z) = absurd (h (get_or (live_of ws m) 0 0) (e.answer is ∙ ap Ok (place_taken ws m 0 (omega arith))))

  pub drain_first : {s : ℕ} {x : Record} {ws' : List ℕ} {m' : LinkedHashMap} {r : Result (Option Record) Unfit} → Ending ws m 0 (Ok (Some s)) → Reading ws m s x → Removing ws m x.key ws' m' r → Draining ws m (m.len - 1) ws' m'
  drain_first {s} {x} e t o = record {
    capacity = o.capacity;
    map = o.map;
    left = λ is.
        ap length (o.model is)
        ∙ without_head (model_of ws m) x (map_distinct is) (t.placed is 0 (first is))
        ∙ ap (λ (l : ℕ). l - 1) (model_length ws m);
    kept = o.kept;
  }
    where
      first : IsMap ws m → slot_at ws m 0 ≡ Some s
      first is = let q : Ok (Some s) ≡ Ok (slot_at ws m 0) = e.answer is in cc

-- what stands where the first record is asked for
pub drain_found : (r : Result (Option ℕ) Unfit) {s : ℕ} → Some s ≡ result_unwrap_or r None → r ≡ Ok (Some s)
drain_found (Ok x) e = ap Ok (sym e)
drain_found (Err y) {s} e = absurd (let z : ◌≡◌ {A = ℕ} 0 1 = cc in omega arith)

pub drain_lost : (r : Result (Option ℕ) Unfit) → None ≡ result_unwrap_or r None → (x : ℕ) → r ≡ Ok (Some x) → ⊥
drain_lost r e x q = let no : None ≡ Some x = rw q at e in let z : ◌≡◌ {A = ℕ} 0 1 = cc in omega arith

-- one removal after the others
pub drain_then : {ws ws' ws'' : List ℕ} {m m' m'' : LinkedHashMap} {k : ℕ} (j : ℕ) → Draining ws m k ws' m' → Draining ws' m' (m'.len - 1) ws'' m'' → j ≡ k - 1 → Draining ws m j ws'' m''
drain_then {ws} {ws'} {ws''} {m} {m'} {m''} {k} j a b e = record {
  capacity = b.capacity ∙ a.capacity;
  map = λ is. b.map (a.map is);
  left = λ is. omega (arith, b.left (a.map is), a.left is, model_length ws' m');
  kept = kept_then a.kept (rw a.capacity at b.kept);
}

pub ruleset drains = (drain_first, drain_none, drain_found, drain_lost)
