-- Refusals and lists: on a list nothing is refused, and what is admitted fits the map.
use mathlib.Core.Path.{◌≡◌, refl, ◌∙◌}
use mathlib.Core.Bool.{Bool, true, false, cond, ◌&&◌}
use mathlib.Core.List.{List}
use Prim.Native.Nat.{ℕ, ◌+◌, ◌*◌, ◌≤◌}
use native.Mathlib.Omega.{arith}
use lib.Dec.{eqb, ltb}
use lib.ListN.{length}
use borrow.Author.Tests.{le-ltb, ltb-false, eqb-true, le-leb}
use Rattle.std.specs.Prelude.{Result, Ok, Err, ⊤}
use Rattle.time.specs.declared.refusal.Refusal.{Refusal}
use Rattle.time.specs.declared.refusal.Refusal.TheVariants.{LimitOutOfRange, TooFewWords}
use Rattle.limits.specs.Limits.{map_fits, list_limits}
use Rattle.linked_hash_map.specs.Words as words
use Rattle.fast_lru.specs.declared.lru.FastLru.{FastLru}
use Rattle.fast_lru.specs.Refusals.{words_for, out_of_range, admitted}
use Rattle.fast_lru.specs.Lru.{IsList, Kept}

-- what is done is not refused
pub done : {o : Result ⊤ Refusal} {why : Refusal} → o ≡ Ok tt → o ≡ Err why → ⊥
done p q = cc

-- ---- causes 1 and 2
pub opening_room : (c size : ℕ) → c ≤ 4096 → words_for c ≤ size → list_limits c size ≡ Ok tt
unfolding list_limits
opening_room c size h s = rw (le-ltb 4096 c h, le-ltb size (words_for c) s)

admitted_in : (l : FastLru) (size : ℕ) → out_of_range l ≡ false → admitted l size ≡ list_limits l.map.capacity size
unfolding admitted
admitted_in l size e = rw e

-- ---- what an admitted call knows
pub record Fits (c size : ℕ) : Type 0 where
  pub limit : c ≤ 4096
  pub words : words_for c ≤ size

pub opening_fits : (c size : ℕ) → list_limits c size ≡ Ok tt → Fits c size
unfolding list_limits
opening_fits c size e = go (ltb 4096 c) refl (ltb size (words_for c)) refl e
  where
    go : (a : Bool) → ltb 4096 c ≡ a → (b : Bool) → ltb size (words_for c) ≡ b → ◌≡◌ {A = Result ⊤ Refusal} (cond a (Err LimitOutOfRange) (cond b (Err TooFewWords) (Ok tt))) (Ok tt) → Fits c size
    go true p b q t = cc
    go false p true q t = cc
    go false p false q t = record { limit = ltb-false _ _ p; words = ltb-false _ _ q }

pub admitted_fits : (l : FastLru) (size : ℕ) → admitted l size ≡ Ok tt → Fits l.map.capacity size
unfolding admitted
admitted_fits l size e = go (out_of_range l) e
  where
    go : (a : Bool) → cond a (Err LimitOutOfRange) (list_limits l.map.capacity size) ≡ Ok tt → Fits l.map.capacity size
    go true t = cc
    go false t = opening_fits _ _ t

-- what fits the list fits the map
fits_map : {c size : ℕ} → Fits c size → map_fits c size ≡ true
unfolding map_fits
fits_map {c} {size} f = rw (le-leb c 4096 f.limit, le-leb (8 * c + 58) size (omega (arith, f.words)))

pub opening_map : (c size : ℕ) → list_limits c size ≡ Ok tt → map_fits c size ≡ true
opening_map c size e = fits_map (opening_fits c size e)

pub admitted_map : (l : FastLru) (size : ℕ) → admitted l size ≡ Ok tt → map_fits l.map.capacity size ≡ true
admitted_map l size e = fits_map (admitted_fits l size e)

-- ---- a list is admitted
in_range : (l : FastLru) → l.map.capacity ≤ 4096 → 1 ≤ l.map.refill_in → out_of_range l ≡ false
unfolding out_of_range
in_range l h o = rw (le-ltb 4096 l.map.capacity h) (go (eqb l.map.capacity 0) (eqb l.map.len 0) (eqb l.map.refill_in 0) refl)
  where
    go : (a b c : Bool) → eqb l.map.refill_in 0 ≡ c → (a && (b && c)) ≡ false
    go false b c e = refl
    go true false c e = refl
    go true true false e = refl
    go true true true e = absurd (omega (arith, eqb-true l.map.refill_in 0 e))

module _ {ws : List ℕ} {l : FastLru} (is : IsList ws l) where
  list_in_range : out_of_range l ≡ false
  list_in_range = in_range l is.map.room.limit is.map.opened

  pub list_admitted : admitted l (length ws) ≡ Ok tt
  list_admitted = admitted_in l (length ws) list_in_range ∙ opening_room l.map.capacity (length ws) is.map.room.limit is.words

-- ---- what is kept
pub kept_same : (c : ℕ) (ws : List ℕ) → Kept c ws ws
kept_same c ws = record { size = refl; past = λ j h. refl }

pub kept_map : {c : ℕ} {ws ws' : List ℕ} → words.Kept c ws ws' → Kept c ws ws'
kept_map k = record { size = k.size; past = λ j h. k.past j (omega arith) }
