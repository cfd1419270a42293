-- A number's text is read as the number, and what is read as a number is its text.
use mathlib.Core.Path.{◌≡◌, refl, sym, ap, ◌∙◌}
use mathlib.Core.Bool.{Bool, true, false, cond, ◌&&◌, true≢false}
use mathlib.Core.List.{List, [], ◌∷◌, ◌++◌, append_assoc}
use Rattle.std.specs.Prelude.{Option, None, Some}
use Prim.Native.Nat.{ℕ, zero, suc, ◌+◌, ◌-◌, ◌*◌, ◌/◌, ◌%◌, ◌^◌, ◌<◌, ◌≤◌}
use native.Mathlib.Nat.{pow-suc}
use native.Mathlib.Omega.{arith}
use borrow.Author.Tests.{lt-ltb, ltb-true, leb-true, eqb-true, eqb-false, ne_eqb}
use lib.Dec.{ltb, leb, eqb}
use Rattle.text.specs.Text.{digit, decimal_in, decimal}
use Rattle.text.specs.Reading.{is_digit, read_on, read_number}
use Rattle.text.proofs.Places.{is_digit_lem}
use Rattle.text.proofs.Decimals.{Last, only, after, last, one_digit, same_digits}

-- ---- from the number
on_next : (v d : ℕ) (r : List ℕ) → d < 10 → v * 10 + d < 2 ^ 64 → read_on v (digit d ∷ r) ≡ read_on (v * 10 + d) r
unfolding read_on
on_next v d r h b =
    let e : digit d - 48 ≡ d = omega arith in
    simp (is_digit_lem (digit d) (omega arith) (omega arith), e, lt-ltb (v * 10 + d) (2 ^ 64) b)

read_only : (v : ℕ) (r : List ℕ) → 0 < v → v < 10 → read_number (digit v ∷ r) ≡ read_on v r
unfolding read_number
read_only v r p h =
    let e : digit v - 48 ≡ v = omega arith in
    simp (is_digit_lem (digit v) (omega arith) (omega arith), ne_eqb (digit v) 48 (λ z. omega arith), e)

pub read_decimal : (k v : ℕ) (r : List ℕ) → 0 < v → v < 10 ^ k → v < 2 ^ 64 → read_number (decimal_in k v ++ r) ≡ read_on v r
read_decimal zero v r p f b = absurd (omega arith)
read_decimal (suc k) v r p f b = go (last k v) (λ q. read_decimal k (v / 10) (digit (v % 10) ∷ r) q (omega (arith, rw pow-suc at f)) (omega arith))
  where
    go : Last k v → (0 < v / 10 → read_number (decimal_in k (v / 10) ++ (digit (v % 10) ∷ r)) ≡ read_on (v / 10) (digit (v % 10) ∷ r)) → read_number (decimal_in (suc k) v ++ r) ≡ read_on v r
    go (only h e) ih = rw e (read_only v r p h)
    go (after h e) ih =
        let w : v / 10 * 10 + v % 10 ≡ v = omega arith in
        rw e (rw append_assoc (ih (omega arith) ∙ on_next (v / 10) (v % 10) r (omega arith) (omega arith) ∙ rw w refl))

-- ---- to the number
pub not_found : {A : Type 0} {x : A} → ◌≡◌ {A = Option A} None (Some x) → ⊥
not_found e = let z : ◌≡◌ {A = ℕ} 0 1 = cc in omega arith

pub same_found : {A B : Type 0} {a c : A} {b d : B} → ◌≡◌ {A = Option (A × B)} (Some (a, b)) (Some (c, d)) → (a ≡ c) × (b ≡ d)
same_found {A} {B} {a} {c} {b} {d} e =
    let q : ◌≡◌ {A = A × B} (a, b) (c, d) = cc in
    (ap (λ (x : A × B). x.0) q, ap (λ (x : A × B). x.1) q)

pub both : (a b : Bool) → a && b ≡ true → (a ≡ true) × (b ≡ true)
both true true h = (refl, refl)
both true false h = absurd (true≢false (sym h))
both false b h = absurd (true≢false (sym h))

digit_bounds : (c : ℕ) → is_digit c ≡ true → (48 ≤ c) × (c ≤ 57)
digit_bounds c h =
    let (lo, hi) = both (leb 48 c) (leb c 57) h in
    (leb-true 48 c lo, leb-true c 57 hi)

decimal_one : (c : ℕ) → 48 ≤ c → c ≤ 57 → decimal (c - 48) ≡ c ∷ []
decimal_one c lo hi =
    let d : digit (c - 48) ≡ c = omega arith in
    one_digit (c - 48) (omega arith) ∙ rw d refl

-- one digit more
decimal_next : (v c : ℕ) → 0 < v → 48 ≤ c → c ≤ 57 → v * 10 + (c - 48) < 2 ^ 64 → decimal (v * 10 + (c - 48)) ≡ decimal v ++ (c ∷ [])
decimal_next v c p lo hi b = go (last 19 (v * 10 + (c - 48)))
  where
    go : Last 19 (v * 10 + (c - 48)) → decimal (v * 10 + (c - 48)) ≡ decimal v ++ (c ∷ [])
    go (only h e) = absurd (omega arith)
    go (after h e) =
        let q : (v * 10 + (c - 48)) / 10 ≡ v = omega arith in
        let d : digit ((v * 10 + (c - 48)) % 10) ≡ c = omega arith in
        e ∙ rw q (rw d (rw (same_digits 18 v (omega arith)) refl))

-- the text t and s is that of n, and r
pub record Split (t s : List ℕ) (n : ℕ) (r : List ℕ) : Type 0 where
  pub text : t ++ s ≡ decimal n ++ r
  pub small : n < 2 ^ 64

on_sound : (v : ℕ) (s : List ℕ) (n : ℕ) (r : List ℕ) → 0 < v → v < 2 ^ 64 → read_on v s ≡ Some (n, r) → Split (decimal v) s n r
unfolding read_on
on_sound v [] n r p b e =
    let (q, z) = same_found e in
    record { text = rw q (rw z refl); small = omega arith }
on_sound v (c ∷ s) n r p b e = go (is_digit c) refl (ltb (v * 10 + (c - 48)) (2 ^ 64)) refl e (on_sound (v * 10 + (c - 48)) s n r (omega arith))
  where
    go : (d : Bool) → is_digit c ≡ d → (l : Bool) → ltb (v * 10 + (c - 48)) (2 ^ 64) ≡ l → cond d (cond l (read_on (v * 10 + (c - 48)) s) None) (Some (v, c ∷ s)) ≡ Some (n, r) → (v * 10 + (c - 48) < 2 ^ 64 → read_on (v * 10 + (c - 48)) s ≡ Some (n, r) → Split (decimal (v * 10 + (c - 48))) s n r) → Split (decimal v) (c ∷ s) n r
    go true d true l e ih =
        let (lo, hi) = digit_bounds c d in
        let m = ltb-true (v * 10 + (c - 48)) (2 ^ 64) l in
        let t = ih m e in
        record { text = sym (append_assoc (decimal v) (c ∷ []) s) ∙ rw (decimal_next v c p lo hi m) at t.text; small = t.small }
    go true d false l e ih = absurd (not_found e)
    go false d l k e ih =
        let (q, z) = same_found e in
        record { text = rw q (rw z refl); small = omega arith }

pub number_sound : (s : List ℕ) (n : ℕ) (r : List ℕ) → read_number s ≡ Some (n, r) → Split [] s n r
unfolding read_number decimal_in
number_sound [] n r e = absurd (not_found e)
number_sound (c ∷ s) n r e = go (is_digit c) refl (eqb c 48) refl e
  where
    go : (d : Bool) → is_digit c ≡ d → (z : Bool) → eqb c 48 ≡ z → cond d (cond z (Some (0, s)) (read_on (c - 48) s)) None ≡ Some (n, r) → Split [] (c ∷ s) n r
    go true d true z e =
        let (q, t) = same_found e in
        record { text = rw (eqb-true c 48 z) (rw (sym q) (rw t refl)); small = omega arith }
    go true d false z e =
        let (lo, hi) = digit_bounds c d in
        let o = eqb-false c 48 z in
        let t = on_sound (c - 48) s n r (omega arith) (omega arith) e in
        record { text = rw (decimal_one c lo hi) at t.text; small = t.small }
    go false d z k e = absurd (not_found e)
