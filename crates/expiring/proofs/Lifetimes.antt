-- The ticks of a duration, and refusal 3.
use mathlib.Core.Path.{◌≡◌, refl}
use mathlib.Core.Bool.{Bool, true, false, cond, not}
use Prim.Native.Nat.{ℕ}
use native.Mathlib.Omega.{arith}
use Rattle.std.specs.Prelude.{Result, Ok, Err}
use Rattle.time.specs.declared.duration.Duration.{Duration}
use Rattle.time.specs.declared.duration.TtlTicks.{TtlTicks}
use Rattle.time.specs.declared.refusal.Refusal.{Refusal}
use Rattle.time.specs.declared.refusal.Refusal.TheVariants.{InvalidNanos}
use Rattle.time.specs.Duration.{is_duration, millis_of, ticks_of}

abbrev ticks_if : Bool → Duration → Result TtlTicks Refusal
ticks_if b d = cond b (Ok (record { 0 = millis_of d })) (Err InvalidNanos)

pub is_duration_lem : (d : Duration) {l : TtlTicks} → ticks_of d ≡ Ok l → (is_duration d ≡ true) × (l ≡ record { 0 = millis_of d })
unfolding ticks_of
is_duration_lem d {l} e = go (is_duration d) refl e
  where
    go : (x : Bool) → is_duration d ≡ x → ticks_if x d ≡ Ok l → (is_duration d ≡ true) × (l ≡ record { 0 = millis_of d })
    go true q w = (q, let same : l ≡ record { 0 = millis_of d } = cc in same)
    go false q w = absurd (let z : ◌≡◌ {A = ℕ} 0 1 = cc in omega arith)

pub no_duration : (d : Duration) {why : Refusal} → ticks_of d ≡ Err why → (not (is_duration d) ≡ true) × (why ≡ InvalidNanos)
unfolding ticks_of
no_duration d {why} e = go (is_duration d) refl e
  where
    go : (x : Bool) → is_duration d ≡ x → ticks_if x d ≡ Err why → (not (is_duration d) ≡ true) × (why ≡ InvalidNanos)
    go true q w = absurd (let z : ◌≡◌ {A = ℕ} 0 1 = cc in omega arith)
    go false q w = (rw q, let same : why ≡ InvalidNanos = cc in same)
