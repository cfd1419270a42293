-- Durations and lifetimes: document 01, "time.rs", and the standard library's documentation of `Duration`.
use Rattle.std.specs.Prelude.{ℕ, ◌+◌, ◌-◌, ◌*◌, ◌/◌, ◌^◌, min, Bool, cond, ◌==◌, nat_lt, Result, Ok, Err}
use Rattle.time.specs.declared.duration.Duration.{Duration}
use Rattle.time.specs.declared.duration.TtlTicks.{TtlTicks}
use Rattle.time.specs.declared.refusal.Refusal.{Refusal}
use Rattle.time.specs.declared.refusal.Refusal.TheVariants.{InvalidNanos}

-- two numbers from outside as a duration: nanoseconds are 32 bits, and larger ones are the largest of these, which is no
-- duration either
abbrev pub duration_of : ℕ → ℕ → Duration
duration_of secs nanos = record { secs = secs; nanos = min nanos 4294967295 }

-- the nanoseconds that a duration spans
abbrev pub nanos_of : Duration → ℕ
nanos_of d = d.secs * 1000000000 + d.nanos

-- `is_zero`: "Returns true if this Duration spans no time"
unfoldable pub is_zero : Duration → Bool
is_zero d = nanos_of d == 0

-- `as_millis`: "Returns the total number of whole milliseconds contained by this Duration",
-- and then `u64::try_from(..).unwrap_or(u64::MAX)`
unfoldable pub millis_of : Duration → ℕ
millis_of d = min (nanos_of d / 1000000) (2 ^ 64 - 1)

-- the subsecond part of a `Duration` is below a second
unfoldable pub is_duration : Duration → Bool
is_duration d = nat_lt d.nanos 1000000000

-- a lifetime in ticks of a millisecond; refusal 3 for what is no duration
unfoldable pub ticks_of : Duration → Result TtlTicks Refusal
ticks_of d = cond (is_duration d) (Ok (record { 0 = millis_of d })) (Err InvalidNanos)
