-- The clock that its owner lends to be advanced or set: document 01, "Off the list, and Rust forms to recast".
use Rattle.std.specs.Prelude.{ℕ, cond, Result, Ok, Err, ⊤}
use Rattle.time.specs.declared.clock.MockClock.{MockClock}
use Rattle.time.specs.declared.duration.Duration.{Duration}
use Rattle.time.specs.declared.refusal.Refusal.{Refusal}
use Rattle.time.specs.declared.refusal.Refusal.TheVariants.{InvalidNanos}
use Rattle.time.specs.Duration.{millis_of, is_duration}
use Rattle.time.specs.Deadline.{deadline_from}

-- a clock that reads t
abbrev pub clock_at : ℕ → MockClock
clock_at t = record { tick = record { 0 = t } }

-- on by the whole milliseconds, whatever a lifetime's rounding, and at most at u64::MAX - 1, where a deadline ends too;
-- or refusal 3
unfoldable pub advanced : MockClock → Duration → Result MockClock Refusal
advanced c d =
    cond (is_duration d)
    (Ok (record { tick = deadline_from c.tick (record { 0 = millis_of d }) }))
    (Err InvalidNanos)

-- what a lent clock's step answers
abbrev pub outcome_of : Result MockClock Refusal → Result ⊤ Refusal
outcome_of (Ok c) = Ok tt
outcome_of (Err why) = Err why

-- a refusal leaves the clock as it was
abbrev pub clock_after : MockClock → Result MockClock Refusal → MockClock
clock_after old (Ok c) = c
clock_after old (Err why) = old
