-- Document 01, "Turned back": the refusals and their numbers.
use Rattle.std.specs.Prelude.{ℕ}
use Rattle.time.specs.declared.refusal.Refusal.{Refusal}
use Rattle.time.specs.declared.refusal.Refusal.TheVariants.{LimitOutOfRange, TooFewWords, InvalidNanos, KeyLimitReached, FactorTooLarge, MalformedLine}

-- the table's column "Number"
abbrev pub number_of : Refusal → ℕ
number_of LimitOutOfRange = 1
number_of TooFewWords = 2
number_of InvalidNanos = 3
number_of KeyLimitReached = 4
number_of FactorTooLarge = 5
number_of MalformedLine = 6
