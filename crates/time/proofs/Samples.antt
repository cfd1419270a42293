-- The definitions give every sample's answer, by computation.
use Rattle.std.proofs.Common.{◌≡◌, map, refl}
use Rattle.time.specs.Duration.{is_zero, millis_of, is_duration, ticks_of}
use Rattle.time.specs.Deadline.{deadline_from, is_expired_at}
use Rattle.time.specs.Samples.{Sample, samples, answered}

pub samples_hold : map (λ (s : Sample). answered s.question) samples ≡ map (λ (s : Sample). s.answer) samples
unfolding answered is_zero millis_of is_duration ticks_of deadline_from is_expired_at
samples_hold = refl
