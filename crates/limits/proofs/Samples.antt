-- The definitions give every sample's answer, by computation.
use mathlib.Core.Path.{◌≡◌, refl}
use mathlib.Core.List.{map}
use Rattle.limits.specs.Limits.{map_fits, list_limits, heap_limits, heap_limits_with, book_limits}
use Rattle.limits.specs.Samples.{Sample, samples, answered}

pub samples_hold : map (λ (s : Sample). answered s.question) samples ≡ map (λ (s : Sample). s.answer) samples
unfolding answered map_fits list_limits heap_limits heap_limits_with book_limits
samples_hold = refl
