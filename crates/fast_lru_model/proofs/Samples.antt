-- The definitions give every sample's answers, by computation.
use mathlib.Core.Path.{◌≡◌, refl}
use mathlib.Core.List.{[], map}
use Rattle.fast_lru_model.specs.Model.{lookup, has, without, last, value_of, to_front, victim, evicted, with_room, inserted, oldest_of, popped, rank_from, rank_of}
use Rattle.fast_lru_model.specs.Samples.{Sample, samples, answered}

pub samples_hold : map (λ (s : Sample). answered s.capacity [] s.calls) samples ≡ map (λ (s : Sample). s.answers) samples
unfolding answered lookup has without last value_of to_front victim evicted with_room inserted oldest_of popped rank_from rank_of
samples_hold = refl
