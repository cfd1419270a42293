-- The definitions give every sample's answers, counts and entries, by computation.
use mathlib.Core.Path.{◌≡◌, refl}
use mathlib.Core.List.{map}
use Rattle.binary_heap.specs.Order.{le, insert, sort}
use Rattle.linked_hash_map.specs.Model.{has, lookup, without}
use Rattle.lazy_heap_model.specs.Model.{live, stale_before, from_live, rebuilt, numbered, renumbered, opened, is_full, before_push, pushed, maybe_rebuilt, updated, update_discards, removed, peeked, popped, cleared}
use Rattle.lazy_heap_model.specs.Samples.{Sample, run, samples, told_by}

pub samples_hold : map run samples ≡ map (λ (s : Sample). s.told) samples
unfolding told_by le insert sort has lookup without live stale_before from_live rebuilt numbered renumbered opened is_full before_push pushed maybe_rebuilt updated update_discards removed peeked popped cleared
samples_hold = refl
