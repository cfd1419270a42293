-- The definitions give every sample's answers, counts and entries, by computation.
use mathlib.Core.Path.{◌≡◌, refl}
use mathlib.Core.List.{map}
use Rattle.time.specs.Duration.{millis_of}
use Rattle.time.specs.Deadline.{deadline_from, is_expired_at}
use Rattle.binary_heap.specs.Order.{le, insert, sort}
use Rattle.linked_hash_map.specs.Model as held
use Rattle.lazy_heap_model.specs.Model.{live, stale_before, from_live, rebuilt, numbered, renumbered, opened, before_push, pushed, maybe_rebuilt, updated, update_discards, removed, peeked, popped, cleared}
use Rattle.expiration_index.specs.Model.{lookup, has, without, deadline_of, set, is_full, next, next_due, next_expired, expired_due, without_expired, expired_count}
use Rattle.expiration_index.specs.Index.{pairs, deadlines}
use Rattle.expiration_index.specs.Calls.{popped_expired}
use Rattle.expiration_index.specs.Samples.{Sample, run, samples, told_by}

pub samples_hold : map run samples ≡ map (λ (s : Sample). s.told) samples
unfolding millis_of deadline_from is_expired_at le insert sort held.lookup held.without live stale_before from_live rebuilt numbered renumbered opened before_push pushed maybe_rebuilt updated update_discards removed peeked popped cleared lookup has without deadline_of set is_full next next_due next_expired expired_due without_expired expired_count pairs deadlines popped_expired told_by
samples_hold = refl
