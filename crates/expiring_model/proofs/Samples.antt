-- The definitions give every sample's answers, counts and sum, by computation.
use mathlib.Core.Path.{◌≡◌, refl}
use mathlib.Core.List.{map}
use Rattle.time.specs.Duration.{is_zero, millis_of, is_duration, ticks_of}
use Rattle.time.specs.Deadline.{deadline_from, is_expired_at, remaining_at}
use Rattle.binary_heap.specs.Order.{le, insert, sort}
use Rattle.linked_hash_map.specs.Model as held
use Rattle.lazy_heap_model.specs.Model.{live, stale_before, from_live, rebuilt, numbered, renumbered, opened, before_push, pushed, maybe_rebuilt, updated, update_discards, removed, peeked, cleared}
use Rattle.fast_lru_model.specs.Model.{to_front, victim, evicted, with_room, inserted, last, popped, rank_from, rank_of}
use Rattle.fast_lru_model.specs.Model as list
use Rattle.expiration_index.specs.Model.{set, is_full, next, expired_count, unexpired}
use Rattle.expiration_index.specs.Model as pairs
use Rattle.expiring_model.specs.Model.{fresh, is_expired, change_of, pairs_after, replaced_by, removed_by, without_expired, stored_after, expired_by, value_unless_expired, answered, bad_nanos, refusal_of, accepted, answer_of, book_after}
use Rattle.expiring_model.specs.Discards.{expired_before, from_unexpired, held_unexpired, purged, discards, heap_after, discarded_by, heap_by}
use Rattle.expiring_model.specs.Samples.{Sample, entries_side, pairs_side, run, samples, told_by}

pub samples_hold : (map run samples ≡ map (λ (s : Sample). s.told) samples) × (map (λ (s : Sample). entries_side (run s).sum) samples ≡ map (λ (s : Sample). pairs_side (run s).sum) samples)
unfolding is_zero millis_of is_duration ticks_of deadline_from is_expired_at remaining_at le insert sort held.lookup held.without live stale_before from_live rebuilt numbered renumbered opened before_push pushed maybe_rebuilt updated update_discards removed peeked cleared to_front victim evicted with_room inserted last popped rank_from rank_of list.lookup list.has list.without set is_full next expired_count unexpired pairs.lookup pairs.has pairs.without fresh is_expired change_of pairs_after replaced_by removed_by without_expired stored_after expired_by value_unless_expired answered bad_nanos refusal_of accepted answer_of book_after expired_before from_unexpired held_unexpired purged discards heap_after discarded_by heap_by told_by
samples_hold = (refl, refl)
