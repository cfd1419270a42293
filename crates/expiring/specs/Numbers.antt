-- The book's numbers in words: the list's three, the index's six, the default lifetime and the expirations.
use Rattle.std.specs.Prelude.{cond, List, ℕ, ◌+◌, ◌-◌, ◌^◌, min, eqb, get_or, set, Option, Some, None}
use Rattle.time.specs.declared.duration.TtlTicks.{TtlTicks}
use Rattle.fast_lru.specs.declared.lru.FastLru.{FastLru}
use Rattle.expiration_index.specs.declared.index.ExpirationIndex.{ExpirationIndex}
use Rattle.expiring.specs.declared.expiring.Expiring.{Expiring}

-- ---- read
abbrev pub lru_in : List ℕ → FastLru
lru_in ns = record { map = record { capacity = get_or ns 0 0; len = get_or ns 1 0; refill_in = get_or ns 2 0 } }

abbrev pub index_in : List ℕ → ExpirationIndex
index_in ns = record { heap = record { scores = record { capacity = get_or ns 3 0; len = get_or ns 4 0; refill_in = get_or ns 5 0 }; entries = get_or ns 6 0; seq = get_or ns 7 0; factor = get_or ns 8 0 } }

-- whether there is one, and its ticks
abbrev pub default_in : ℕ → ℕ → Option TtlTicks
default_in given ticks = cond (eqb given 0) None (Some (record { 0 = ticks }))

abbrev pub book_in : List ℕ → Expiring
book_in ns = record { inner = lru_in ns; index = index_in ns; default_ttl = default_in (get_or ns 9 0) (get_or ns 10 0); expirations = get_or ns 11 0 }

-- ---- written
abbrev pub given_of : Option TtlTicks → ℕ
given_of None = 0
given_of (Some l) = 1

abbrev pub ticks_of : Option TtlTicks → ℕ
ticks_of None = 0
ticks_of (Some l) = l.0

-- what a call may change of the list's numbers, and of the index's: not the capacity, nor the limit
unfoldable pub with_lru : List ℕ → FastLru → List ℕ
with_lru ns l = set (set ns 1 l.map.len) 2 l.map.refill_in

unfoldable pub with_deadlines : List ℕ → ExpirationIndex → List ℕ
with_deadlines ns x = set (set (set (set (set ns 4 x.heap.scores.len) 5 x.heap.scores.refill_in) 6 x.heap.entries) 7 x.heap.seq) 8 x.heap.factor

-- what a removal changes of the index's numbers: how many deadlines are held
unfoldable pub with_held : List ℕ → ExpirationIndex → List ℕ
with_held ns x = set ns 4 x.heap.scores.len

-- one expiration more; the count stops at u64::MAX
unfoldable pub with_expiration : List ℕ → List ℕ
with_expiration ns = set ns 11 (min (get_or ns 11 0 + 1) (2 ^ 64 - 1))

-- all that a call may change
unfoldable pub with_changed : List ℕ → Expiring → List ℕ
with_changed ns b = set (with_deadlines (with_lru ns b.inner) b.index) 11 b.expirations

-- all of them
unfoldable pub with_book : List ℕ → Expiring → List ℕ
with_book ns b = with_changed (set (set (set (set ns 0 b.inner.map.capacity) 3 b.index.heap.scores.capacity) 9 (given_of b.default_ttl)) 10 (ticks_of b.default_ttl)) b
