-- The model: document 01, "The plain book". It is fed each call's name and arguments, and knows nothing of words, of the
-- book's numbers or of the heap's entries.
use Rattle.std.specs.Prelude.{Bool, true, false, cond, not, ◌&&◌, [], ◌∷◌, ℕ, ◌+◌, ◌-◌, ◌^◌, min, eqb, length, Option, Some, None, Result, Ok, Err, ⊤}
use Rattle.time.specs.declared.tick.Tick.{Tick}
use Rattle.time.specs.declared.duration.Duration.{Duration}
use Rattle.time.specs.declared.duration.TtlTicks.{TtlTicks}
use Rattle.time.specs.declared.refusal.Refusal.{Refusal}
use Rattle.time.specs.declared.refusal.Refusal.TheVariants.{InvalidNanos, KeyLimitReached}
use Rattle.time.specs.Duration.{is_zero, is_duration, millis_of, ticks_of}
use Rattle.time.specs.Deadline.{deadline_from, is_expired_at, remaining_at}
use Rattle.fast_lru_model.specs.Model.{Item, Items, to_front, inserted, last, popped, rank_of}
use Rattle.fast_lru_model.specs.Model as list
use Rattle.expiration_index.specs.Model.{Pair, Pairs, next, is_full, expired_count, unexpired}
use Rattle.expiration_index.specs.Model as pairs
use Rattle.expiring_model.specs.declared.answers.Answer.{Answer}
use Rattle.expiring_model.specs.declared.answers.Answer.TheVariants as answer

pub record Book : Type 0 where
  pub capacity : ℕ
  -- at most so many deadlines
  pub limit : ℕ
  pub lifetime : Option TtlTicks
  -- newest first
  pub stored : Items
  -- latest set last
  pub deadlines : Pairs
  pub expirations : ℕ
  -- pairs that gave way to a new one of their key, and pairs that were dropped
  pub replaced : ℕ
  pub removed : ℕ

-- the default lifetime in ticks
abbrev pub of_ticks : Result TtlTicks Refusal → Option TtlTicks
of_ticks (Ok l) = Some l
of_ticks (Err why) = None

abbrev pub default_of : Option Duration → Option TtlTicks
default_of (Some d) = of_ticks (ticks_of d)
default_of None = None

-- "It starts with the opening's C, D and default, both lists empty, all counts 0."
unfoldable pub fresh : ℕ → ℕ → Option TtlTicks → Book
fresh c d l = record { capacity = c; limit = d; lifetime = l; stored = []; deadlines = []; expirations = 0; replaced = 0; removed = 0 }

pub data Call : Type 0 where
  contains : ℕ → Call
  peek : ℕ → Call
  get : ℕ → Call
  insert : ℕ → ℕ → Call
  remove : ℕ → Call
  clear : Call
  insert_with_ttl : ℕ → ℕ → Duration → Call
  ttl_status : ℕ → Call
  set_ttl : ℕ → Duration → Call
  purge_expired : Call
  live_len : Call
  expirations : Call
  next_deadline : Call
  -- the recency list's own
  touch : ℕ → Call
  recency_rank : ℕ → Call
  pop_lru : Call
  peek_lru : Call

-- ---- a key's deadline
abbrev pub has_come : Tick → Option Pair → Bool
has_come t None = false
has_come t (Some p) = is_expired_at p.deadline t

unfoldable pub is_expired : Tick → ℕ → Book → Bool
is_expired t k b = has_come t (pairs.lookup k b.deadlines)

abbrev pub is_stored : ℕ → Book → Bool
is_stored k b = list.has k b.stored

-- the deadline of a duration, and of the default lifetime
abbrev pub after : Tick → Duration → Tick
after t d = deadline_from t (record { 0 = millis_of d })

-- ---- what a call does to the deadlines
pub data Change : Type 0 where
  keep : Change
  set : ℕ → Tick → Change
  drop : ℕ → Change
  drop_expired : Tick → Change
  drop_all : Change
  -- it looks for the next due, and they stay; but entries of the heap may go
  look : Change

-- "set the default deadline, or drop the pair"
abbrev pub by_default : Tick → ℕ → Option TtlTicks → Change
by_default t k (Some l) = set k (deadline_from t l)
by_default t k None = drop k

unfoldable pub change_of : Tick → Call → Book → Change
-- "expired deadline: drop value and pair ... This holds also for a key no longer stored."
change_of t (get k) b = cond (is_expired t k b) (drop k) keep
change_of t (insert k v) b = by_default t k b.lifetime
-- "Exactly zero lifetime acts as `remove`."
change_of t (insert_with_ttl k v d) b = cond (is_zero d) (drop k) (set k (after t d))
change_of t (remove k) b = drop k
-- "not stored: false. Expired: drop both. 0 ticks: drop both. Else set."
change_of t (set_ttl k d) b = cond (is_stored k b) (cond (is_expired t k b) (drop k) (cond (eqb (millis_of d) 0) (drop k) (set k (after t d)))) keep
-- "drop every expired pair"
change_of t purge_expired b = drop_expired t
-- "`clear`, which empties both lists"
change_of t clear b = drop_all
change_of t next_deadline b = look
change_of t (contains k) b = keep
change_of t (peek k) b = keep
change_of t (ttl_status k) b = keep
change_of t live_len b = keep
change_of t expirations b = keep
change_of t (touch k) b = keep
change_of t (recency_rank k) b = keep
change_of t pop_lru b = keep
change_of t peek_lru b = keep

-- "Setting a deadline appends the new pair; the key's old pair, if any, goes"
unfoldable pub pairs_after : Change → Pairs → Pairs
pairs_after keep l = l
pairs_after (set k d) l = pairs.set k d l
pairs_after (drop k) l = pairs.without k l
pairs_after (drop_expired t) l = unexpired t l
pairs_after drop_all l = []
pairs_after look l = l

-- "as replaced + 1 and not as removed"
unfoldable pub replaced_by : Change → Pairs → ℕ
replaced_by keep l = 0
replaced_by (set k d) l = cond (pairs.has k l) 1 0
replaced_by (drop k) l = 0
replaced_by (drop_expired t) l = 0
replaced_by drop_all l = 0
replaced_by look l = 0

-- "Dropping a pair, where there is one, adds 1 to removed, except in `clear`, which ... changes no count."
unfoldable pub removed_by : Change → Pairs → ℕ
removed_by keep l = 0
removed_by (set k d) l = 0
removed_by (drop k) l = cond (pairs.has k l) 1 0
removed_by (drop_expired t) l = expired_count t l
removed_by drop_all l = 0
removed_by look l = 0

-- ---- what a call does to the values
-- the items whose key has no expired pair
unfoldable pub without_expired : Tick → Pairs → Items → Items
without_expired t [] s = s
without_expired t (p ∷ l) s = cond (is_expired_at p.deadline t) (list.without p.key (without_expired t l s)) (without_expired t l s)

abbrev pub with_item : ℕ → ℕ → Book → Items
with_item k v b = inserted b.capacity (record { key = k; value = v }) b.stored

unfoldable pub stored_after : Tick → Call → Book → Items
stored_after t (get k) b = cond (is_expired t k b) (list.without k b.stored) (to_front k b.stored)
stored_after t (insert k v) b = with_item k v b
stored_after t (insert_with_ttl k v d) b = cond (is_zero d) (list.without k b.stored) (with_item k v b)
stored_after t (remove k) b = list.without k b.stored
stored_after t (set_ttl k d) b = cond (is_stored k b) (cond (is_expired t k b) (list.without k b.stored) (cond (eqb (millis_of d) 0) (list.without k b.stored) b.stored)) b.stored
stored_after t purge_expired b = without_expired t b.deadlines b.stored
stored_after t clear b = []
stored_after t (touch k) b = to_front k b.stored
stored_after t pop_lru b = popped b.stored
stored_after t (contains k) b = b.stored
stored_after t (peek k) b = b.stored
stored_after t (ttl_status k) b = b.stored
stored_after t live_len b = b.stored
stored_after t expirations b = b.stored
stored_after t next_deadline b = b.stored
stored_after t (recency_rank k) b = b.stored
stored_after t peek_lru b = b.stored

-- ---- how many expirations it counts
abbrev pub one : Bool → ℕ
one b = cond b 1 0

unfoldable pub expired_by : Tick → Call → Book → ℕ
expired_by t (get k) b = one (is_expired t k b)
expired_by t (insert k v) b = one (is_expired t k b)
expired_by t (insert_with_ttl k v d) b = one (is_expired t k b)
expired_by t (remove k) b = one (is_expired t k b)
expired_by t (set_ttl k d) b = one (is_stored k b && is_expired t k b)
expired_by t purge_expired b = expired_count t b.deadlines
expired_by t clear b = 0
expired_by t (contains k) b = 0
expired_by t (peek k) b = 0
expired_by t (ttl_status k) b = 0
expired_by t live_len b = 0
expired_by t expirations b = 0
expired_by t next_deadline b = 0
expired_by t (touch k) b = 0
expired_by t (recency_rank k) b = 0
expired_by t pop_lru b = 0
expired_by t peek_lru b = 0

-- ---- what it answers
abbrev pub value_in : Option Item → Answer
value_in None = answer.Nothing
value_in (Some i) = answer.Value i.value

abbrev pub item_in : Option Item → Answer
item_in None = answer.Nothing
item_in (Some i) = answer.Item i.key i.value

abbrev pub due_in : Option Pair → Answer
due_in None = answer.Nothing
due_in (Some p) = answer.Due p.key p.deadline

abbrev pub rank_in : Option ℕ → Answer
rank_in (Some n) = answer.Rank n
rank_in None = answer.Nothing

abbrev pub tell : Bool → Answer
tell true = answer.Yes
tell false = answer.No

-- "if it was expired ... none; else the value it replaced, or none", and likewise for what is read or removed
unfoldable pub value_unless_expired : Tick → ℕ → Book → Answer
value_unless_expired t k b = cond (is_expired t k b) answer.Nothing (value_in (list.lookup k b.stored))

-- "missing if not stored, immortal with no deadline, expired, or else live with deadline - now and the deadline"
abbrev pub lives_at : Tick → Option TtlTicks → Answer
lives_at d None = answer.Expired
lives_at d (Some l) = answer.Live l d

abbrev pub status_in : Tick → Option Pair → Answer
status_in t None = answer.Immortal
status_in t (Some p) = lives_at p.deadline (remaining_at p.deadline t)

unfoldable pub answered : Tick → Call → Book → Answer
answered t (contains k) b = tell (is_stored k b && not (is_expired t k b))
answered t (peek k) b = value_unless_expired t k b
answered t (get k) b = value_unless_expired t k b
answered t (insert k v) b = value_unless_expired t k b
answered t (insert_with_ttl k v d) b = value_unless_expired t k b
answered t (remove k) b = value_unless_expired t k b
answered t clear b = answer.Done
answered t (ttl_status k) b = cond (is_stored k b) (status_in t (pairs.lookup k b.deadlines)) answer.Missing
answered t (set_ttl k d) b = tell (is_stored k b && (not (is_expired t k b) && not (eqb (millis_of d) 0)))
answered t purge_expired b = answer.Count (expired_count t b.deadlines)
-- "stored minus expired pairs held, not below 0"
answered t live_len b = answer.Count (length b.stored - expired_count t b.deadlines)
answered t expirations b = answer.Count b.expirations
-- "least deadline, then earliest set; keys pushed off the deck included"
answered t next_deadline b = due_in (next b.deadlines)
answered t (touch k) b = tell (is_stored k b)
answered t (recency_rank k) b = rank_in (rank_of k b.stored)
answered t pop_lru b = item_in (last b.stored)
answered t peek_lru b = item_in (last b.stored)

-- ---- refusals
-- 3: nanoseconds from 1,000,000,000 on
unfoldable pub bad_nanos : Call → Bool
bad_nanos (insert_with_ttl k v d) = not (is_duration d)
bad_nanos (set_ttl k d) = not (is_duration d)
bad_nanos (contains k) = false
bad_nanos (peek k) = false
bad_nanos (get k) = false
bad_nanos (insert k v) = false
bad_nanos (remove k) = false
bad_nanos clear = false
bad_nanos (ttl_status k) = false
bad_nanos purge_expired = false
bad_nanos live_len = false
bad_nanos expirations = false
bad_nanos next_deadline = false
bad_nanos (touch k) = false
bad_nanos (recency_rank k) = false
bad_nanos pop_lru = false
bad_nanos peek_lru = false

-- 4: "the call would set a deadline ... for a key holding none, with D ... keys held"
abbrev pub sets_beyond : Change → Book → Bool
sets_beyond (set k d) b = is_full b.limit k b.deadlines
sets_beyond keep b = false
sets_beyond (drop k) b = false
sets_beyond (drop_expired t) b = false
sets_beyond drop_all b = false
sets_beyond look b = false

unfoldable pub refusal_of : Tick → Call → Book → Result ⊤ Refusal
refusal_of t c b = cond (bad_nanos c) (Err InvalidNanos) (cond (sets_beyond (change_of t c b) b) (Err KeyLimitReached) (Ok tt))

-- ---- a call
-- "expirations (stops at u64::MAX)"
unfoldable pub accepted : Tick → Call → Book → Book
accepted t c b = record {
  capacity = b.capacity;
  limit = b.limit;
  lifetime = b.lifetime;
  stored = stored_after t c b;
  deadlines = pairs_after (change_of t c b) b.deadlines;
  expirations = min (b.expirations + expired_by t c b) (2 ^ 64 - 1);
  replaced = b.replaced + replaced_by (change_of t c b) b.deadlines;
  removed = b.removed + removed_by (change_of t c b) b.deadlines;
}

-- "A refused call gets its refusal and changes nothing"
abbrev or_refused : Result ⊤ Refusal → Answer → Answer
or_refused (Ok u) a = a
or_refused (Err why) a = answer.Refused why

abbrev pub or_same : {A : Type 0} → Result ⊤ Refusal → A → A → A
or_same (Ok u) new old = new
or_same (Err why) new old = old

unfoldable pub answer_of : Tick → Call → Book → Answer
answer_of t c b = or_refused (refusal_of t c b) (answered t c b)

unfoldable pub book_after : Tick → Call → Book → Book
book_after t c b = or_same (refusal_of t c b) (accepted t c b) b
