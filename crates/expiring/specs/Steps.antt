-- What the private steps promise: which part of the book they change, and how.
use Rattle.std.specs.Prelude.{◌≡◌, Bool, true, false, cond, List, ℕ, ◌+◌, ◌-◌, ◌^◌, min, length, Option, Some, None, is_some, Result, Ok, Err}
use Rattle.std.specs.Option.{option_map, option_transpose}
use Rattle.time.specs.declared.tick.Tick.{Tick}
use Rattle.time.specs.declared.duration.Duration.{Duration}
use Rattle.time.specs.declared.duration.TtlTicks.{TtlTicks}
use Rattle.time.specs.declared.refusal.Refusal.{Refusal}
use Rattle.time.specs.declared.refusal.Refusal.TheVariants.{KeyLimitReached}
use Rattle.time.specs.Duration.{ticks_of}
use Rattle.lazy_heap_model.specs.declared.counted.Counted.{Counted}
use Rattle.lazy_heap_model.specs.Model.{opened, stale}
use Rattle.fast_lru.specs.declared.lru.FastLru.{FastLru}
use Rattle.fast_lru_model.specs.Model.{Items, inserted}
use Rattle.fast_lru_model.specs.Model as list
use Rattle.fast_lru.specs.Lru as lru
use Rattle.expiration_index.specs.declared.index.ExpirationIndex.{ExpirationIndex}
use Rattle.expiration_index.specs.Model.{Pair, Pairs, is_full, expired_count, deadline_of, next_expired}
use Rattle.expiration_index.specs.Model as pairs
use Rattle.expiration_index.specs.Index as index
use Rattle.expiration_index.specs.Calls.{popped_expired}
use Rattle.expiring_model.specs.declared.answers.Answer.{Answer}
use Rattle.expiring_model.specs.declared.answers.Answer.TheVariants as answers
use Rattle.expiring_answers.specs.Answers.{of_found, come_by}
use Rattle.expiring.specs.declared.answers.Reply.{Reply}
use Rattle.expiring.specs.declared.expiring.Expiring.{Expiring}
use Rattle.expiring_model.specs.Model.{Change, keep, set, drop, drop_expired, drop_all, look, pairs_after, has_come, value_in, fresh}
use Rattle.expiring_model.specs.Discards.{discards, heap_after}
use Rattle.expiring.specs.Book.{capacity_of, limit_of, rest, IsBook, heap_of, model_of, Kept}

-- ---- an opening
abbrev pub defaulted_by : Option Duration → Result (Option TtlTicks) Refusal
defaulted_by l = option_transpose (option_map ticks_of l)

-- ---- the numbers
-- "expirations (stops at u64::MAX)"
abbrev pub saturating_sum : ℕ → ℕ → ℕ
saturating_sum a b = min (a + b) (2 ^ 64 - 1)

abbrev pub with_list : Expiring → FastLru → Expiring
with_list b l = record { inner = l; index = b.index; default_ttl = b.default_ttl; expirations = b.expirations }

abbrev pub with_index : Expiring → ExpirationIndex → Expiring
with_index b x = record { inner = b.inner; index = x; default_ttl = b.default_ttl; expirations = b.expirations }

abbrev pub with_expired : Expiring → ℕ → Expiring
with_expired b n = record { inner = b.inner; index = b.index; default_ttl = b.default_ttl; expirations = saturating_sum b.expirations n }

abbrev pub replying : Expiring → Answer → Reply
replying b a = record { book = b; answer = a; discarded = 0 }

-- what is said of a book, or why nothing is
abbrev pub answering : Expiring → Result Answer Refusal → Reply
answering b (Ok a) = replying b a
answering b (Err why) = replying b (answers.Refused why)

-- and how many entries were discarded
abbrev pub telling : Expiring → Result (Counted Answer) Refusal → Reply
telling b (Ok said) = record { book = b; answer = said.answer; discarded = said.discarded }
telling b (Err why) = replying b (answers.Refused why)

-- ---- what stands in the words
abbrev pub stored_of : List ℕ → Expiring → Items
stored_of ws b = lru.model_of ws b.inner

abbrev pub deadlines_of : List ℕ → Expiring → Pairs
deadlines_of ws b = index.model_of (rest ws b) b.index

pub record DeadlineOf (ws : List ℕ) (b : Expiring) (k : ℕ) (r : Option Tick) : Type 0 where
  pub answer : IsBook ws b → r ≡ deadline_of k (deadlines_of ws b)

pub record Expired (ws : List ℕ) (b : Expiring) (t : Tick) (k : ℕ) (r : Bool) : Type 0 where
  pub answer : IsBook ws b → r ≡ has_come t (pairs.lookup k (deadlines_of ws b))

pub record Stored (ws : List ℕ) (b : Expiring) (k : ℕ) (r : Bool) : Type 0 where
  pub answer : IsBook ws b → r ≡ list.has k (stored_of ws b)

pub record StoredCount (ws : List ℕ) (b : Expiring) (r : ℕ) : Type 0 where
  pub answer : IsBook ws b → r ≡ length (stored_of ws b)

pub record ExpiredCount (ws : List ℕ) (b : Expiring) (t : Tick) (r : ℕ) : Type 0 where
  pub answer : IsBook ws b → r ≡ expired_count t (deadlines_of ws b)

-- ---- steps
-- a step that does ch to the deadlines and f to the values, and discards d entries
pub record Moved (ws : List ℕ) (b : Expiring) (ch : Change) (f : Items → Items) (ws' : List ℕ) (b' : Expiring) (d : ℕ) : Type 0 where
  pub capacity : capacity_of b' ≡ capacity_of b
  pub limit : limit_of b' ≡ limit_of b
  pub lifetime : b'.default_ttl ≡ b.default_ttl
  pub expirations : b'.expirations ≡ b.expirations
  pub book : IsBook ws b → IsBook ws' b'
  pub stored : IsBook ws b → stored_of ws' b' ≡ f (stored_of ws b)
  pub deadlines : IsBook ws b → deadlines_of ws' b' ≡ pairs_after ch (deadlines_of ws b)
  pub heap : IsBook ws b → heap_of ws' b' ≡ heap_after ch (heap_of ws b)
  pub discarded : IsBook ws b → d ≡ discards ch (heap_of ws b)
  pub kept : Kept (capacity_of b) (limit_of b) ws ws'

abbrev pub same : Items → Items
same s = s

-- `set_deadline`: as many keys as the limit may hold one. It answers the deadline that the key had.
pub record Dating (ws : List ℕ) (b : Expiring) (k : ℕ) (t : Tick) (ws' : List ℕ) (b' : Expiring) (r : Result (Counted (Option Tick)) Refusal) : Type 0 where
  pub only : (why : Refusal) → r ≡ Err why → why ≡ KeyLimitReached
  pub refused : (why : Refusal) → r ≡ Err why → (b' ≡ b) × (ws' ≡ ws)
  pub full : (why : Refusal) → r ≡ Err why → IsBook ws b → is_full (limit_of b) k (deadlines_of ws b) ≡ true
  pub free : (x : Counted (Option Tick)) → r ≡ Ok x → IsBook ws b → is_full (limit_of b) k (deadlines_of ws b) ≡ false
  pub moved : (x : Counted (Option Tick)) → r ≡ Ok x → Moved ws b (set k t) same ws' b' x.discarded
  pub held : (x : Counted (Option Tick)) → r ≡ Ok x → DeadlineOf ws b k x.answer

-- an insert, of the values
abbrev pub putting : Expiring → ℕ → ℕ → Items → Items
putting b k v s = inserted (capacity_of b) (record { key = k; value = v }) s

-- ---- calls, but for refusals 1, 2 and 3
abbrev pub expired_in : List ℕ → Expiring → Tick → ℕ → Bool
expired_in ws b t k = has_come t (pairs.lookup k (deadlines_of ws b))

abbrev pub value_of : List ℕ → Expiring → ℕ → Answer
value_of ws b k = value_in (list.lookup k (stored_of ws b))

abbrev pub unless : Bool → Answer → Answer
unless expired a = cond expired answers.Nothing a

abbrev pub beyond : Change → List ℕ → Expiring → Bool
beyond (set k d) ws b = is_full (limit_of b) k (deadlines_of ws b)
beyond keep ws b = false
beyond (drop k) ws b = false
beyond (drop_expired t) ws b = false
beyond drop_all ws b = false
beyond look ws b = false

-- a reply after which the values are s and n more keys have expired, with the answer a, by doing ch to the
-- deadlines, unless this would set one beyond the limit
pub record Acting (ws : List ℕ) (b : Expiring) (ch : Change) (s : Items) (n : ℕ) (a : Answer) (ws' : List ℕ) (r : Reply) : Type 0 where
  pub only : (why : Refusal) → r.answer ≡ answers.Refused why → why ≡ KeyLimitReached
  pub refused : (why : Refusal) → r.answer ≡ answers.Refused why → (r.book ≡ b) × (r.discarded ≡ 0) × (ws' ≡ ws)
  pub full : IsBook ws b → beyond ch ws b ≡ true → r.answer ≡ answers.Refused KeyLimitReached
  pub capacity : capacity_of r.book ≡ capacity_of b
  pub limit : limit_of r.book ≡ limit_of b
  pub lifetime : r.book.default_ttl ≡ b.default_ttl
  pub book : IsBook ws b → IsBook ws' r.book
  pub answer : IsBook ws b → beyond ch ws b ≡ false → r.answer ≡ a
  pub expirations : IsBook ws b → beyond ch ws b ≡ false → r.book.expirations ≡ saturating_sum b.expirations n
  pub stored : IsBook ws b → beyond ch ws b ≡ false → stored_of ws' r.book ≡ s
  pub deadlines : IsBook ws b → beyond ch ws b ≡ false → deadlines_of ws' r.book ≡ pairs_after ch (deadlines_of ws b)
  pub heap : IsBook ws b → beyond ch ws b ≡ false → heap_of ws' r.book ≡ heap_after ch (heap_of ws b)
  pub discarded : IsBook ws b → beyond ch ws b ≡ false → r.discarded ≡ discards ch (heap_of ws b)
  pub kept : Kept (capacity_of b) (limit_of b) ws ws'

-- `concluded`: the answer is what the list found of a key, unless the key's old deadline had come
abbrev pub concluding : Expiring → Option ℕ → Option Tick → Tick → ℕ → Reply
concluding b f old t d = cond (come_by (Ok old) t) (record { book = with_expired b 1; answer = answers.Nothing; discarded = d }) (record { book = b; answer = of_found (Ok f); discarded = d })

-- `insert_until` and `insert_forever`
abbrev pub Inserting : List ℕ → Expiring → Tick → ℕ → ℕ → Change → List ℕ → Reply → Type 0
Inserting ws b t k v ch ws' r = Acting ws b ch (putting b k v (stored_of ws b)) (cond (expired_in ws b t k) 1 0) (unless (expired_in ws b t k) (value_of ws b k)) ws' r

-- `remove_within`
abbrev pub Removing : List ℕ → Expiring → Tick → ℕ → List ℕ → Reply → Type 0
Removing ws b t k ws' r = Acting ws b (drop k) (list.without k (stored_of ws b)) (cond (expired_in ws b t k) 1 0) (unless (expired_in ws b t k) (value_of ws b k)) ws' r

abbrev pub less_value : Option Pair → Items → Items
less_value None s = s
less_value (Some p) s = list.without p.key s

-- `pop_expired`: whether there was one, and how many stale entries were discarded
pub record PoppingExpired (ws : List ℕ) (b : Expiring) (t : Tick) (ws' : List ℕ) (b' : Expiring) (r : Counted Bool) : Type 0 where
  pub capacity : capacity_of b' ≡ capacity_of b
  pub limit : limit_of b' ≡ limit_of b
  pub lifetime : b'.default_ttl ≡ b.default_ttl
  pub expirations : b'.expirations ≡ b.expirations
  pub book : IsBook ws b → IsBook ws' b'
  pub popped : IsBook ws b → r.answer ≡ is_some (next_expired t (deadlines_of ws b))
  pub stored : IsBook ws b → stored_of ws' b' ≡ less_value (next_expired t (deadlines_of ws b)) (stored_of ws b)
  pub deadlines : IsBook ws b → deadlines_of ws' b' ≡ pairs.without_expired t (deadlines_of ws b)
  pub heap : IsBook ws b → heap_of ws' b' ≡ popped_expired t (heap_of ws b)
  pub stale : IsBook ws b → r.discarded ≡ stale (heap_of ws b)
  pub kept : Kept (capacity_of b) (limit_of b) ws ws'

-- `purged`
abbrev pub purging : Expiring → ℕ → ℕ → Reply
purging b n stale = record { book = with_expired b n; answer = answers.Count n; discarded = saturating_sum n stale }

-- `open_within`
pub record Opened (ws : List ℕ) (c d s : ℕ) (l : Option TtlTicks) (ws' : List ℕ) (b : Expiring) : Type 0 where
  pub book : IsBook ws' b
  pub model : model_of ws' b 0 0 ≡ fresh c d l
  pub heap : heap_of ws' b ≡ opened d index.factor s
  pub kept : Kept c d ws ws'
