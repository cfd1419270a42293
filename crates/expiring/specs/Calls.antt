-- What each call promises.
use Rattle.std.specs.Prelude.{◌≡◌, Bool, true, cond, ◌⊎◌, List, ℕ, length, Option, Some, None, Result, Ok, Err, ⊤}
use Rattle.limits.specs.Limits.{book_limits}
use Rattle.time.specs.declared.tick.Tick.{Tick}
use Rattle.time.specs.declared.refusal.Refusal.{Refusal}
use Rattle.time.specs.declared.refusal.Refusal.TheVariants.{InvalidNanos, KeyLimitReached}
use Rattle.time.specs.declared.duration.Duration.{Duration}
use Rattle.time.specs.declared.duration.TtlTicks.{TtlTicks}
use Rattle.time.specs.Duration.{is_duration, millis_of, ticks_of}
use Rattle.lazy_heap_model.specs.declared.counted.Counted.{Counted}
use Rattle.lazy_heap_model.specs.Model as heap
use Rattle.lazy_heap.specs.Answers.{outcome_of}
use Rattle.expiration_index.specs.Index.{factor}
use Rattle.expiring_model.specs.declared.answers.Answer.TheVariants as answers
use Rattle.expiring.specs.declared.answers.Reply.{Reply}
use Rattle.expiring.specs.declared.expiring.Expiring.{Expiring}
use Rattle.expiring_model.specs.Model.{Call, set_ttl, default_of, fresh, bad_nanos, answer_of, book_after}
use Rattle.expiring_model.specs.Discards.{discarded_by, heap_by}
use Rattle.expiring_model.specs.declared.answers.Answer.{Answer}
use Rattle.expiring.specs.Steps.{answering, telling}
use Rattle.expiring.specs.Book.{capacity_of, limit_of, IsBook, heap_of, model_of, Kept}

-- the numbers that `default` makes, which a caller that keeps numbers keeps where an opening is refused
abbrev pub no_book : Expiring
no_book = record {
  inner = record { map = record { capacity = 0; len = 0; refill_in = 0 } };
  index = record { heap = record { scores = record { capacity = 0; len = 0; refill_in = 0 }; entries = 0; seq = 0; factor = 0 } };
  default_ttl = None;
  expirations = 0;
}

-- refusals 1 and 2, and then 3, which a call's arguments tell
abbrev pub and_nanos : Result ⊤ Refusal → Bool → Result ⊤ Refusal
and_nanos (Err why) bad = Err why
and_nanos (Ok u) bad = cond bad (Err InvalidNanos) (Ok tt)

unfoldable pub cause_of : Expiring → ℕ → Call → Result ⊤ Refusal
cause_of b size c = and_nanos (book_limits (capacity_of b) (limit_of b) size) (bad_nanos c)

-- what every call promises: on any words and numbers refusals 1, 2 and 3 under their causes alone, and that no
-- refusal changes anything; on a book, the answer, the model and the heap after it and the discarded count,
-- whatever was replaced and removed before; and that words past the book's own stay
pub record Following (ws : List ℕ) (b : Expiring) (t : Tick) (c : Call) (ws' : List ℕ) (r : Reply) : Type 0 where
  pub caused : (why : Refusal) → cause_of b (length ws) c ≡ Err why → r.answer ≡ answers.Refused why
  pub only : (why : Refusal) → r.answer ≡ answers.Refused why → (cause_of b (length ws) c ≡ Err why) ⊎ ((cause_of b (length ws) c ≡ Ok tt) × (why ≡ KeyLimitReached))
  pub refused : (why : Refusal) → r.answer ≡ answers.Refused why → (r.book ≡ b) × (r.discarded ≡ 0) × (ws' ≡ ws)
  pub book : IsBook ws b → IsBook ws' r.book
  pub answer : IsBook ws b → (m n : ℕ) → r.answer ≡ answer_of t c (model_of ws b m n)
  pub model : IsBook ws b → (m n : ℕ) → let p = book_after t c (model_of ws b m n) in model_of ws' r.book p.replaced p.removed ≡ p
  pub discarded : IsBook ws b → (m n : ℕ) → r.discarded ≡ discarded_by t c (model_of ws b m n) (heap_of ws b)
  pub heap : IsBook ws b → (m n : ℕ) → heap_of ws' r.book ≡ heap_by t c (model_of ws b m n) (heap_of ws b)
  pub kept : Kept (capacity_of b) (limit_of b) ws ws'

-- that promise where a refusal is still to be told: of a call that changes nothing, and of one that may change the
-- book
abbrev pub Looking : List ℕ → Expiring → Tick → Call → Result Answer Refusal → Type 0
Looking ws b t c said = Following ws b t c ws (answering b said)

abbrev pub Updating : List ℕ → Expiring → Tick → Call → List ℕ → Expiring → Result (Counted Answer) Refusal → Type 0
Updating ws b t c ws' b' said = Following ws b t c ws' (telling b' said)

-- ---- `open`
abbrev pub by_duration : Option Duration → Result ⊤ Refusal
by_duration (Some d) = outcome_of (ticks_of d)
by_duration None = Ok tt

abbrev pub and_then : Result ⊤ Refusal → Result ⊤ Refusal → Result ⊤ Refusal
and_then (Err why) o = Err why
and_then (Ok u) o = o

-- refusals 1, 2 and 3
unfoldable pub opening_of : ℕ → ℕ → ℕ → Option Duration → Result ⊤ Refusal
opening_of c d size l = and_then (book_limits c d size) (by_duration l)

-- the fresh book, whatever the words held before
pub record Opening (ws : List ℕ) (c d s : ℕ) (l : Option Duration) (ws' : List ℕ) (r : Result Expiring Refusal) : Type 0 where
  pub outcome : outcome_of r ≡ opening_of c d (length ws) l
  pub refused : (why : Refusal) → r ≡ Err why → ws' ≡ ws
  pub book : (b : Expiring) → r ≡ Ok b → IsBook ws' b
  pub model : (b : Expiring) → r ≡ Ok b → model_of ws' b 0 0 ≡ fresh c d (default_of l)
  pub heap : (b : Expiring) → r ≡ Ok b → heap_of ws' b ≡ heap.opened d factor s
  pub kept : Kept c d ws ws'

-- `check`: yes exactly for a book
pub record Checking (ws : List ℕ) (b : Expiring) (r : Bool) : Type 0 where
  pub sound : r ≡ true → IsBook ws b
  pub complete : IsBook ws b → r ≡ true

-- a count of what the book holds, or refusals 1 and 2
pub record Counting (ws : List ℕ) (b : Expiring) (value : ℕ) (r : Result ℕ Refusal) : Type 0 where
  pub outcome : outcome_of r ≡ book_limits (capacity_of b) (limit_of b) (length ws)
  pub answer : IsBook ws b → r ≡ Ok value

-- `deadlines_held`
abbrev pub DeadlinesHeld : List ℕ → Expiring → Result ℕ Refusal → Type 0
DeadlinesHeld ws b r = Counting ws b (length (model_of ws b 0 0).deadlines) r

-- `heap_len`
abbrev pub HeapLength : List ℕ → Expiring → Result ℕ Refusal → Type 0
HeapLength ws b r = Counting ws b (heap.heap_len (heap_of ws b)) r

-- `set_ttl_within`, for every duration of so many ticks
abbrev pub SettingTtl : List ℕ → Expiring → Tick → ℕ → TtlTicks → List ℕ → Reply → Type 0
SettingTtl ws b t k l ws' r = (d : Duration) → is_duration d ≡ true → millis_of d ≡ l.0 → Following ws b t (set_ttl k d) ws' r
