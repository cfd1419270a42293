-- What the calls on numbers in words promise: the promise of the book's own call, of the book that the numbers tell before it and
-- the one that they tell after it.
use Rattle.std.specs.Prelude.{◌≡◌, cond, ◌≢◌, List, ℕ, ◌<◌, ◌≤◌, ltb, length, get_or, Option, Result, Ok, Err, ⊤}
use Rattle.limits.specs.Limits.{book_limits}
use Rattle.time.specs.declared.tick.Tick.{Tick}
use Rattle.time.specs.declared.refusal.Refusal.{Refusal}
use Rattle.time.specs.declared.refusal.Refusal.TheVariants.{TooFewWords}
use Rattle.lazy_heap_model.specs.declared.counted.Counted.{Counted}
use Rattle.fast_lru_model.specs.Model.{Items, without, to_front}
use Rattle.fast_lru_model.specs.Model as list
use Rattle.expiring_model.specs.declared.answers.Answer.{Answer}
use Rattle.expiring_model.specs.declared.answers.Answer.TheVariants as answers
use Rattle.expiring_model.specs.Model.{Call, keep, drop}
use Rattle.expiring.specs.declared.answers.Reply.{Reply}
use Rattle.expiring.specs.Book.{Room, capacity_of, limit_of, IsBook}
use Rattle.expiring.specs.Calls.{Following}
use Rattle.expiring.specs.Numbers.{book_in}
use Rattle.expiring.specs.Steps.{stored_of, DeadlineOf, Moved, same, Dating, putting, concluding}

-- so many words have room for the book that the numbers tell
abbrev pub RoomIn : List ℕ → ℕ → Type 0
RoomIn ns size = Room size (capacity_of (book_in ns)) (limit_of (book_in ns))

-- twelve numbers, and words with room for the book that they tell
pub record Ready (ns : List ℕ) (size : ℕ) : Type 0 where
  pub numbers : 12 ≤ length ns
  pub room : Room size (capacity_of (book_in ns)) (limit_of (book_in ns))

-- the numbers that no call changes stay: capacity, limit, default lifetime, and those past the twelve
pub record Stay (ns ns' : List ℕ) : Type 0 where
  pub size : length ns' ≡ length ns
  pub others : (j : ℕ) → j ≢ 1 → j ≢ 2 → j ≢ 4 → j ≢ 5 → j ≢ 6 → j ≢ 7 → j ≢ 8 → j ≢ 11 → get_or ns' j 0 ≡ get_or ns j 0

-- a reply, of the numbers after a call
abbrev pub reply_in : List ℕ → Counted Answer → Reply
reply_in ns s = record { book = book_in ns; answer = s.answer; discarded = s.discarded }

-- an answer of a call that discarded nothing
abbrev pub saying : Answer → Counted Answer
saying a = record { answer = a; discarded = 0 }

-- what is said of a call that may be refused
abbrev pub told : Result (Counted Answer) Refusal → Counted Answer
told (Ok said) = said
told (Err why) = saying (answers.Refused why)

-- ---- steps
-- `set_deadline`
pub record Setting (ns ws : List ℕ) (k : ℕ) (t : Tick) (ns' ws' : List ℕ) (r : Result (Counted (Option Tick)) Refusal) : Type 0 where
  pub stay : Stay ns ns'
  pub size : length ws' ≡ length ws
  pub dating : Dating ws (book_in ns) k t ws' (book_in ns') r

-- `drop_deadline`
pub record Dropping (ns ws : List ℕ) (k : ℕ) (ns' ws' : List ℕ) (r : Option Tick) : Type 0 where
  pub stay : Stay ns ns'
  pub size : length ws' ≡ length ws
  pub moved : Moved ws (book_in ns) (drop k) same ws' (book_in ns') 0
  pub held : DeadlineOf ws (book_in ns) k r

-- a step that does f to the values, and answers the value that a key had
pub record Valuing (ns ws : List ℕ) (k : ℕ) (f : Items → Items) (ns' ws' : List ℕ) (r : Option ℕ) : Type 0 where
  pub stay : Stay ns ns'
  pub moved : Moved ws (book_in ns) keep f ws' (book_in ns') 0
  pub value : IsBook ws (book_in ns) → r ≡ list.value_of k (stored_of ws (book_in ns))

-- `get_value`
abbrev pub Getting : List ℕ → List ℕ → ℕ → List ℕ → List ℕ → Option ℕ → Type 0
Getting ns ws k ns' ws' r = Valuing ns ws k (to_front k) ns' ws' r

-- `put_value`
abbrev pub Putting : List ℕ → List ℕ → ℕ → ℕ → List ℕ → List ℕ → Option ℕ → Type 0
Putting ns ws k v ns' ws' r = Valuing ns ws k (putting (book_in ns) k v) ns' ws' r

-- `drop_value`
abbrev pub Taking : List ℕ → List ℕ → ℕ → List ℕ → List ℕ → Option ℕ → Type 0
Taking ns ws k ns' ws' r = Valuing ns ws k (without k) ns' ws' r

-- `concluded`
pub record Concluding (ns : List ℕ) (x : Option ℕ) (old : Option Tick) (t : Tick) (ns' : List ℕ) (r : Answer) : Type 0 where
  pub stay : Stay ns ns'
  pub reply : (d : ℕ) → reply_in ns' (record { answer = r; discarded = d }) ≡ concluding (book_in ns) x old t d

-- ---- calls
-- what is said where there are fewer than twelve numbers
abbrev pub too_few_numbers : Counted Answer
too_few_numbers = saying (answers.Refused TooFewWords)

-- refusals 1 and 2
unfoldable pub admitted : List ℕ → ℕ → Result ⊤ Refusal
admitted ns size = cond (ltb (length ns) 12) (Err TooFewWords) (book_limits (capacity_of (book_in ns)) (limit_of (book_in ns)) size)

pub record Changing (ns ws : List ℕ) (t : Tick) (c : Call) (ns' ws' : List ℕ) (r : Counted Answer) : Type 0 where
  pub refused : length ns < 12 → (r ≡ too_few_numbers) × (ns' ≡ ns) × (ws' ≡ ws)
  pub call : 12 ≤ length ns → Following ws (book_in ns) t c ws' (reply_in ns' r)
  pub stay : Stay ns ns'
