-- What the exported functions promise.
use Rattle.std.specs.Prelude.{◌≡◌, Option, Result, Ok, Err, ⊤, List, [], ◌∷◌, ◌++◌, ℕ, zero, suc, ◌+◌, ◌*◌, ◌<◌, ◌≤◌, length, get_or}
use Rattle.time.specs.declared.refusal.Refusal.{Refusal}
use Rattle.time.specs.declared.duration.Duration.{Duration}
use Rattle.lazy_heap_model.specs.Model.{heap_len}
use Rattle.expiring_model.specs.declared.answers.Answer.{Answer}
use Rattle.expiring.specs.declared.answers.Reply.{Reply}
use Rattle.expiring.specs.declared.expiring.Expiring.{Expiring}
use Rattle.expiring_model.specs.Model.{Book}
use Rattle.expiring.specs.Book.{IsBook, heap_of, model_of}
use Rattle.expiring.specs.Calls.{no_book, Following, Opening, opening_of}
use Rattle.expiring_model.specs.Lists.{Calls, answers_of, book_at_end}
use Rattle.replay.specs.declared.answer.Answer as replay
use Rattle.replay.specs.Runs.{with_answer, room_in}
use Rattle.expiring.specs.Numbers.{book_in, with_changed}
use Rattle.replay_expiring.specs.declared.call.Asked.{Asked}
use Rattle.replay_expiring.specs.Words.{operations, changing, asked_at, call_in, default_of, of_answer, of_outcome}

-- ---- a list of calls
abbrev pub of_reply : Reply → replay.Answer
of_reply r = of_answer r.answer r.discarded

-- one call, as the book's call promises, on the book that the numbers tell, with its answer written as the i-th:
-- from the numbers ns, the words ws and the answers out to the three after it. A call that may change the book
-- leaves the numbers of its reply, but for those that no call changes; a look leaves numbers and words as they are.
pub data Turn (a : Asked) (i : ℕ) (ns ws out : List ℕ) : List ℕ → List ℕ → List ℕ → Type 0 where
  changed : {ws' : List ℕ} {r : Reply} → a.operation < changing → Following ws (book_in ns) a.tick (call_in a) ws' r → Turn a i ns ws out (with_changed ns r.book) ws' (with_answer out i (of_reply r))
  looked : {r : Reply} → changing ≤ a.operation → Following ws (book_in ns) a.tick (call_in a) ws r → Turn a i ns ws out ns ws (with_answer out i (of_reply r))

-- the first k calls, each on what the one before left
pub data Run (cs ns ws out : List ℕ) : ℕ → List ℕ → List ℕ → List ℕ → Type 0 where
  none : Run cs ns ws out 0 ns ws out
  more : {k : ℕ} {ns' ws' out' ns'' ws'' out'' : List ℕ} → Run cs ns ws out k ns' ws' out' → Turn (asked_at cs k) k ns' ws' out' ns'' ws'' out'' → Run cs ns ws out (k + 1) ns'' ws'' out''

-- k calls of which each has room for its answer; the next has none, or is none
pub record Ended (cs : List ℕ) (room k : ℕ) : Type 0 where
  pub within : k ≤ room
  pub all : k < room → operations ≤ (asked_at cs k).operation

-- `expiring_replay`: the calls up to the first that is none, from the numbers ns on; with fewer than twelve numbers,
-- none
pub record Replayed (ns ws cs out ns' ws' out' : List ℕ) (k : ℕ) : Type 0 where
  pub few : length ns < 12 → (k ≡ 0) × (ns' ≡ ns) × (ws' ≡ ws) × (out' ≡ out)
  pub ended : 12 ≤ length ns → Ended cs (room_in 6 cs out) k
  pub run : 12 ≤ length ns → Run cs ns ws out k ns' ws' out'
  pub past : (j : ℕ) → 12 ≤ j → get_or ns' j 0 ≡ get_or ns j 0

-- ---- an opening
-- room for the numbers, the six words of the opening and an answer
pub record Fits (ns cs out : List ℕ) : Type 0 where
  pub numbers : 12 ≤ length ns
  pub opening : 6 ≤ length cs
  pub answer : 4 ≤ length out

abbrev pub default_by : List ℕ → Option Duration
default_by cs = default_of (get_or cs 3 0) (get_or cs 4 0) (get_or cs 5 0)

abbrev pub outcome_by : List ℕ → List ℕ → Result ⊤ Refusal
outcome_by cs ws = opening_of (get_or cs 0 0) (get_or cs 1 0) (length ws) (default_by cs)

-- an opening with this outcome, of this book where it is one
abbrev pub opening_with : Result ⊤ Refusal → Expiring → Result Expiring Refusal
opening_with (Ok done) b = Ok b
opening_with (Err why) b = Err why

-- `expiring_open`: the book's opening by the words cs, with its numbers and answer written; without room, nothing
pub record Opens (ns ws cs out ns' ws' out' : List ℕ) (k : ℕ) : Type 0 where
  pub few : (Fits ns cs out → ⊥) → (k ≡ 0) × (ns' ≡ ns) × (ws' ≡ ws) × (out' ≡ out)
  pub ran : Fits ns cs out → k ≡ 1
  pub opened : Fits ns cs out → Opening ws (get_or cs 0 0) (get_or cs 1 0) (get_or cs 2 0) (default_by cs) ws' (opening_with (outcome_by cs ws) (book_in ns'))
  pub none : Fits ns cs out → (why : Refusal) → outcome_by cs ws ≡ Err why → book_in ns' ≡ no_book
  pub answer : Fits ns cs out → out' ≡ with_answer out 0 (of_outcome (outcome_by cs ws))
  pub size : length ns' ≡ length ns
  pub past : (j : ℕ) → 12 ≤ j → get_or ns' j 0 ≡ get_or ns j 0

-- ---- `expiring_check`: 1 exactly for a book, otherwise 0
pub record Checked (ns ws : List ℕ) (k : ℕ) : Type 0 where
  pub bit : k ≤ 1
  pub few : length ns < 12 → k ≡ 0
  pub sound : k ≡ 1 → IsBook ws (book_in ns)
  pub complete : 12 ≤ length ns → IsBook ws (book_in ns) → k ≡ 1

-- ---- demand 3, of words: "all its answers are the plain book's, and after it the book reads as the plain book then
-- stands"
-- the first k calls
unfoldable pub calls_in : List ℕ → ℕ → Calls
calls_in cs zero = []
calls_in cs (suc k) = calls_in cs k ++ (((asked_at cs k).tick, call_in (asked_at cs k)) ∷ [])

-- an answer's words, but for how many entries it says were discarded
pub record Told : Type 0 where
  pub code : ℕ
  pub first : ℕ
  pub second : ℕ

abbrev pub told_of : replay.Answer → Told
told_of a = record { code = a.code; first = a.first; second = a.second }

-- the first k answers so, and the total of the entries discarded
unfoldable pub told_in : List ℕ → ℕ → List Told
told_in out zero = []
told_in out (suc k) = told_in out k ++ (record { code = get_or out (4 * k) 0; first = get_or out (4 * k + 1) 0; second = get_or out (4 * k + 2) 0 } ∷ [])

unfoldable pub discarded_in : List ℕ → ℕ → ℕ
discarded_in out zero = 0
discarded_in out (suc k) = discarded_in out k + get_or out (4 * k + 3) 0

unfoldable pub words_of : List Answer → List Told
words_of [] = []
words_of (a ∷ l) = told_of (of_answer a 0) ∷ words_of l

-- k calls in the words cs, from a book that stands for p to the numbers ns and the words ws, with their answers
-- in out
pub record AsThePlainBook (p : Book) (cs : List ℕ) (k : ℕ) (ns ws out : List ℕ) : Type 0 where
  pub answers : told_in out k ≡ words_of (answers_of (calls_in cs k) p)
  pub model : let end = book_at_end (calls_in cs k) p in model_of ws (book_in ns) end.replaced end.removed ≡ end
  -- the check says yes
  pub book : IsBook ws (book_in ns)
  -- what was discarded and what is left are the deadlines held, replaced and removed
  pub sum : let end = book_at_end (calls_in cs k) p in discarded_in out k + heap_len (heap_of ws (book_in ns)) ≡ length end.deadlines + end.replaced + end.removed
