-- What a session prints, as the plain book has it.
use Rattle.std.specs.Prelude.{◌≡◌, Option, None, Some, option_map, Result, Ok, Err, ⊤, cond, ◌||◌, List, [], ◌∷◌, ◌++◌, ℕ, ◌<◌, ◌≤◌, ltb, length}
use Rattle.std.proofs.lemmas.List.Edits.{sets}
use Rattle.time.specs.declared.tick.Tick.{Tick}
use Rattle.time.specs.declared.refusal.Refusal.{Refusal}
use Rattle.time.specs.declared.refusal.Refusal.TheVariants.{LimitOutOfRange, MalformedLine}
use Rattle.time.specs.Duration.{duration_of}
use Rattle.lazy_heap_model.specs.Model.{Heap, heap_len}
use Rattle.lazy_heap_model.specs.Model as heap
use Rattle.expiration_index.specs.Index.{factor}
use Rattle.expiring_model.specs.declared.answers.Answer.TheVariants as answer
use Rattle.expiring.specs.declared.answers.Reply.{Reply}
use Rattle.expiring.specs.declared.expiring.Expiring.{Expiring}
use Rattle.time.specs.declared.duration.Duration.{Duration}
use Rattle.expiring_model.specs.Model.{Book, fresh, answer_of, book_after}
use Rattle.expiring_model.specs.Model as book
use Rattle.expiring_model.specs.Discards.{discarded_by, heap_by}
use Rattle.expiring.specs.Book.{IsBook, heap_of, model_of}
use Rattle.expiring.specs.Calls.{opening_of}
use Rattle.expiring_model.specs.Model.{default_of}
use Rattle.session.specs.declared.answer.Counts.{Counts}
use Rattle.forms.specs.declared.form.Call.{Call}
use Rattle.forms.specs.declared.form.Call.TheVariants as call
use Rattle.forms.specs.declared.form.Form.{Form}
use Rattle.forms.specs.declared.form.Form.TheVariants as form
use Rattle.session.specs.declared.step.Session as code
use Rattle.session.specs.declared.step.Session.TheVariants as session
use Rattle.forms.specs.Forms.{Reads}
use Rattle.session.specs.Answers.{line_of}

-- a form's call of the book
abbrev pub call_of : Call → book.Call
call_of (call.Put k v) = book.insert k v
call_of (call.PutWithTtl k v l) = book.insert_with_ttl k v (duration_of l.secs l.nanos)
call_of (call.Get k) = book.get k
call_of (call.Peek k) = book.peek k
call_of (call.Has k) = book.contains k
call_of (call.Drop k) = book.remove k
call_of (call.Ttl k l) = book.set_ttl k (duration_of l.secs l.nanos)
call_of (call.Status k) = book.ttl_status k
call_of call.Purge = book.purge_expired
call_of call.Due = book.next_deadline
call_of call.Live = book.live_len
call_of call.Clear = book.clear

-- ---- a session
pub data State : Type 0 where
  -- before its first line
  waiting : State
  -- with a plain book, and the heap from whose entries the counts are read
  running : Book → Heap → State
  -- after a refused first line
  ended : State

-- a state, and what is printed on the way to it
abbrev pub Step : Type 0
Step = State × List ℕ

abbrev pub counts : ℕ → Book → Heap → Counts
counts t p h = record { discarded = t; heap = heap_len h; held = length p.deadlines }

-- "a refused one prints its answer and ends the program"; "h entries, d deadlines after it (0 without a book)"
abbrev pub refused_first : Refusal → Step
refused_first why = (ended, line_of (answer.Refused why) (record { discarded = 0; heap = 0; held = 0 }))

-- "An accepted first line prints nothing"
abbrev pub by_outcome : Result ⊤ Refusal → State → Step
by_outcome (Ok u) s = (s, [])
by_outcome (Err why) s = refused_first why

-- "C and D at most 128 else refusal 1"; how many words there are decides refusal 2
abbrev pub opened_of : ℕ → ℕ → ℕ → Option Duration → Result ⊤ Refusal
opened_of size c d l = cond (ltb 128 c || ltb 128 d) (Err LimitOutOfRange) (opening_of c d size l)

unfoldable pub opening : ℕ → ℕ → ℕ → ℕ → Option Duration → Step
opening size c d s l = by_outcome (opened_of size c d l) (running (fresh c d (default_of l)) (heap.opened d factor s))

unfoldable pub calling : Tick → book.Call → Book → Heap → Step
calling t c p h = (running (book_after t c p) (heap_by t c p h), line_of (answer_of t c p) (counts (discarded_by t c p h) (book_after t c p) (heap_by t c p h)))

-- refusal 6
unfoldable pub malformed : Book → Heap → Step
malformed p h = (running p h, line_of (answer.Refused MalformedLine) (counts 0 p h))

abbrev pub step : ℕ → State → Option Form → Step
step size waiting (Some (form.Book c d s l)) = opening size c d s (option_map (λ t. duration_of t.secs t.nanos) l)
step size waiting (Some (form.At t c)) = refused_first MalformedLine
step size waiting None = refused_first MalformedLine
step size (running p h) (Some (form.At t c)) = calling (record { 0 = t }) (call_of c) p h
step size (running p h) (Some (form.Book c d s l)) = malformed p h
step size (running p h) None = malformed p h
step size ended f = (ended, [])

-- ---- over what lines are read as
unfoldable pub printed : ℕ → State → List (Option Form) → List ℕ
printed size s [] = []
printed size s (f ∷ fs) = (step size s f).1 ++ printed size (step size s f).0 fs

unfoldable pub state_after : ℕ → State → List (Option Form) → State
state_after size s [] = s
state_after size s (f ∷ fs) = state_after size (step size s f).0 fs

-- ---- the code's session
-- which state words and a session stand for
pub data Stands (ws : List ℕ) : code.Session → State → Type 0 where
  unopened : Stands ws session.Waiting waiting
  opened : {b : Expiring} → IsBook ws b → {p : Book} → model_of ws b p.replaced p.removed ≡ p → Stands ws (session.Open b) (running p (heap_of ws b))
  over : Stands ws session.Ended ended

-- a text at the start of what is lent for it, n bytes long
pub record Written (out text out' : List ℕ) (n : ℕ) : Type 0 where
  pub size : n ≡ length text
  pub bytes : out' ≡ sets out 0 text

-- the code goes where a step goes, and prints what it prints
pub record Follows (out : List ℕ) (to : Step) (ws' : List ℕ) (s' : code.Session) (out' : List ℕ) (n : ℕ) : Type 0 where
  pub state : Stands ws' s' to.0
  pub written : Written out to.1 out' n

-- the most bytes of an answer
abbrev pub room : ℕ
room = 160

-- whatever the words are
pub record Safe (ws out ws' out' : List ℕ) (n : ℕ) : Type 0 where
  pub words : length ws' ≡ length ws
  pub lent : length out' ≡ length out
  pub within : n ≤ length out

-- `step`
pub record Steps (ws : List ℕ) (s : code.Session) (line out ws' : List ℕ) (s' : code.Session) (out' : List ℕ) (n : ℕ) : Type 0 where
  pub safe : Safe ws out ws' out' n
  pub short : length out < room → (s' ≡ s) × (n ≡ 0) × (ws' ≡ ws) × (out' ≡ out)
  pub follows : room ≤ length out → (st : State) → Stands ws s st → (f : Option Form) → Reads line f → Follows out (step (length ws) st f) ws' s' out' n

-- ---- its parts
-- a step from no book, with room for an answer
pub record Begins (ws out : List ℕ) (to : Step) (ws' : List ℕ) (s' : code.Session) (out' : List ℕ) (n : ℕ) : Type 0 where
  pub safe : Safe ws out ws' out' n
  pub follows : Follows out to ws' s' out' n

-- the book that such a step opens, or the refusal that it prints
pub record Opens (ws : List ℕ) (to : Step) (ws' : List ℕ) (r : Result Expiring Refusal) : Type 0 where
  pub words : length ws' ≡ length ws
  pub opened : (b : Expiring) → r ≡ Ok b → Stands ws' (session.Open b) to.0 × (to.1 ≡ [])
  pub refused : (why : Refusal) → r ≡ Err why → (to ≡ refused_first why) × (ws' ≡ ws)

-- a step from a book, with room for an answer
pub record Continues (ws : List ℕ) (b : Expiring) (f : Option Form) (out ws' : List ℕ) (s' : code.Session) (out' : List ℕ) (n : ℕ) : Type 0 where
  pub safe : Safe ws out ws' out' n
  pub follows : (p : Book) → IsBook ws b → model_of ws b p.replaced p.removed ≡ p → Follows out (step (length ws) (running p (heap_of ws b)) f) ws' s' out' n

-- what the book answers in such a step
pub record Replies (ws : List ℕ) (b : Expiring) (f : Option Form) (ws' : List ℕ) (r : Reply) : Type 0 where
  pub words : length ws' ≡ length ws
  pub book : IsBook ws b → IsBook ws' r.book
  pub state : (p : Book) → IsBook ws b → model_of ws b p.replaced p.removed ≡ p → Stands ws' (session.Open r.book) (step (length ws) (running p (heap_of ws b)) f).0
  pub line : (p : Book) → IsBook ws b → model_of ws b p.replaced p.removed ≡ p → line_of r.answer (counts r.discarded (model_of ws' r.book 0 0) (heap_of ws' r.book)) ≡ (step (length ws) (running p (heap_of ws b)) f).1

-- a book's answer is written, with its counts
pub record Tells (ws : List ℕ) (r : Reply) (out out' : List ℕ) (n : ℕ) : Type 0 where
  pub lent : length out' ≡ length out
  pub within : n ≤ length out
  pub written : IsBook ws r.book → Written out (line_of r.answer (counts r.discarded (model_of ws r.book 0 0) (heap_of ws r.book))) out' n
