-- Demand 3: "a single claim about the whole list and not one for each call". A list of calls on a fresh book,
-- and what it comes to.
use Rattle.std.specs.Prelude.{◌≡◌, List, [], ◌∷◌, ℕ, ◌+◌, length}
use Rattle.time.specs.declared.tick.Tick.{Tick}
use Rattle.lazy_heap_model.specs.Model.{heap_len}
use Rattle.expiring_model.specs.declared.answers.Answer.{Answer}
use Rattle.expiring.specs.declared.answers.Reply.{Reply}
use Rattle.expiring.specs.declared.expiring.Expiring.{Expiring}
use Rattle.expiring_model.specs.Model.{Book, Call}
use Rattle.expiring_model.specs.Lists.{Calls, answers_of, book_at_end}
use Rattle.expiring.specs.Book.{IsBook, heap_of, model_of}
use Rattle.expiring.specs.Calls.{Following}

-- "Each call of a list is lent the book's words as the call before left them, and handed the numbers that it
-- handed back." From words and numbers by calls to the answers, the total of the discarded counts, and words and
-- numbers.
pub data Run : List ℕ → Expiring → Calls → List Answer → ℕ → List ℕ → Expiring → Type 0 where
  none : {ws : List ℕ} {b : Expiring} → Run ws b [] [] 0 ws b
  more : {ws ws₁ ws' : List ℕ} {b b' : Expiring} {t : Tick} {c : Call} {r : Reply} {cs : Calls} {told : List Answer} {n : ℕ} → Following ws b t c ws₁ r → Run ws₁ r.book cs told n ws' b' → Run ws b ((t, c) ∷ cs) (r.answer ∷ told) (r.discarded + n) ws' b'

-- calls on a book that stands for p come to what they come to on p
pub record AsTheModel (p : Book) (cs : Calls) (told : List Answer) (discarded : ℕ) (ws : List ℕ) (b : Expiring) : Type 0 where
  -- "all its answers are the plain book's"
  pub answers : told ≡ answers_of cs p
  -- "and after it the book reads as the plain book then stands (replaced and removed apart)"
  pub model : let end = book_at_end cs p in model_of ws b end.replaced end.removed ≡ end
  -- the check says yes
  pub book : IsBook ws b
  -- what was discarded and what is left are the deadlines held, replaced and removed
  pub sum : let end = book_at_end cs p in discarded + heap_len (heap_of ws b) ≡ length end.deadlines + end.replaced + end.removed
