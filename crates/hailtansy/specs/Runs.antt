-- Demand 3, of calls that are made one by one: "all its answers are the plain book's, and after it the book
-- reads as the plain book then stands".
use Rattle.std.specs.Prelude.{◌≡◌, List, [], ◌∷◌, ◌++◌, ℕ, ◌+◌, length}
use Rattle.lazy_heap_model.specs.Model.{heap_len}
use Rattle.expiring_model.specs.Model.{Book, Call}
use Rattle.expiring.specs.Book.{IsBook, heap_of, model_of}
use Rattle.expiring_model.specs.Lists.{Calls, answers_of, book_at_end}
use Rattle.expiring.specs.Numbers.{book_in}
use Rattle.replay_expiring.specs.Runs.{Told, told_in, discarded_in, words_of}
use Rattle.hailtansy.specs.Calls.{Room, tick_of, Called, Looked}

-- calls from the numbers ns and the words ws on, each on what the one before left, with the answers as they were
-- written
pub data Series : List ℕ → List ℕ → Calls → List (List ℕ) → List ℕ → List ℕ → Type 0 where
  none : {ns ws : List ℕ} → Series ns ws [] [] ns ws
  call : {ns ws out ns₁ ws₁ out₁ ns' ws' : List ℕ} {t k : ℕ} {c : Call} {cs : Calls} {outs : List (List ℕ)} → Room ns out → Called ns ws t c out ns₁ ws₁ out₁ k → Series ns₁ ws₁ cs outs ns' ws' → Series ns ws ((tick_of t, c) ∷ cs) (out₁ ∷ outs) ns' ws'
  look : {ns ws out out₁ ns' ws' : List ℕ} {t k : ℕ} {c : Call} {cs : Calls} {outs : List (List ℕ)} → Room ns out → Looked ns ws t c out out₁ k → Series ns ws cs outs ns' ws' → Series ns ws ((tick_of t, c) ∷ cs) (out₁ ∷ outs) ns' ws'

-- the answers but for how many entries they say were discarded, and the total of these
unfoldable pub told_in_all : List (List ℕ) → List Told
told_in_all [] = []
told_in_all (out ∷ outs) = told_in out 1 ++ told_in_all outs

unfoldable pub discarded_in_all : List (List ℕ) → ℕ
discarded_in_all [] = 0
discarded_in_all (out ∷ outs) = discarded_in out 1 + discarded_in_all outs

-- calls from a book that stands for p to the numbers ns and the words ws, with their answers
pub record AsThePlainBook (p : Book) (cs : Calls) (outs : List (List ℕ)) (ns ws : List ℕ) : Type 0 where
  pub answers : told_in_all outs ≡ words_of (answers_of cs p)
  pub model : let end = book_at_end cs p in model_of ws (book_in ns) end.replaced end.removed ≡ end
  -- the check says yes
  pub book : IsBook ws (book_in ns)
  -- what was discarded and what is left are the deadlines held, replaced and removed
  pub sum : let end = book_at_end cs p in discarded_in_all outs + heap_len (heap_of ws (book_in ns)) ≡ length end.deadlines + end.replaced + end.removed
