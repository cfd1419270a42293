-- Lists of calls, and what they come to on the model.
use Rattle.std.specs.Prelude.{List, [], ◌∷◌}
use Rattle.time.specs.declared.tick.Tick.{Tick}
use Rattle.expiring_model.specs.declared.answers.Answer.{Answer}
use Rattle.expiring_model.specs.Model.{Book, Call, answer_of, book_after}

-- calls, each with what its clock reads
abbrev pub Calls : Type 0
Calls = List (Tick × Call)

-- the model run over them: its answers, and how it stands then
unfoldable pub answers_of : Calls → Book → List Answer
answers_of [] p = []
answers_of ((t, c) ∷ cs) p = answer_of t c p ∷ answers_of cs (book_after t c p)

unfoldable pub book_at_end : Calls → Book → Book
book_at_end [] p = p
book_at_end ((t, c) ∷ cs) p = book_at_end cs (book_after t c p)
