-- Document 01, "The session program": "Each line's answer is `(A (thrown t) (heap h) (held d))`".
use Rattle.std.specs.Prelude.{List, [], ◌∷◌, ◌++◌, ℕ}
use Prim.Native.String.{String}
use Rattle.time.specs.Refusal.{number_of}
use Rattle.expiring_model.specs.declared.answers.Answer.{Answer}
use Rattle.expiring_model.specs.declared.answers.Answer.TheVariants as answer
use Rattle.text.specs.Text.{bytes, decimal, fill}
use Rattle.text.specs.Writing.{Puts}
use Rattle.session.specs.declared.answer.Counts.{Counts}
use Rattle.session.specs.declared.answer.Shape.{Shape}
use Rattle.session.specs.declared.answer.Shape.TheVariants as shape

-- A, each 0 standing for a number. No form asks for an item or a rank.
abbrev pub format_of : Answer → String
format_of answer.Nothing = "none"
format_of (answer.Value v) = "(value 0)"
format_of answer.Yes = "yes"
format_of answer.No = "no"
format_of answer.Missing = "missing"
format_of answer.Immortal = "immortal"
format_of answer.Expired = "expired"
format_of (answer.Live l d) = "(live 0 0)"
format_of (answer.Count n) = "(count 0)"
format_of (answer.Due k d) = "(due 0 0)"
format_of (answer.Item k v) = "(item 0 0)"
format_of (answer.Rank n) = "(rank 0)"
format_of answer.Done = "done"
format_of (answer.Refused why) = "(refused 0)"

abbrev pub numbers_of : Answer → List ℕ
numbers_of answer.Nothing = []
numbers_of (answer.Value v) = v ∷ []
numbers_of answer.Yes = []
numbers_of answer.No = []
numbers_of answer.Missing = []
numbers_of answer.Immortal = []
numbers_of answer.Expired = []
numbers_of (answer.Live l d) = l.0 ∷ d.0 ∷ []
numbers_of (answer.Count n) = n ∷ []
numbers_of (answer.Due k d) = k ∷ d.0 ∷ []
numbers_of (answer.Item k v) = k ∷ v ∷ []
numbers_of (answer.Rank n) = n ∷ []
numbers_of answer.Done = []
numbers_of (answer.Refused why) = number_of why ∷ []

-- a line of output, with its newline
abbrev pub line_format : Answer → List ℕ
line_format a = bytes "(" ++ bytes (format_of a) ++ bytes " (thrown 0) (heap 0) (held 0))\n"

abbrev pub line_numbers : Answer → Counts → List ℕ
line_numbers a c = numbers_of a ++ (c.discarded ∷ c.heap ∷ c.held ∷ [])

unfoldable pub line_of : Answer → Counts → List ℕ
line_of a c = fill (line_format a) (line_numbers a c)

-- `print`
abbrev pub Prints : List ℕ → Answer → Counts → List ℕ → ℕ → Type 0
Prints out a c out' r = Puts out 0 (line_of a c) out' r

-- its parts: up to the counts, and from them on
unfoldable pub head_of : Answer → List ℕ
head_of a = fill (bytes "(" ++ bytes (format_of a)) (numbers_of a)

-- the same by its name, with the brackets before it, and its numbers
abbrev pub shaped : Shape → List ℕ
shaped (shape.Name n) = n.now
shaped (shape.One n a) = (n.now ++ decimal a) ++ bytes ")"
shaped (shape.Two n a b) = (n.now ++ decimal a) ++ ((bytes " " ++ decimal b) ++ bytes ")")

unfoldable pub tail_of : Counts → List ℕ
tail_of c = fill (bytes " (thrown 0) (heap 0) (held 0))\n") (c.discarded ∷ c.heap ∷ c.held ∷ [])
