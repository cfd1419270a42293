-- The words of an answer, by its kind. A count of discarded entries is the last word, but where a record takes
-- all three.
use Rattle.std.specs.Prelude.{Bool, true, false, ℕ}
use Rattle.replay.specs.declared.answer.Answer.{Answer}
use Rattle.replay.specs.declared.answer.Code.{Code}
use Rattle.replay.specs.declared.answer.Code.TheVariants as code

-- the table's column "code"
abbrev pub number_of : Code → ℕ
number_of code.No = 0
number_of code.Yes = 1
number_of code.Nothing = 2
number_of code.Number = 3
number_of code.Pair = 4
number_of code.Record = 5
number_of code.Inserted = 6
number_of code.Replaced = 7
number_of code.Full = 8
number_of code.Done = 9
number_of code.Refused = 10
number_of code.Unknown = 11
number_of code.Missing = 12
number_of code.Immortal = 13
number_of code.Expired = 14
number_of code.Live = 15

abbrev pub words : ℕ → ℕ → ℕ → ℕ → Answer
words c x y z = record { code = c; first = x; second = y; third = z }

abbrev pub no : ℕ → Answer
no d = words 0 0 0 d

abbrev pub yes : ℕ → Answer
yes d = words 1 0 0 d

abbrev pub of_bool : Bool → ℕ → Answer
of_bool false d = no d
of_bool true d = yes d

abbrev pub nothing : ℕ → Answer
nothing d = words 2 0 0 d

abbrev pub number : ℕ → ℕ → Answer
number n d = words 3 n 0 d

abbrev pub pair : ℕ → ℕ → ℕ → Answer
pair x y d = words 4 x y d

abbrev pub recorded : ℕ → ℕ → ℕ → Answer
recorded k x y = words 5 k x y

abbrev pub inserted : Answer
inserted = words 6 0 0 0

abbrev pub replaced : ℕ → ℕ → ℕ → Answer
replaced k x y = words 7 k x y

abbrev pub full : Answer
full = words 8 0 0 0

abbrev pub done : ℕ → Answer
done d = words 9 0 0 d

abbrev pub refused : ℕ → ℕ → Answer
refused n d = words 10 n 0 d

abbrev pub unknown : Answer
unknown = words 11 0 0 0
