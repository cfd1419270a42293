-- Document 01, "The session program": the forms. Each has one text: its format with its numbers.
use Rattle.std.specs.Prelude.{◌≡◌, Option, None, Some, List, [], ◌∷◌, ℕ, ◌^◌, ◌<◌, ◌≤◌, length, get_or}
use Prim.Native.String.{String, ◌++◌}
use Rattle.text.specs.Text.{bytes, fill}
use Rattle.forms.specs.declared.form.Call.{Call}
use Rattle.forms.specs.declared.form.Call.TheVariants as call
use Rattle.forms.specs.declared.form.Form.{Form}
use Rattle.forms.specs.declared.form.Form.TheVariants as form

-- each 0 stands for a number
abbrev pub call_format : Call → String
call_format (call.Put k v) = "(put 0 0)"
call_format (call.PutWithTtl k v l) = "(put 0 0 (ttl 0 0))"
call_format (call.Get k) = "(get 0)"
call_format (call.Peek k) = "(peek 0)"
call_format (call.Has k) = "(has 0)"
call_format (call.Drop k) = "(drop 0)"
call_format (call.Ttl k l) = "(ttl 0 0 0)"
call_format (call.Status k) = "(status 0)"
call_format call.Purge = "(purge)"
call_format call.Due = "(due)"
call_format call.Live = "(live)"
call_format call.Clear = "(clear)"

abbrev pub format_of : Form → String
format_of (form.Book c d s None) = "(book 0 0 0)"
format_of (form.Book c d s (Some l)) = "(book 0 0 0 (ttl 0 0))"
format_of (form.At t c) = "(at 0 " ++ (call_format c ++ ")")

abbrev pub call_numbers : Call → List ℕ
call_numbers (call.Put k v) = k ∷ v ∷ []
call_numbers (call.PutWithTtl k v l) = k ∷ v ∷ l.secs ∷ l.nanos ∷ []
call_numbers (call.Get k) = k ∷ []
call_numbers (call.Peek k) = k ∷ []
call_numbers (call.Has k) = k ∷ []
call_numbers (call.Drop k) = k ∷ []
call_numbers (call.Ttl k l) = k ∷ l.secs ∷ l.nanos ∷ []
call_numbers (call.Status k) = k ∷ []
call_numbers call.Purge = []
call_numbers call.Due = []
call_numbers call.Live = []
call_numbers call.Clear = []

abbrev pub numbers_of : Form → List ℕ
numbers_of (form.Book c d s None) = c ∷ d ∷ s ∷ []
numbers_of (form.Book c d s (Some l)) = c ∷ d ∷ s ∷ l.secs ∷ l.nanos ∷ []
numbers_of (form.At t c) = t ∷ call_numbers c

abbrev pub text_of : Form → List ℕ
text_of f = fill (bytes (format_of f)) (numbers_of f)

-- "one bracket form a line (at most 200 bytes without its newline, ... base-ten u64 ...)"
pub record Spells (line : List ℕ) (f : Form) : Type 0 where
  pub size : length line ≤ 200
  pub numbers : (i : ℕ) → get_or (numbers_of f) i 0 < 2 ^ 64
  pub text : line ≡ text_of f

-- what a line is read as: the form that it spells, or none
pub data Reads (line : List ℕ) : Option Form → Type 0 where
  spelled : {f : Form} → Spells line f → Reads line (Some f)
  unreadable : ((f : Form) → Spells line f → ⊥) → Reads line None
