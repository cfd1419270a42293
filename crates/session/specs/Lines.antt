-- A block of bytes as lines, and what a session makes of them.
use Rattle.std.specs.Prelude.{◌≡◌, Option, ◌≢◌, ◌⊎◌, List, [], ◌∷◌, ◌++◌, ℕ, ◌+◌, ◌<◌, ◌≤◌, length, get_or, take, drop}
use Rattle.forms.specs.declared.form.Form.{Form}
use Rattle.session.specs.declared.lines.Ran.{Ran}
use Rattle.session.specs.declared.step.Session.{Session}
use Rattle.forms.specs.Forms.{Reads}
use Rattle.session.specs.Session.{State, printed, state_after, Stands, Written, room}

-- no newline among the bytes
abbrev pub Unbroken : List ℕ → Type 0
Unbroken l = (i : ℕ) → get_or l i 0 ≢ 10

-- lines, each with its newline
unfoldable pub joined : List (List ℕ) → List ℕ
joined [] = []
joined (l ∷ ls) = l ++ 10 ∷ joined ls

-- lines, the forms that they are read as
pub data ReadAs : List (List ℕ) → List (Option Form) → Type 0 where
  none : ReadAs [] []
  more : {l : List ℕ} {f : Option Form} {ls : List (List ℕ)} {fs : List (Option Form)} → Unbroken l → Reads l f → ReadAs ls fs → ReadAs (l ∷ ls) (f ∷ fs)

-- whatever is lent
pub record Safe (ws bytes out ws' out' : List ℕ) (r : Ran) : Type 0 where
  pub words : length ws' ≡ length ws
  pub lent : length out' ≡ length out
  pub read : r.read ≤ length bytes
  pub written : r.written ≤ length out

-- a session after lines
pub record Follows (ws : List ℕ) (s : Session) (out : List ℕ) (fs : List (Option Form)) (ws' : List ℕ) (s' : Session) (out' : List ℕ) (r : Ran) : Type 0 where
  pub state : (st : State) → Stands ws s st → Stands ws' s' (state_after (length ws) st fs)
  pub text : (st : State) → Stands ws s st → Written out (printed (length ws) st fs) out' r.written

-- the lines read so far, and the answers to them
pub record Reached (ws : List ℕ) (s : Session) (bytes out ws' : List ℕ) (s' : Session) (out' : List ℕ) (r : Ran) : Type 0 where
  pub safe : Safe ws bytes out ws' out' r
  pub lines : List (List ℕ)
  pub forms : List (Option Form)
  pub read : take r.read bytes ≡ joined lines
  pub reads : ReadAs lines forms
  pub follows : Follows ws s out forms ws' s' out' r

-- `run`: whole lines, as many as there are or as there is room for
pub record Runs (ws : List ℕ) (s : Session) (bytes out ws' : List ℕ) (s' : Session) (out' : List ℕ) (r : Ran) : Type 0 where
  pub reached : Reached ws s bytes out ws' s' out' r
  pub rest : Unbroken (drop r.read bytes) ⊎ (length out < r.written + room)
