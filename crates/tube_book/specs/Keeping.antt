-- What is kept of a block whose last line has no newline yet.
use Rattle.std.specs.Prelude.{◌≡◌, Option, Bool, true, false, not, List, ℕ, ◌-◌, min, take, drop}
use Rattle.std.specs.Bool.{then_some}
use Rattle.session.specs.declared.step.Session.{Session}
use Rattle.session.specs.declared.step.Session.TheVariants as session

abbrev pub is_ended : Session → Bool
is_ended session.Waiting = false
is_ended (session.Open b) = false
is_ended session.Ended = true

-- how many bytes that is
abbrev pub kept_of : ℕ → ℕ → ℕ
kept_of start size = min (size - start) 201

-- `keep`: what is left of the bytes is at their start, or as much of it as shows that it is no form; a session
-- that has ended reads on no more
pub record Keeps (s : Session) (bytes : List ℕ) (start size : ℕ) (bytes' : List ℕ) (r : Option ℕ) : Type 0 where
  pub kept : r ≡ then_some (not (is_ended s)) (kept_of start size)
  pub left : take (kept_of start size) bytes' ≡ take (kept_of start size) (drop start bytes)
