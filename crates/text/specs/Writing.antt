-- What writing comes to.
use Rattle.std.specs.Prelude.{◌≡◌, List, [], ◌++◌, ◌∷◌, ℕ, zero, suc, ◌+◌, ◌/◌, ◌%◌, ◌≤◌, length}
use Rattle.std.proofs.lemmas.List.Edits.{sets}
use Rattle.text.specs.Text.{digit}
use Rattle.text.specs.declared.writer.Writer.{Writer}

-- the last k digits of a number
unfoldable pub last_digits : ℕ → ℕ → List ℕ
last_digits zero n = []
last_digits (suc k) n = last_digits k (n / 10) ++ (digit (n % 10) ∷ [])

abbrev pub Spells : List ℕ → ℕ → List ℕ → Type 0
Spells out n out' = out' ≡ last_digits (length out) n

-- a text at a place, where there is room for it
pub record Puts (out : List ℕ) (at : ℕ) (text out' : List ℕ) (r : ℕ) : Type 0 where
  pub ends : at + length text ≤ length out → r ≡ at + length text
  pub written : at + length text ≤ length out → out' ≡ sets out at text
  pub within : r ≤ length out
  pub size : length out' ≡ length out

-- a text written behind what is there, to the same slice
pub record Writes (w : Writer) (text : List ℕ) (w' : Writer) : Type 0 where
  pub same_reference : w'.out.ghost_name ≡ w.out.ghost_name
  pub puts : Puts w.out.now w.at text w'.out.now w'.at
