-- What reading a text by a format comes to. That it is the way back from `fill` is shown in proofs/.
use Rattle.std.specs.Prelude.{◌≡◌, Option, None, Some, option_map, Bool, true, false, cond, not, ◌&&◌, List, [], ◌∷◌, ℕ, suc, ◌+◌, ◌-◌, ◌*◌, ◌^◌, ltb, leb, eqb, set}
use Rattle.std.specs.Borrow.{Bor}

abbrev pub is_digit : ℕ → Bool
is_digit c = leb 48 c && leb c 57

abbrev pub and_then : {A B : Type 0} → Option A → (A → Option B) → Option B
and_then None f = None
and_then (Some a) f = f a

-- ---- a number, and the text after it
-- digits that go on with a number
unfoldable pub read_on : ℕ → List ℕ → Option (ℕ × List ℕ)
read_on v [] = Some (v, [])
read_on v (c ∷ s) = cond (is_digit c) (cond (ltb (v * 10 + (c - 48)) (2 ^ 64)) (read_on (v * 10 + (c - 48)) s) None) (Some (v, c ∷ s))

-- a number that starts with 0 is 0
unfoldable pub read_number : List ℕ → Option (ℕ × List ℕ)
read_number [] = None
read_number (c ∷ s) = cond (is_digit c) (cond (eqb c 48) (Some (0, s)) (read_on (c - 48) s)) None

abbrev pub read_byte : ℕ → List ℕ → Option (List ℕ)
read_byte c [] = None
read_byte c (x ∷ s) = cond (eqb x c) (Some s) None

-- ---- a text that is known, and the text after it
unfoldable pub read_text : List ℕ → List ℕ → Option (List ℕ)
read_text [] s = Some s
read_text (c ∷ t) s = and_then (read_byte c s) (λ r. read_text t r)

abbrev pub is_end : Option (List ℕ) → Bool
is_end None = false
is_end (Some []) = true
is_end (Some (c ∷ s)) = false

-- a number behind it
abbrev pub number_after : List ℕ → List ℕ → Option (ℕ × List ℕ)
number_after t s = and_then (read_text t s) (λ r. read_number r)

-- a number behind it, and behind that another text, which is all that is left
abbrev pub number_between : List ℕ → List ℕ → List ℕ → Option ℕ
number_between t u s = and_then (number_after t s) (λ r. cond (is_end (read_text u r.1)) (Some r.0) None)

-- ---- a text by a format: its numbers, at most five, with zeros after them, and the text after it
unfoldable pub read_from : ℕ → List ℕ → List ℕ → List ℕ → Option (List ℕ × List ℕ)
read_from k ns [] s = Some (ns, s)
read_from k ns (c ∷ f) s = cond (eqb c 48) (and_then (read_number s) (λ r. cond (ltb k 5) (read_from (suc k) (set ns k r.0) f r.1) None)) (and_then (read_byte c s) (λ r. read_from k ns f r))

-- a format without numbers
abbrev pub plain : List ℕ → Bool
plain [] = true
plain (c ∷ t) = not (eqb c 48) && plain t

abbrev pub read_in : List ℕ → List ℕ → Option (List ℕ × List ℕ)
read_in f s = read_from 0 (0 ∷ 0 ∷ 0 ∷ 0 ∷ 0 ∷ []) f s

-- ---- what the functions promise
-- a number that was found, with the text after it
abbrev pub number_in : Option (ℕ × Bor (List ℕ)) → Option (ℕ × List ℕ)
number_in r = option_map (λ n. (n.0, n.1.now)) r

abbrev pub ReadsNumber : List ℕ → Option (ℕ × Bor (List ℕ)) → Type 0
ReadsNumber line r = number_in r ≡ read_number line

abbrev pub ReadsOn : List ℕ → ℕ → Option (ℕ × Bor (List ℕ)) → Type 0
ReadsOn line v r = number_in r ≡ read_on v line

abbrev pub ReadsAfter : List ℕ → List ℕ → Option (ℕ × Bor (List ℕ)) → Type 0
ReadsAfter line t r = number_in r ≡ number_after t line

abbrev pub ReadsBetween : List ℕ → List ℕ → List ℕ → Option ℕ → Type 0
ReadsBetween line t u r = r ≡ number_between t u line

-- what a line that starts with a text has behind it, as `strip_prefix` tells it
abbrev pub Starts : List ℕ → List ℕ → Option (List ℕ) → Type 0
Starts line t r = r ≡ read_text t line

-- whether a text is all of a line, as `==` tells it
abbrev pub Ends : List ℕ → List ℕ → Bool → Type 0
Ends line t r = r ≡ is_end (read_text t line)
