-- Texts as bytes, numbers in base ten, and formats.
use Rattle.std.specs.Prelude.{cond, List, [], ◌∷◌, ◌++◌, ℕ, zero, suc, ◌+◌, ◌/◌, ◌%◌, ltb, eqb}
use Prim.Native.Char.{code}
use Prim.Native.String.{String, [] as empty, ◌∷◌ as ◌then◌}

-- a text of ASCII
abbrev pub bytes : String → List ℕ
bytes empty = []
bytes (c then s) = code c ∷ bytes s

-- ---- numbers
abbrev pub digit : ℕ → ℕ
digit d = 48 + d

-- a number in base ten, without leading zeros, of at most k digits
unfoldable pub decimal_in : ℕ → ℕ → List ℕ
decimal_in zero n = []
decimal_in (suc k) n = cond (ltb n 10) (digit n ∷ []) (decimal_in k (n / 10) ++ (digit (n % 10) ∷ []))

-- 20 digits hold every number below 2^64
abbrev pub decimal : ℕ → List ℕ
decimal n = decimal_in 20 n

-- ---- formats
-- the format with a number for each `0`, in their order
unfoldable pub fill : List ℕ → List ℕ → List ℕ
fill [] ns = []
fill (c ∷ f) [] = c ∷ f
fill (c ∷ f) (n ∷ ns) = cond (eqb c 48) (decimal n ++ fill f ns) (c ∷ fill f (n ∷ ns))
