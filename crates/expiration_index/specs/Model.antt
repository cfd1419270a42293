-- The model: document 01, "The plain book", its list of (key, deadline), latest set last. It knows nothing of words, entries
-- or sequence numbers.
use Rattle.std.specs.Prelude.{◌≡◌, Bool, false, cond, not, ◌&&◌, ◌||◌, List, [], ◌∷◌, ◌++◌, ℕ, ◌+◌, eqb, ltb, leb, length, Option, Some, None, Result, Ok, Err}
use Rattle.time.specs.declared.tick.Tick.{Tick}
use Rattle.time.specs.declared.refusal.Refusal.{Refusal}
use Rattle.time.specs.declared.refusal.Refusal.TheVariants.{KeyLimitReached}
use Rattle.time.specs.Deadline.{is_expired_at}

pub record Pair : Type 0 where
  pub key : ℕ
  pub deadline : Tick

abbrev pub Pairs : Type 0
Pairs = List Pair

-- ---- parts of a list
-- the pair of a key
unfoldable pub lookup : ℕ → Pairs → Option Pair
lookup k [] = None
lookup k (p ∷ l) = cond (eqb p.key k) (Some p) (lookup k l)

-- whether a key holds a deadline
unfoldable pub has : ℕ → Pairs → Bool
has k [] = false
has k (p ∷ l) = eqb p.key k || has k l

-- the pairs of all other keys
unfoldable pub without : ℕ → Pairs → Pairs
without k [] = []
without k (p ∷ l) = cond (eqb p.key k) (without k l) (p ∷ without k l)

-- ---- answers
abbrev pub deadline_in : Option Pair → Option Tick
deadline_in None = None
deadline_in (Some p) = Some p.deadline

-- its key and its deadline
abbrev pub pair_in : Option Pair → Option (ℕ × Tick)
pair_in None = None
pair_in (Some p) = Some (p.key, p.deadline)

-- ---- calls
-- `deadline_of`; `set_deadline` and `remove` answer the same
unfoldable pub deadline_of : ℕ → Pairs → Option Tick
deadline_of k l = deadline_in (lookup k l)

-- "Setting a deadline appends the new pair; the key's old pair, if any, goes"
unfoldable pub set : ℕ → Tick → Pairs → Pairs
set k t l = without k l ++ (record { key = k; deadline = t } ∷ [])

-- refusal 4: "the call would set a deadline for a key holding none, with D keys held"
unfoldable pub is_full : ℕ → ℕ → Pairs → Bool
is_full d k l = not (has k l) && leb d (length l)

abbrev pub set_answer : ℕ → ℕ → Pairs → Result (Option Tick) Refusal
set_answer d k l = cond (is_full d k l) (Err KeyLimitReached) (Ok (deadline_of k l))

-- "Next due: least deadline, then earliest set". Of two pairs, p set before q: q only if it is due before p.
abbrev pub sooner : Pair → Pair → Pair
sooner p q = cond (ltb q.deadline.0 p.deadline.0) q p

abbrev pub soonest : Pair → Pairs → Pair
soonest p [] = p
soonest p (q ∷ l) = soonest (sooner p q) l

unfoldable pub next : Pairs → Option Pair
next [] = None
next (p ∷ l) = Some (soonest p l)

-- `next_deadline`
unfoldable pub next_due : Pairs → Option (ℕ × Tick)
next_due l = pair_in (next l)

-- `pop_expired`: the next due, if it is expired
abbrev pub if_expired : Tick → Option Pair → Option Pair
if_expired t None = None
if_expired t (Some p) = cond (is_expired_at p.deadline t) (Some p) None

unfoldable pub next_expired : Tick → Pairs → Option Pair
next_expired t l = if_expired t (next l)

unfoldable pub expired_due : Tick → Pairs → Option (ℕ × Tick)
expired_due t l = pair_in (next_expired t l)

-- and the list with that pair gone
abbrev pub less : Option Pair → Pairs → Pairs
less None l = l
less (Some p) l = without p.key l

unfoldable pub without_expired : Tick → Pairs → Pairs
without_expired t l = less (next_expired t l) l

-- `expired_count`: the pairs whose deadline is expired
unfoldable pub expired_count : Tick → Pairs → ℕ
expired_count t [] = 0
expired_count t (p ∷ l) = cond (is_expired_at p.deadline t) 1 0 + expired_count t l

-- the pairs that are not: what is left when all that are expired have been taken
unfoldable pub unexpired : Tick → Pairs → Pairs
unexpired t [] = []
unexpired t (p ∷ l) = cond (is_expired_at p.deadline t) (unexpired t l) (p ∷ unexpired t l)

-- no two pairs have one key
abbrev pub Distinct : Pairs → Type 0
Distinct [] = Unit {0}
Distinct (p ∷ l) = (has p.key l ≡ false) × Distinct l
