-- A list of calls in words, each on what the one before left. S is a layer's numbers.
use Rattle.std.specs.Prelude.{◌≡◌, List, ℕ, ◌+◌, ◌*◌, ◌/◌, ◌<◌, ◌≤◌, min, length, get_or, set}
use Rattle.replay.specs.declared.answer.Answer.{Answer}
use Rattle.replay.specs.declared.call.Call.{Call}

-- the i-th call, counted from 0
abbrev pub call_at : List ℕ → ℕ → Call
call_at cs i = record { operation = get_or cs (4 * i) 0; first = get_or cs (4 * i + 1) 0; second = get_or cs (4 * i + 2) 0; third = get_or cs (4 * i + 3) 0 }

-- the words with the i-th answer written
unfoldable pub with_answer : List ℕ → ℕ → Answer → List ℕ
with_answer out i a = set (set (set (set out (4 * i) a.code) (4 * i + 1) a.first) (4 * i + 2) a.second) (4 * i + 3) a.third

-- how many calls of so many words there are with room for an answer
abbrev pub room_in : ℕ → List ℕ → List ℕ → ℕ
room_in size cs out = min (length cs / size) (length out / 4)

-- what one call does: the words and numbers before it, the call, the words and numbers after it, its answer
abbrev pub Step : Type 0 → Type 1
Step S = List ℕ → S → Call → List ℕ → S → Answer → Type 0

-- the first k calls, from the words ws, the numbers s and the answers out to the three at the end
pub data Run {S : Type 0} (step : Step S) (cs ws : List ℕ) (s : S) (out : List ℕ) : ℕ → List ℕ → S → List ℕ → Type 0 where
  none : Run step cs ws s out 0 ws s out
  more : {k : ℕ} {ws' ws'' : List ℕ} {s' s'' : S} {out' : List ℕ} {a : Answer} → Run step cs ws s out k ws' s' out' → step ws' s' (call_at cs k) ws'' s'' a → Run step cs ws s out (k + 1) ws'' s'' (with_answer out' k a)

-- as many calls as have an answer's room, from the numbers ns on, of which a layer has `size`; with fewer, none
pub record Replayed {S : Type 0} (size : ℕ) (numbers_in : List ℕ → S) (step : Step S) (ns ws cs out ns' ws' out' : List ℕ) (k : ℕ) : Type 0 where
  pub few : length ns < size → (k ≡ 0) × (ns' ≡ ns) × (ws' ≡ ws) × (out' ≡ out)
  pub count : size ≤ length ns → k ≡ room_in 4 cs out
  pub run : size ≤ length ns → Run step cs ws (numbers_in ns) out k ws' (numbers_in ns') out'
  pub past : (j : ℕ) → size ≤ j → get_or ns' j 0 ≡ get_or ns j 0
