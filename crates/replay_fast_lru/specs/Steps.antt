-- What one call does: what the list's call of that number promises, and its answer.
use Rattle.std.specs.Prelude.{◌≡◌, Bool, List, ℕ, ◌<◌, ◌≤◌, length, Option, Result, ⊤}
use Rattle.fast_lru.specs.declared.lru.FastLru.{FastLru}
use Rattle.time.specs.declared.refusal.Refusal.{Refusal}
use Rattle.fast_lru_model.specs.Model.{Item}
use Rattle.fast_lru.specs.Calls.{Opening, Clearing, Length, Emptiness, Capacity, Containing, Getting, Peeking, Inserting, Removing, Popping, PeekingOldest, Touching, Ranking, Checking}
use Rattle.replay.specs.declared.answer.Answer.{Answer}
use Rattle.replay.specs.declared.call.Call.{Call}
use Rattle.replay.specs.Answers.{of_bool, unknown}
use Rattle.replay.specs.Runs.{Run}
use Rattle.replay_fast_lru.specs.Answers.{of_outcome, of_found, of_oldest, of_rank, of_told, of_count}
use Rattle.replay_fast_lru.specs.Numbers as numbers

-- the item that a call brings
abbrev pub item_of : Call → Item
item_of c = record { key = c.first; value = c.second }

pub data Ran (ws : List ℕ) (l : FastLru) (c : Call) : List ℕ → FastLru → Answer → Type 0 where
  opened : {ws' : List ℕ} {r : Result FastLru Refusal} → c.operation ≡ 0 → Opening ws c.first ws' r → Ran ws l c ws' (numbers.opened r) (of_outcome r)
  cleared : {ws' : List ℕ} {l' : FastLru} {r : Result ⊤ Refusal} → c.operation ≡ 1 → Clearing ws l ws' l' r → Ran ws l c ws' l' (of_outcome r)
  inserted : {ws' : List ℕ} {l' : FastLru} {r : Result (Option ℕ) Refusal} → c.operation ≡ 2 → Inserting ws l (item_of c) ws' l' r → Ran ws l c ws' l' (of_found r)
  gotten : {ws' : List ℕ} {l' : FastLru} {r : Result (Option ℕ) Refusal} → c.operation ≡ 3 → Getting ws l c.first ws' l' r → Ran ws l c ws' l' (of_found r)
  removed : {ws' : List ℕ} {l' : FastLru} {r : Result (Option ℕ) Refusal} → c.operation ≡ 4 → Removing ws l c.first ws' l' r → Ran ws l c ws' l' (of_found r)
  popped : {ws' : List ℕ} {l' : FastLru} {r : Result (Option (ℕ × ℕ)) Refusal} → c.operation ≡ 5 → Popping ws l ws' l' r → Ran ws l c ws' l' (of_oldest r)
  touched : {ws' : List ℕ} {l' : FastLru} {r : Result Bool Refusal} → c.operation ≡ 6 → Touching ws l c.first ws' l' r → Ran ws l c ws' l' (of_told r)
  peeked : {r : Result (Option ℕ) Refusal} → c.operation ≡ 7 → Peeking ws l c.first r → Ran ws l c ws l (of_found r)
  contained : {r : Result Bool Refusal} → c.operation ≡ 8 → Containing ws l c.first r → Ran ws l c ws l (of_told r)
  peeked_oldest : {r : Result (Option (ℕ × ℕ)) Refusal} → c.operation ≡ 9 → PeekingOldest ws l r → Ran ws l c ws l (of_oldest r)
  ranked : {r : Result (Option ℕ) Refusal} → c.operation ≡ 10 → Ranking ws l c.first r → Ran ws l c ws l (of_rank r)
  counted : {r : Result ℕ Refusal} → c.operation ≡ 11 → Length ws l r → Ran ws l c ws l (of_count r)
  asked_empty : {r : Result Bool Refusal} → c.operation ≡ 12 → Emptiness ws l r → Ran ws l c ws l (of_told r)
  asked_capacity : {r : Result ℕ Refusal} → c.operation ≡ 13 → Capacity ws l r → Ran ws l c ws l (of_count r)
  checked : {r : Bool} → c.operation ≡ 14 → Checking ws l r → Ran ws l c ws l (of_bool r 0)
  other : 14 < c.operation → Ran ws l c ws l unknown

-- an operation that has no loop of its own
pub record Single (o : ℕ) : Type 0 where
  pub not_insert : o ≡ 2 → ⊥
  pub not_get : o ≡ 3 → ⊥
  pub not_touch : o ≡ 6 → ⊥
  pub not_peek : o ≡ 7 → ⊥

-- the calls from one on, of so many, up to the k-th: they make a run of the calls before them longer
pub record Onward (cs : List ℕ) (from count : ℕ) (ws : List ℕ) (l : FastLru) (out : List ℕ) (k : ℕ) (ws' : List ℕ) (l' : FastLru) (out' : List ℕ) : Type 0 where
  pub start : from ≤ k
  pub end : k ≤ count
  pub words : length ws' ≡ length ws
  pub answers : length out' ≡ length out
  pub on : {ws₀ : List ℕ} {l₀ : FastLru} {out₀ : List ℕ} → Run Ran cs ws₀ l₀ out₀ from ws l out → Run Ran cs ws₀ l₀ out₀ k ws' l' out'
