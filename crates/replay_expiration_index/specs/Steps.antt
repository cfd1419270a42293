-- What one call does: what the index's call of that number promises, and its answer.
use Rattle.std.specs.Prelude.{◌≡◌, Bool, List, ℕ, ◌<◌, Option, Result}
use Rattle.time.specs.declared.refusal.Refusal.{Refusal}
use Rattle.time.specs.declared.tick.Tick.{Tick}
use Rattle.lazy_heap_model.specs.declared.counted.Counted.{Counted}
use Rattle.expiration_index.specs.declared.index.ExpirationIndex.{ExpirationIndex}
use Rattle.expiration_index.specs.Answers.{tick}
use Rattle.expiration_index.specs.Calls.{Opening, Clearing, Setting, Removing, NextDeadline, PoppingExpired, DeadlineOf, Containing, ExpiredCount, Length, Emptiness, HeapLength, Checking}
use Rattle.replay.specs.declared.answer.Answer.{Answer}
use Rattle.replay.specs.declared.call.Call.{Call}
use Rattle.replay.specs.Answers.{of_bool, unknown}
use Rattle.replay_lazy_heap.specs.Answers.{of_discarded}
use Rattle.replay_expiration_index.specs.Answers.{of_changed, of_looked, of_outcome, of_deadline, of_count, of_told}
use Rattle.replay_expiration_index.specs.Numbers as numbers

pub data Ran (ws : List ℕ) (x : ExpirationIndex) (c : Call) : List ℕ → ExpirationIndex → Answer → Type 0 where
  opened : {ws' : List ℕ} {r : Result ExpirationIndex Refusal} → c.operation ≡ 0 → Opening ws c.first c.second ws' r → Ran ws x c ws' (numbers.opened r) (of_outcome r)
  cleared : {ws' : List ℕ} {x' : ExpirationIndex} {r : Result ℕ Refusal} → c.operation ≡ 1 → Clearing ws x ws' x' r → Ran ws x c ws' x' (of_discarded r)
  set : {ws' : List ℕ} {x' : ExpirationIndex} {r : Result (Counted (Option Tick)) Refusal} → c.operation ≡ 2 → Setting ws x c.first (tick c.second) ws' x' r → Ran ws x c ws' x' (of_changed r)
  removed : {ws' : List ℕ} {x' : ExpirationIndex} {r : Result (Counted (Option Tick)) Refusal} → c.operation ≡ 3 → Removing ws x c.first ws' x' r → Ran ws x c ws' x' (of_changed r)
  looked : {ws' : List ℕ} {x' : ExpirationIndex} {r : Result (Counted (Option (ℕ × Tick))) Refusal} → c.operation ≡ 4 → NextDeadline ws x ws' x' r → Ran ws x c ws' x' (of_looked r)
  popped : {ws' : List ℕ} {x' : ExpirationIndex} {r : Result (Counted (Option (ℕ × Tick))) Refusal} → c.operation ≡ 5 → PoppingExpired ws x (tick c.first) ws' x' r → Ran ws x c ws' x' (of_looked r)
  told : {r : Result (Option Tick) Refusal} → c.operation ≡ 6 → DeadlineOf ws x c.first r → Ran ws x c ws x (of_deadline r)
  contained : {r : Result Bool Refusal} → c.operation ≡ 7 → Containing ws x c.first r → Ran ws x c ws x (of_told r)
  expired_counted : {r : Result ℕ Refusal} → c.operation ≡ 8 → ExpiredCount ws x (tick c.first) r → Ran ws x c ws x (of_count r)
  counted : {r : Result ℕ Refusal} → c.operation ≡ 9 → Length ws x r → Ran ws x c ws x (of_count r)
  asked_empty : {r : Result Bool Refusal} → c.operation ≡ 10 → Emptiness ws x r → Ran ws x c ws x (of_told r)
  entries_counted : {r : Result ℕ Refusal} → c.operation ≡ 11 → HeapLength ws x r → Ran ws x c ws x (of_count r)
  checked : {r : Bool} → c.operation ≡ 12 → Checking ws x r → Ran ws x c ws x (of_bool r 0)
  other : 12 < c.operation → Ran ws x c ws x unknown
