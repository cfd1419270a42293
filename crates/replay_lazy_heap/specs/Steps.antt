-- What one call does: what the heap's call of that number promises, and its answer.
use Rattle.std.specs.Prelude.{◌≡◌, Bool, List, ℕ, ◌<◌, Option, Result, ⊤}
use Rattle.time.specs.declared.refusal.Refusal.{Refusal}
use Rattle.lazy_heap.specs.declared.heap.LazyMinHeap.{LazyMinHeap}
use Rattle.lazy_heap_model.specs.declared.counted.Counted.{Counted}
use Rattle.lazy_heap_model.specs.Model.{factor_of, len, heap_len, at_most}
use Rattle.lazy_heap.specs.Calls.{Opening, Resetting, Updating, Removing, PoppingBest, PeekingBest, RebuildingNow, RebuildingMaybe, RenumberingNow, Clearing, Asking, Checking, is_empty, score_of}
use Rattle.replay.specs.declared.answer.Answer.{Answer}
use Rattle.replay.specs.declared.call.Call.{Call}
use Rattle.replay.specs.Answers.{of_bool, unknown}
use Rattle.replay_lazy_heap.specs.Answers.{of_changed, of_best, of_discarded, of_outcome, of_score, of_number, of_flag}
use Rattle.replay_lazy_heap.specs.Numbers as numbers

pub data Ran (ws : List ℕ) (h : LazyMinHeap) (c : Call) : List ℕ → LazyMinHeap → Answer → Type 0 where
  opened : {ws' : List ℕ} {r : Result LazyMinHeap Refusal} → c.operation ≡ 0 → Opening ws c.first c.second c.third ws' r → Ran ws h c ws' (numbers.opened r) (of_outcome r)
  reset : {h' : LazyMinHeap} {r : Result ⊤ Refusal} → c.operation ≡ 1 → Resetting ws h c.first h' r → Ran ws h c ws h' (of_outcome r)
  updated : {ws' : List ℕ} {h' : LazyMinHeap} {r : Result (Counted (Option ℕ)) Refusal} → c.operation ≡ 2 → Updating ws h c.first c.second ws' h' r → Ran ws h c ws' h' (of_changed r)
  removed : {ws' : List ℕ} {h' : LazyMinHeap} {r : Result (Counted (Option ℕ)) Refusal} → c.operation ≡ 3 → Removing ws h c.first ws' h' r → Ran ws h c ws' h' (of_changed r)
  popped : {ws' : List ℕ} {h' : LazyMinHeap} {r : Result (Counted (Option (ℕ × ℕ))) Refusal} → c.operation ≡ 4 → PoppingBest ws h ws' h' r → Ran ws h c ws' h' (of_best r)
  peeked : {ws' : List ℕ} {h' : LazyMinHeap} {r : Result (Counted (Option (ℕ × ℕ))) Refusal} → c.operation ≡ 5 → PeekingBest ws h ws' h' r → Ran ws h c ws' h' (of_best r)
  rebuilt : {ws' : List ℕ} {h' : LazyMinHeap} {r : Result ℕ Refusal} → c.operation ≡ 6 → RebuildingNow ws h ws' h' r → Ran ws h c ws' h' (of_discarded r)
  maybe_rebuilt : {ws' : List ℕ} {h' : LazyMinHeap} {r : Result ℕ Refusal} → c.operation ≡ 7 → RebuildingMaybe ws h c.first ws' h' r → Ran ws h c ws' h' (of_discarded r)
  renumbered : {ws' : List ℕ} {h' : LazyMinHeap} {r : Result ℕ Refusal} → c.operation ≡ 8 → RenumberingNow ws h ws' h' r → Ran ws h c ws' h' (of_discarded r)
  cleared : {ws' : List ℕ} {h' : LazyMinHeap} {r : Result ℕ Refusal} → c.operation ≡ 9 → Clearing ws h ws' h' r → Ran ws h c ws' h' (of_discarded r)
  factored : {r : Result ℕ Refusal} → c.operation ≡ 10 → Asking ws h factor_of r → Ran ws h c ws h (of_number r)
  scored : {r : Result (Option ℕ) Refusal} → c.operation ≡ 11 → Asking ws h (score_of c.first) r → Ran ws h c ws h (of_score r)
  counted : {r : Result ℕ Refusal} → c.operation ≡ 12 → Asking ws h len r → Ran ws h c ws h (of_number r)
  asked_empty : {r : Result Bool Refusal} → c.operation ≡ 13 → Asking ws h is_empty r → Ran ws h c ws h (of_flag r)
  entries_counted : {r : Result ℕ Refusal} → c.operation ≡ 14 → Asking ws h heap_len r → Ran ws h c ws h (of_number r)
  checked : {r : Bool} → c.operation ≡ 15 → Checking ws h r → Ran ws h c ws h (of_bool r 0)
  counted_at_most : {r : Result ℕ Refusal} → c.operation ≡ 16 → Asking ws h (at_most c.first) r → Ran ws h c ws h (of_number r)
  other : 16 < c.operation → Ran ws h c ws h unknown
