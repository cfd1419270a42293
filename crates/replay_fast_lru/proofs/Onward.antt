-- Calls of one operation: each makes the run longer by one.
use mathlib.Core.Path.{◌≡◌, refl, ◌∙◌}
use mathlib.Core.List.{List}
use Prim.Native.Nat.{ℕ, ◌+◌, ◌<◌, ◌≤◌}
use native.Mathlib.Omega.{arith}
use lib.ListN.{length}
use Rattle.fast_lru.specs.declared.lru.FastLru.{FastLru}
use Rattle.replay.specs.declared.answer.Answer.{Answer}
use Rattle.replay.specs.Runs.{call_at, with_answer, more}
use Rattle.replay_fast_lru.specs.Steps.{Ran, Onward}

module _ {cs : List ℕ} {from count : ℕ} {ws : List ℕ} {l : FastLru} {out : List ℕ} where
  pub on_start : from ≤ count → Onward cs from count ws l out from ws l out
  on_start h = record { start = omega arith; end = h; words = refl; answers = refl; on = λ p. p }

  pub on_more : {i : ℕ} {ws₁ ws₂ out₁ out₂ : List ℕ} {l₁ l₂ : FastLru} {a : Answer} → Onward cs from count ws l out i ws₁ l₁ out₁ → i < count → Ran ws₁ l₁ (call_at cs i) ws₂ l₂ a → length ws₂ ≡ length ws₁ → length out₂ ≡ length out₁ → out₂ ≡ with_answer out₁ i a → Onward cs from count ws l out (i + 1) ws₂ l₂ out₂
  on_more o h r w x e = record { start = omega (arith, o.start); end = omega arith; words = w ∙ o.words; answers = x ∙ o.answers; on = λ p. rw e (more (o.on p) r) }
