-- A call of one operation is that operation's turn.
use mathlib.Core.Path.{◌≡◌, sym, subst}
use mathlib.Core.List.{List}
use Prim.Native.Nat.{ℕ, ◌<◌, ◌≤◌}
use lib.ListN.{length}
use Rattle.expiring.specs.declared.answers.Reply.{Reply}
use Rattle.lazy_heap_model.specs.declared.counted.Counted.{Counted}
use Rattle.expiring_model.specs.declared.answers.Answer.{Answer}
use Rattle.expiring.specs.declared.expiring.Expiring.{Expiring}
use Rattle.expiring_model.specs.Model.{Call}
use Rattle.expiring.specs.Calls.{Following}
use Rattle.expiring.specs.Changes.{reply_in, Changing}
use Rattle.expiring.proofs.Storing.{stay_changed}
use Rattle.replay.specs.Runs.{with_answer}
use Rattle.expiring.specs.Numbers.{book_in, with_changed}
use Rattle.replay_expiring.specs.declared.call.Asked.{Asked}
use Rattle.replay_expiring.specs.Words.{call_of, of_answer}
use Rattle.replay_expiring.specs.Words as words
use Rattle.replay_expiring.specs.Runs as runs
use Rattle.replay_expiring.specs.Runs.{of_reply, Turn}

module _ {a : Asked} {o i : ℕ} {ns ws out out' : List ℕ} {b : Expiring} {c : Call} {r : Reply} (is : a.operation ≡ o) (call : call_of o a.key a.value a.ttl ≡ c) (book : b ≡ book_in ns) where
  pub changed : {ns' ws' : List ℕ} → o < words.changing → Following ws b a.tick c ws' r → (ns' ≡ with_changed ns r.book) × (out' ≡ with_answer out i (of_reply r)) → Turn a i ns ws out ns' ws' out'
  changed {ws' = ws'} h f told = rw (told.0, told.1) (runs.changed {ws' = ws'} {r = r} (rw is h) (rw is (rw call (rw book at f))))

  pub looked : words.changing ≤ o → Following ws b a.tick c ws r → out' ≡ with_answer out i (of_reply r) → Turn a i ns ws out ns ws out'
  looked h f told = rw told (runs.looked {r = r} (rw is h) (rw is (rw call (rw book at f))))

-- a call on the numbers themselves
pub changing : (ns ns' : List ℕ) {a : Asked} {o i : ℕ} {ws ws' out out' : List ℕ} {c : Call} {s : Counted Answer} → 12 ≤ length ns → a.operation ≡ o → call_of o a.key a.value a.ttl ≡ c → o < words.changing → Changing ns ws a.tick c ns' ws' s → out' ≡ with_answer out i (of_answer s.answer s.discarded) → Turn a i ns ws out ns' ws' out'
changing ns ns' {a} {i = i} {ws = ws} {ws'} {out} {out'} {s = s} n is call h f told = subst (λ ms. Turn a i ns ws out ms ws' out') (sym (stay_changed ns ns' n f.stay)) (rw told (runs.changed {ws' = ws'} {r = reply_in ns' s} (rw is h) (rw is (rw call (f.call n)))))
