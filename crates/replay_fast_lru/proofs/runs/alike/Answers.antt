use Rattle.std.proofs.Common.{◌≡◌, rules, arith}
use Rattle.replay_fast_lru.proofs.Onward.{on_more}
use Rattle.replay_fast_lru.proofs.runs.alike.Goals as goal

pub loop-i-preserved : goal.loop-i-preserved
loop-i-preserved g c = (c.loop-i.invariant.0, on_more c.loop-i.invariant.1 c.loop-i-test.true (rw c.call_at-call.ensures at c.make-answer.ensures) (search rules) (search rules) c.store_answer.ensures)

pub returns-after-loop-i : goal.returns-after-loop-i
returns-after-loop-i g c =
    let e : c.loop-i.i ≡ c.loop-i.next = omega arith in
    (rw e at c.loop-i.invariant.1, λ _. omega arith)
