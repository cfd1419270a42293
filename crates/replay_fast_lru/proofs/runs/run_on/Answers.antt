use Rattle.std.proofs.Common.{rules, arith}
use Rattle.replay_fast_lru.proofs.Onward.{on_start, on_more}
use Rattle.replay_fast_lru.proofs.runs.run_on.Goals as goal

pub returns-in_default : goal.returns-in_default
returns-in_default c = (on_more (on_start (omega arith)) c.requires.2 (rw c.call_at-call.ensures at c.single-answer.ensures) (search rules) (search rules) c.store_answer.ensures, omega arith)
