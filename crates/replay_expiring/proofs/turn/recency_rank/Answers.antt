use mathlib.Core.Path.{refl}
use native.Mathlib.Omega.{arith}
use Rattle.replay_expiring.specs.Words.{asked_at, call_of}
use Rattle.replay_expiring.proofs.Turns.{looked}
use Rattle.replay_expiring.proofs.turn.recency_rank.Goals as goal

pub returns : goal.returns
unfolding call_of
returns c = looked {a = asked_at c.args.calls.now c.args.i} c.requires.3 refl c.book_in.ensures (omega arith) (rw c.asked_at-asked.ensures at c.recency_rank-reply.ensures) c.store_answer.ensures
