use mathlib.Core.Path.{refl}
use native.Mathlib.Omega.{arith}
use Rattle.replay_expiring.specs.Words.{asked_at, call_of}
use Rattle.replay_expiring.proofs.Turns.{changed}
use Rattle.replay_expiring.proofs.turn.clear.Goals as goal

pub returns : goal.returns
unfolding call_of
returns c = changed {a = asked_at c.args.calls.now c.args.i} c.requires.3 refl c.book_in.ensures (omega arith) (rw c.asked_at-asked.ensures at c.clear-reply.ensures) c.store_reply.ensures
