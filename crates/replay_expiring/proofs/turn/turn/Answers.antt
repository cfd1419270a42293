-- Each arm is the call of its operation. The last arm's is 16, since it is below 17 and none of the others.
use mathlib.Core.Path.{refl, sym, ◌∙◌}
use native.Mathlib.Omega.{arith}
use Rattle.replay_expiring.specs.Words.{asked_at, call_of}
use Rattle.replay_expiring.proofs.Turns.{changed, changing, looked}
use Rattle.replay_expiring.proofs.turn.turn.Goals as goal

pub returns-in-0 : goal.returns-in-0
unfolding call_of
returns-in-0 c = changing c.args.numbers.now c.insert-said.new.numbers {a = asked_at c.args.calls.now c.args.i} c.requires.0 (sym c.requires.3 ∙ c.in-0.is) refl (omega arith) (rw c.asked_at-asked.ensures at c.insert-said.ensures) c.store_said.ensures

pub returns-in-1 : goal.returns-in-1
unfolding call_of
returns-in-1 c = changing c.args.numbers.now c.insert_with_ttl-said.new.numbers {a = asked_at c.args.calls.now c.args.i} c.requires.0 (sym c.requires.3 ∙ c.in-1.is) refl (omega arith) (rw c.asked_at-asked-in-1.ensures at c.insert_with_ttl-said.ensures) c.store_said-in-1.ensures

pub returns-in-2 : goal.returns-in-2
unfolding call_of
returns-in-2 c = changing c.args.numbers.now c.get-said.new.numbers {a = asked_at c.args.calls.now c.args.i} c.requires.0 (sym c.requires.3 ∙ c.in-2.is) refl (omega arith) (rw c.asked_at-asked-in-2.ensures at c.get-said.ensures) c.store_said-in-2.ensures

pub returns-in-3 : goal.returns-in-3
unfolding call_of
returns-in-3 c = changing c.args.numbers.now c.remove-said.new.numbers {a = asked_at c.args.calls.now c.args.i} c.requires.0 (sym c.requires.3 ∙ c.in-3.is) refl (omega arith) (rw c.asked_at-asked-in-3.ensures at c.remove-said.ensures) c.store_said-in-3.ensures

pub returns-in-5 : goal.returns-in-5
unfolding call_of
returns-in-5 c = changing c.args.numbers.now c.set_ttl-said.new.numbers {a = asked_at c.args.calls.now c.args.i} c.requires.0 (sym c.requires.3 ∙ c.in-5.is) refl (omega arith) (rw c.asked_at-asked-in-5.ensures at c.set_ttl-said.ensures) c.store_said-in-5.ensures

pub returns-in-7 : goal.returns-in-7
unfolding call_of
returns-in-7 c = changed {a = asked_at c.args.calls.now c.args.i} (sym c.requires.3 ∙ c.in-7.is) refl c.book_in.ensures (omega arith) (rw c.asked_at-asked-in-7.ensures at c.next_deadline-reply.ensures) c.store_reply.ensures

pub returns-in-8 : goal.returns-in-8
unfolding call_of
returns-in-8 c = changed {a = asked_at c.args.calls.now c.args.i} (sym c.requires.3 ∙ c.in-8.is) refl c.book_in-in-8.ensures (omega arith) (rw c.asked_at-asked-in-8.ensures at c.touch-reply.ensures) c.store_reply-in-8.ensures

pub returns-in-9 : goal.returns-in-9
unfolding call_of
returns-in-9 c = changed {a = asked_at c.args.calls.now c.args.i} (sym c.requires.3 ∙ c.in-9.is) refl c.book_in-in-9.ensures (omega arith) (rw c.asked_at-asked-in-9.ensures at c.pop_lru-reply.ensures) c.store_reply-in-9.ensures

pub returns-in-10 : goal.returns-in-10
unfolding call_of
returns-in-10 c = looked {a = asked_at c.args.calls.now c.args.i} (sym c.requires.3 ∙ c.in-10.is) refl c.book_in-in-10.ensures (omega arith) (rw c.asked_at-asked-in-10.ensures at c.contains-reply.ensures) c.store_answer.ensures

pub returns-in-11 : goal.returns-in-11
unfolding call_of
returns-in-11 c = looked {a = asked_at c.args.calls.now c.args.i} (sym c.requires.3 ∙ c.in-11.is) refl c.book_in-in-11.ensures (omega arith) (rw c.asked_at-asked-in-11.ensures at c.peek-reply.ensures) c.store_answer-in-11.ensures

pub returns-in-12 : goal.returns-in-12
unfolding call_of
returns-in-12 c = looked {a = asked_at c.args.calls.now c.args.i} (sym c.requires.3 ∙ c.in-12.is) refl c.book_in-in-12.ensures (omega arith) (rw c.asked_at-asked-in-12.ensures at c.ttl_status-reply.ensures) c.store_answer-in-12.ensures

pub returns-in-14 : goal.returns-in-14
unfolding call_of
returns-in-14 c = looked {a = asked_at c.args.calls.now c.args.i} (sym c.requires.3 ∙ c.in-14.is) refl c.book_in-in-14.ensures (omega arith) (rw c.asked_at-asked-in-14.ensures at c.live_len-reply.ensures) c.store_answer-in-14.ensures

pub returns-in-15 : goal.returns-in-15
unfolding call_of
returns-in-15 c = looked {a = asked_at c.args.calls.now c.args.i} (sym c.requires.3 ∙ c.in-15.is) refl c.book_in-in-15.ensures (omega arith) (rw c.asked_at-asked-in-15.ensures at c.expirations-reply.ensures) c.store_answer-in-15.ensures

pub returns-in_default : goal.returns-in_default
unfolding call_of
returns-in_default c = looked {a = asked_at c.args.calls.now c.args.i} {o = 16} (omega (arith, c.requires.3, c.requires.4, c.in_default)) refl c.book_in-in_default.ensures (omega arith) (rw c.asked_at-asked-in_default.ensures at c.peek_lru-reply.ensures) c.store_answer-in_default.ensures
