use Rattle.expiring.proofs.Moving.{lent_answers}
use Rattle.expiring.proofs.Popping.{popping_none, popping_some}
use Rattle.expiring.proofs.Valuing.{moved_values}
use Rattle.expiring.proofs.expiring.Expiring.pop_expired.Goals.{in-Some, in_default}
use Rattle.expiring.proofs.expiring.Expiring.pop_expired.Goals as goal

pub unwrap-popped-requires : goal.unwrap-popped-requires
unwrap-popped-requires c = lent_answers _ c.args.self.now c.requires _ c.pop_expired.ensures.call.outcome

pub returns : goal.returns
returns c = rw c.is_some.ensures (elim c.match-popped.branch [
  | in-Some w ↦ rw (w.self-is, w.words-is) (popping_some _ _ c.requires _ c.pop_expired.ensures c.unwrap-popped.ensures w.in-Some.is (moved_values w.remove.ensures))
  | in_default w ↦ rw (w.self-is, w.words-is) (popping_none _ _ c.requires _ c.pop_expired.ensures c.unwrap-popped.ensures w.in_default.is)
])
