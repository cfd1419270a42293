-- On a map the walks stand at the items of ranks `rank` and `len - 1 - rank`, and no item outside them has the key.
use mathlib.Core.Path.{ap, ◌∙◌}
use native.Mathlib.Omega.{arith}
use Rattle.fast_lru.proofs.Slots.{slot_in}
use Rattle.fast_lru.proofs.Ranks.{walks_begin, walks_met, rank_found, front_end, back_end, walks_on}
use Rattle.fast_lru.proofs.lru.FastLru.rank_between.Goals as goal

pub loop-rank-init : goal.loop-rank-init
loop-rank-init c = λ is k x e f. walks_begin _ _ _ _ _ _ (omega arith) e f

pub returns-then-front-slot : goal.returns-then-front-slot
returns-then-front-slot c = record { answer = λ is k x e f. rank_found _ _ _ is _ x _ _ (c.loop-rank.invariant is k x e f).front c.if-front-slot.true }

pub returns-then-back-slot : goal.returns-then-back-slot
returns-then-back-slot c = record { answer = λ is k x e f. rank_found _ _ _ is _ x _ _ ((c.loop-rank.invariant is k x e f).back _ (omega arith)) c.if-back-slot.true }

pub returns-in_default : goal.returns-in_default
returns-in_default c = record { answer = λ is k x e f. front_end _ _ _ is _ x _ _ _ _ (c.loop-rank.invariant is k x e f) (omega arith) c.if-front-slot.false c.if-back-slot.false _ c.next.ensures (ap slot_in c.in_default.is ∙ cc) }

pub returns-in_default-2 : goal.returns-in_default-2
returns-in_default-2 c = record { answer = λ is k x e f. front_end _ _ _ is _ x _ _ _ _ (c.loop-rank.invariant is k x e f) (omega arith) c.if-front-slot.false c.if-back-slot.false _ c.next.ensures (ap slot_in c.in_default.is) }

pub returns-in_default-previous : goal.returns-in_default-previous
returns-in_default-previous c = record { answer = λ is k x e f. back_end _ _ _ is _ x _ _ _ _ (c.loop-rank.invariant is k x e f) (omega arith) c.if-front-slot.false c.if-back-slot.false _ c.next.ensures _ c.previous.ensures (ap slot_in c.in_default-previous.is ∙ cc) }

pub returns-in_default-previous-2 : goal.returns-in_default-previous-2
returns-in_default-previous-2 c = record { answer = λ is k x e f. back_end _ _ _ is _ x _ _ _ _ (c.loop-rank.invariant is k x e f) (omega arith) c.if-front-slot.false c.if-back-slot.false _ c.next.ensures _ c.previous.ensures (ap slot_in c.in_default-previous.is) }

pub loop-rank-preserved : goal.loop-rank-preserved
loop-rank-preserved c = λ is k x e f. walks_on _ _ _ is _ x _ _ _ _ (c.loop-rank.invariant is k x e f) (omega arith) c.if-front-slot.false c.if-back-slot.false _ c.next.ensures _ c.previous.ensures _ _ _ (omega arith) (ap slot_in c.in-Ok-Some.is ∙ c.in-Ok-Some.field-0-is) (ap slot_in c.in-Ok-Some-previous.is ∙ c.in-Ok-Some-previous.field-0-is)

pub returns : goal.returns
returns c = record { answer = λ is k x e f. walks_met _ _ _ _ _ _ _ (c.loop-rank.invariant is k x e f) (omega arith) }
