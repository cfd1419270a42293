use mathlib.Core.Path.{refl}
use Rattle.text.specs.Text.{fill}
use Rattle.session.specs.Answers.{head_of}
use Rattle.session.proofs.Printing.{head_is}
use Rattle.session.proofs.answer.shape_of.Goals as goal

pub returns-in-Nothing : goal.returns-in-Nothing
unfolding head_of fill
returns-in-Nothing c = head_is c.in-Nothing.is refl

pub returns-in-Value : goal.returns-in-Value
unfolding head_of fill
returns-in-Value c = head_is c.in-Value.is refl

pub returns-in-Yes : goal.returns-in-Yes
unfolding head_of fill
returns-in-Yes c = head_is c.in-Yes.is refl

pub returns-in-No : goal.returns-in-No
unfolding head_of fill
returns-in-No c = head_is c.in-No.is refl

pub returns-in-Missing : goal.returns-in-Missing
unfolding head_of fill
returns-in-Missing c = head_is c.in-Missing.is refl

pub returns-in-Immortal : goal.returns-in-Immortal
unfolding head_of fill
returns-in-Immortal c = head_is c.in-Immortal.is refl

pub returns-in-Expired : goal.returns-in-Expired
unfolding head_of fill
returns-in-Expired c = head_is c.in-Expired.is refl

pub returns-in-Live : goal.returns-in-Live
unfolding head_of fill
returns-in-Live c = head_is c.in-Live.is refl

pub returns-in-Count : goal.returns-in-Count
unfolding head_of fill
returns-in-Count c = head_is c.in-Count.is refl

pub returns-in-Due : goal.returns-in-Due
unfolding head_of fill
returns-in-Due c = head_is c.in-Due.is refl

pub returns-in-Item : goal.returns-in-Item
unfolding head_of fill
returns-in-Item c = head_is c.in-Item.is refl

pub returns-in-Rank : goal.returns-in-Rank
unfolding head_of fill
returns-in-Rank c = head_is c.in-Rank.is refl

pub returns-in-Done : goal.returns-in-Done
unfolding head_of fill
returns-in-Done c = head_is c.in-Done.is refl

pub returns-in-Refused : goal.returns-in-Refused
unfolding head_of fill
returns-in-Refused c = head_is c.in-Refused.is (rw c.number.ensures refl)
