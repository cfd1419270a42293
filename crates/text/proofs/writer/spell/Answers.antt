use mathlib.Core.Path.{sym, ◌∙◌}
use Rattle.text.proofs.Stores.{digit_first, no_digit, all_set}
use Rattle.text.proofs.writer.spell.Goals as goal

pub loop-i-preserved : goal.loop-i-preserved
loop-i-preserved c = sym (digit_first _ _ _ c.loop-i-test.true) ∙ c.loop-i.invariant

pub returns : goal.returns
returns c = sym (no_digit _ _ _ c.loop-i-test.false) ∙ c.loop-i.invariant ∙ all_set _ _
