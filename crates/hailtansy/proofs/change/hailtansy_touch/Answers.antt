use Rattle.std.proofs.Common.{rules}
use Rattle.hailtansy.proofs.change.hailtansy_touch.Goals as goal

pub returns : goal.returns
returns c = c.change_book.ensures _ _ (λ _ _ _ post. search rules)
