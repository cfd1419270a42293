use borrow.Author.Rules.{rules}
use Rattle.expiring.proofs.expiring.Expiring.insert.Goals as goal

pub returns : goal.returns
returns c = c.on_numbers.ensures _ _ (λ a b r a' b' p. search rules)
