use borrow.Author.Rules.{rules}
use Rattle.fast_lru_model.specs.Model.{without}
use Rattle.expiring.proofs.expiring.changes.drop_value.Goals as goal

pub returns : goal.returns
returns c = c.on_list.ensures c.args.key (λ l. without c.args.key) (λ l w r l' w' p. search rules)
