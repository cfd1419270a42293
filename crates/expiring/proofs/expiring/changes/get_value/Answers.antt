use borrow.Author.Rules.{rules}
use Rattle.fast_lru_model.specs.Model.{to_front}
use Rattle.expiring.proofs.expiring.changes.get_value.Goals as goal

pub returns : goal.returns
returns c = c.on_list.ensures c.args.key (λ l. to_front c.args.key) (λ l w r l' w' p. search rules)
