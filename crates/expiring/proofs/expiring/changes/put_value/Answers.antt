use borrow.Author.Rules.{rules}
use Rattle.fast_lru_model.specs.Model.{inserted}
use Rattle.expiring.proofs.expiring.changes.put_value.Goals as goal

pub returns : goal.returns
returns c = c.on_list.ensures c.args.key (λ l. inserted l.map.capacity (record { key = c.args.key; value = c.args.value })) (λ l w r l' w' p. search rules)
