use Rattle.linked_hash_map.proofs.Places.{inserting_unfit, inserting_beyond, inserting_at}
use Rattle.linked_hash_map.proofs.map.LinkedHashMap.insert_at.Goals as goal

pub returns-then-cell-self : goal.returns-then-cell-self
returns-then-cell-self c = inserting_at _ _ c.in-Ok.ensures.0 _ _ c.if-cell-self.true c.insert.ensures

pub returns-else-cell-self : goal.returns-else-cell-self
returns-else-cell-self c = inserting_beyond _ _ c.in-Ok.ensures.0 c.if-cell-self.false

pub returns-in_default : goal.returns-in_default
returns-in_default c = inserting_unfit _ _ c.in_default.ensures
