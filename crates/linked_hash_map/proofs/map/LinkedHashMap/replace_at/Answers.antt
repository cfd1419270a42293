use Rattle.linked_hash_map.proofs.Places.{replacing_unfit, replacing_past, replacing_at}
use Rattle.linked_hash_map.proofs.map.LinkedHashMap.replace_at.Goals as goal

pub returns-in-Ok : goal.returns-in-Ok
returns-in-Ok c = rw (c.replace.ensures.record, c.replace.ensures.words) (replacing_at _ _ c.in-Ok.ensures.0 _ _ c.if-slot-self.true)

pub returns-in_default : goal.returns-in_default
returns-in_default c = replacing_unfit _ _ c.in_default.ensures

pub returns-else-slot-self : goal.returns-else-slot-self
returns-else-slot-self c = replacing_past _ _ c.if-slot-self.false
