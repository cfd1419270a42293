use mathlib.Core.Path.{sym}
use Rattle.linked_hash_map.proofs.Places.{put_full}
use Rattle.linked_hash_map.proofs.map.LinkedHashMap.put.Goals as goal

pub returns-in-Full : goal.returns-in-Full
returns-in-Full c = put_full _ (rw c.in-Full.is at (sym c.in_ok-slot.ensures))
