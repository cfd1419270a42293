use mathlib.Core.Path.{◌≡◌}
use Rattle.std.specs.Prelude.{Some, Ok}
use Rattle.linked_hash_map.proofs.Draining.{drain_first, drain_found}
use Rattle.linked_hash_map.proofs.map.LinkedHashMap.remove_first.Goals as goal

pub returns-in-Some : goal.returns-in-Some
returns-in-Some c =
    let e : c.first.result ≡ Ok (Some c.in-Some.slot) = drain_found _ c.in-Some.ensures in
    drain_first _ _ (rw e at c.first.ensures) c.record-front.ensures c.remove-gone.ensures
