use mathlib.Core.Path.{◌≡◌}
use Rattle.linked_hash_map.specs.declared.map.Record.{Record}
use Rattle.linked_hash_map.specs.Calls.{zeros}
use Rattle.linked_hash_map.proofs.Probed.{misfit}
use Rattle.linked_hash_map.proofs.Finding.{reading, reading_none}
use Rattle.linked_hash_map.proofs.map.LinkedHashMap.record.Goals as goal
use Rattle.linked_hash_map.proofs.map.LinkedHashMap.record.Goals.{then-slot-self+in_default, else-slot-self}

pub returns-in-Ok : goal.returns-in-Ok
returns-in-Ok c = rw c.read_record.ensures (reading _ _ _ c.in-Ok.ensures.0 c.if-slot-self.true)

pub returns : goal.returns
returns c =
    let a : c.default.result.key ≡ 0 = c.default.ensures.0 in
    let b : c.default.result.first ≡ 0 = c.default.ensures.1.0 in
    let d : c.default.result.second ≡ 0 = c.default.ensures.1.1 in
    let e : ◌≡◌ {A = Record} c.default.result zeros = λ i. record { key = a i; first = b i; second = d i } in
    rw e
    (elim c.if-slot-self.branch [
      | then-slot-self+in_default w ↦ reading_none _ _ _ (λ is. absurd (misfit w.in_default.ensures is))
      | else-slot-self w ↦ reading_none _ _ _ (λ is. w.if-slot-self.false)
    ])
