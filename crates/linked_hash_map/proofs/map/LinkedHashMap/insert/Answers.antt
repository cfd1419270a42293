-- The node n + 1 leads to a free record, or to none; what is done with one is `put_in` by its calls.
use mathlib.Core.Path.{◌≡◌, refl, ap, ◌∙◌}
use mathlib.Core.List.{List}
use Prim.Native.Nat.{ℕ, ◌+◌, ◌*◌, min}
use native.Mathlib.Omega.{arith}
use lib.ListN.{get_or}
use Rattle.rings.specs.Ring.{next}
use Rattle.linked_hash_map.specs.Numbers.{len_after, longer_map, Grown}
use Rattle.linked_hash_map.proofs.Putting.{put_in_lem}
use Rattle.linked_hash_map.proofs.Steps.{counted}
use Rattle.linked_hash_map.proofs.map.LinkedHashMap.insert.Goals as goal

free_link : (ws : List ℕ) (n : ℕ) → next ws (n + 1) ≡ get_or ws (5 * n + 9) 0
free_link ws n = ap (λ (j : ℕ). get_or ws j 0) (omega arith)

pub returns-then-n-x : goal.returns-then-n-x
unfolding longer_map
returns-then-n-x c =
    let a = c.args in
    let e = free_link a.words.now a.self.now.capacity in
    let k = counted a.self.now c.requires.0.limit (c.min-self.ensures ∙ ap (λ (x : ℕ). min x a.self.now.capacity) c.saturating_add.ensures) in
    record { none = λ h. (rw k refl, refl); grown = λ h. absurd (omega arith) }

pub returns : goal.returns
returns c =
    let a = c.args in
    let e = free_link a.words.now a.self.now.capacity in
    let k = counted a.self.now c.requires.0.limit (c.min-self.ensures ∙ ap (λ (x : ℕ). min x a.self.now.capacity) c.saturating_add.ensures) in
    let w = put_in_lem _ _ _ _ _ c.write_record.ensures c.set_cell.ensures c.move_after.ensures in
    let g : Grown c.move_after.new.words a.self.now (len_after a.self.now) c.count_insertion.new.words c.count_insertion.new.self =
    (let h = c.count_insertion.ensures in record { capacity = h.capacity; count = h.count ∙ k; opened = h.opened; words = rw k at h.words }) in
    record { none = λ h. absurd (omega (arith, c.if-n-x.false)); grown = λ h. rw e (rw w at g) }
