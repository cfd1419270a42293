-- A turn is a step of `probe_from`, whose fuel is the cells left.
use mathlib.Core.Path.{◌≡◌, refl, sym, ◌∙◌}
use Prim.Native.Nat.{◌+◌, ◌-◌, ◌*◌}
use native.Mathlib.Omega.{arith}
use Rattle.cells.proofs.Probing.{home_lt, after_lt, from_home, on_mine, turn_miss}
use Rattle.linked_hash_map.proofs.Passing.{offers, passes, is_cell, ends}
use Rattle.linked_hash_map.proofs.index.probe.Goals as goal
use Rattle.linked_hash_map.proofs.index.probe.Goals.{then-v-n+else-words-s, else-v-n}

pub loop-init : goal.loop-init
loop-init c = let all : 12 * c.args.n + 192 - 0 ≡ 12 * c.args.n + 192 = omega arith in (rw c.home-p.ensures (home_lt _ _), tt, rw all (from_home _ _ _ _ c.home-p.ensures))

pub returns-then-v-eq0 : goal.returns-then-v-eq0
returns-then-v-eq0 c = rw c.unwrap_or.ensures (offers _ _ _ _ _ _ c.loop.invariant.1 (omega arith) (sym c.cell-v.ensures ∙ c.if-v-eq0.true) ∙ c.loop.invariant.2)

pub returns-then-words-s : goal.returns-then-words-s
returns-then-words-s c =
    let v = c.cell-v.ensures in
    rw v (sym (on_mine _ _ _ _ _ _ (omega arith) (rw v at c.if-v-eq0.false) (rw v at c.if-v-n.true) (rw v at c.if-words-s.true)) ∙ c.loop.invariant.2)

pub loop-preserved : goal.loop-preserved
loop-preserved c =
    let next = c.after-p.ensures in
    let v = c.cell-v.ensures in
    let used = rw v at c.if-v-eq0.false in
    let left : 12 * c.args.n + 192 - (c.loop.counter + 1) ≡ 12 * c.args.n + 192 - c.loop.counter - 1 = omega arith in
    let (within, low, so_far) = c.loop.invariant in
    elim c.if-v-n.branch [
      | then-v-n+else-words-s w ↦ rw w.free-is (rw next (after_lt _ _ within), low, rw left (turn_miss _ _ _ _ _ _ (omega arith) _ _ _ next so_far refl used (rw v at w.if-v-n.true) (rw v at w.if-words-s.false)))
      | else-v-n w ↦ rw (w.free-is, w.or-free.ensures) (rw next (after_lt _ _ within), is_cell _ _ _ low within, rw left (passes _ _ _ _ _ _ low (omega arith) _ _ next so_far used (rw v at w.if-v-n.false)))
    ]

pub returns : goal.returns
returns c = ends _ _ _ _ _ _ c.loop.invariant.1 (omega arith) _ c.map_or.ensures ∙ c.loop.invariant.2
