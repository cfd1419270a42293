use mathlib.Core.Path.{sym, ◌∙◌}
use mathlib.Core.Bool.{true≢false}
use native.Mathlib.Omega.{arith}
use Rattle.linked_hash_map.proofs.Limits.{is_room}
use Rattle.linked_hash_map.proofs.Probed.{misfit}
use Rattle.linked_hash_map.proofs.Checking.{map_walks, map_walks_free, map_finds, checking, checking_no}
use Rattle.linked_hash_map.proofs.map.LinkedHashMap.check.Goals as goal
use Rattle.linked_hash_map.proofs.map.LinkedHashMap.check.Goals.{then-not-map-via-then-not-map, then-not-map-via-else-not-map+then-n-len, then-not-map-via-else-not-map+else-n-len+then-self-eq0, then-walks, else-walks, then-walks-2, else-walks-2}

pub returns-then-not-map : goal.returns-then-not-map
returns-then-not-map c =
    elim c.then-not-map.branch [
      | then-not-map-via-then-not-map w ↦ checking_no (misfit (sym c.map.ensures ∙ w.if-not-map.true))
      | then-not-map-via-else-not-map+then-n-len w ↦ checking_no (λ is. omega (arith, is.count, w.if-n-len.true))
      | then-not-map-via-else-not-map+else-n-len+then-self-eq0 w ↦ checking_no (λ is. omega (arith, is.opened, w.if-self-eq0.true))
    ]

pub walks-requires : goal.walks-requires
walks-requires c = (is_room _ _ (sym c.map.ensures ∙ c.if-not-map.false), omega arith)

pub overflow_add-n : goal.overflow_add-n
overflow_add-n c = let r = is_room _ _ (sym c.map.ensures ∙ c.if-not-map.false) in omega (arith, r.limit, r.words)

pub walks-requires-then-walks : goal.walks-requires-then-walks
walks-requires-then-walks c = (is_room _ _ (sym c.map.ensures ∙ c.if-not-map.false), omega arith)

pub finds_all-requires : goal.finds_all-requires
finds_all-requires c = is_room _ _ (sym c.map.ensures ∙ c.if-not-map.false)

pub held-requires : goal.held-requires
held-requires c = is_room _ _ (sym c.map.ensures ∙ c.if-not-map.false)

pub returns-then-finds_all : goal.returns-then-finds_all
returns-then-finds_all c =
    elim c.if-walks-2.branch [
      | then-walks-2 w ↦
          elim c.if-walks.branch [
            | then-walks v ↦
                checking _ _ (sym c.map.ensures ∙ c.if-not-map.false) c.if-n-len.false c.if-self-eq0.false
                (sym c.walks.ensures ∙ v.if-walks.true)
                (sym v.walks-then-walks.ensures ∙ sym v.value-is ∙ w.if-walks-2.true)
                (sym w.finds_all.ensures ∙ sym w.value-is ∙ c.if-finds_all.true)
                c.held.ensures
            | else-walks v ↦ absurd (true≢false (sym w.if-walks-2.true ∙ v.value-is ∙ v.if-walks.false))
          ]
      | else-walks-2 w ↦ absurd (true≢false (sym c.if-finds_all.true ∙ w.value-is ∙ w.if-walks-2.false))
    ]

pub returns-else-finds_all : goal.returns-else-finds_all
returns-else-finds_all c =
    rw c.if-finds_all.false
    (checking_no (λ is.
    elim c.if-walks-2.branch [
      | then-walks-2 w ↦ true≢false (sym (map_finds _ _ is) ∙ sym w.finds_all.ensures ∙ sym w.value-is ∙ c.if-finds_all.false)
      | else-walks-2 w ↦
          elim c.if-walks.branch [
            | then-walks v ↦ true≢false (sym (map_walks_free _ _ is) ∙ sym v.walks-then-walks.ensures ∙ sym v.value-is ∙ w.if-walks-2.false)
            | else-walks v ↦ true≢false (sym (map_walks _ _ is) ∙ sym c.walks.ensures ∙ v.if-walks.false)
          ]
    ]))
