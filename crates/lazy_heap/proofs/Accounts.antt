-- What is discarded and what is left is what there was, and what was pushed.
use mathlib.Core.Path.{◌≡◌, refl, ◌∙◌}
use mathlib.Core.Bool.{Bool, true, false, cond}
use mathlib.Core.List.{List, [], ◌∷◌}
use Prim.Native.Nat.{ℕ, ◌+◌, ◌-◌, ◌^◌, ◌<◌, ◌≤◌}
use native.Mathlib.Omega.{arith}
use lib.Dec.{eqb}
use lib.ListN.{length}
use Rattle.binary_heap.specs.declared.entries.Entry.{Entry}
use Rattle.lazy_heap_model.specs.Model.{Heap, from_live, surplus, too_many, rebuilt, numbered, renumbered, maybe_rebuilt, is_full, before_push, pushed, updated, update_discards, peeked, popped, popped_from, stale}
use Rattle.lazy_heap.specs.Valid.{Valid}
use Rattle.lazy_heap.proofs.Valid.{live_length, numbered_length, from_length, valid_pushed}
use Rattle.lazy_heap.proofs.Own.{live_fit}
use Rattle.lazy_heap.proofs.Calling.{Fair}
use Rattle.lazy_heap.proofs.Updating.{ready, room_without, push_length}

pub rebuilt_accounts : (m : Heap) → Valid m → surplus m + length (rebuilt m).entries ≡ length m.entries
unfolding rebuilt
rebuilt_accounts m v = omega (arith, live_fit m v, live_length m.held)

pub renumbered_accounts : (m : Heap) → Valid m → surplus m + length (renumbered m).entries ≡ length m.entries
unfolding renumbered
renumbered_accounts m v = omega (arith, live_fit m v, live_length (numbered m.held), numbered_length m.held)

-- `maybe_rebuild`
pub maybe_rebuilt_accounts : (f : ℕ) (m : Heap) → Valid m → cond (too_many f m) (surplus m) 0 + length (maybe_rebuilt f m).entries ≡ length m.entries
unfolding maybe_rebuilt
maybe_rebuilt_accounts f m v = go (too_many f m)
  where
    go : (b : Bool) → cond b (surplus m) 0 + length (cond b (rebuilt m) m).entries ≡ length m.entries
    go true = rebuilt_accounts m v
    go false = omega arith

-- `clear`: the entries of held keys go with their keys
pub cleared_accounts : (m : Heap) → Valid m → surplus m + length m.held ≡ length m.entries
cleared_accounts m v = omega (arith, live_fit m v)

pub peeked_accounts : (m : Heap) → stale m + length (peeked m).entries ≡ length m.entries
unfolding peeked
peeked_accounts m = from_length m.held m.entries

-- `pop_best`: one less is left than after `peek_best`, and it was live
pub popped_accounts : (m : Heap) → length (popped m).entries ≡ length (peeked m).entries - 1
unfolding popped peeked
popped_accounts m = go (from_live m.held m.entries) refl
  where
    go : (es : List Entry) → from_live m.held m.entries ≡ es → length (popped_from es m).entries ≡ length (from_live m.held m.entries) - 1
    go [] q = rw q refl
    go (e ∷ es) q = rw q (omega arith)

before_accounts : (m : Heap) → Valid m → cond (eqb m.next (2 ^ 64 - 1)) (surplus m) 0 + length (before_push m).entries ≡ length m.entries
unfolding before_push
before_accounts m v = go (eqb m.next (2 ^ 64 - 1))
  where
    go : (b : Bool) → cond b (surplus m) 0 + length (cond b (renumbered m) m).entries ≡ length m.entries
    go true = renumbered_accounts m v
    go false = omega arith

-- `update` pushes one
pub updated_accounts : (k s : ℕ) (m : Heap) → Fair m → m.limit ≤ 4096 → m.next < 2 ^ 64 → is_full k m ≡ false → update_discards k s m + length (updated k s m).entries ≡ length m.entries + 1
unfolding updated update_discards
updated_accounts k s m f l w new =
    let r = ready k m f l w in
    let v = valid_pushed k s (before_push m) r.fair.valid (room_without k (before_push m) r.fair.valid.few (r.full ∙ new)) in
    omega (arith, before_accounts m f.valid, push_length k s (before_push m), maybe_rebuilt_accounts m.factor (pushed k s (before_push m)) v)
