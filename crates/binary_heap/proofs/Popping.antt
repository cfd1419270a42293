-- `pop`: the last entry takes the root's place, where only it may be after its children, and sinks. What is left is the
-- entries without the root, so that the root in front of them, sorted, is all of them, sorted.
use mathlib.Core.Path.{◌≡◌, refl, sym, ap, ◌∙◌}
use mathlib.Core.Bool.{true, true≢false}
use mathlib.Core.List.{List, ◌∷◌}
use Prim.Native.Nat.{ℕ, zero, suc, ◌+◌, ◌-◌}
use native.Mathlib.Omega.{arith}
use native.Mathlib.Decide.{ℕ_discrete}
use lib.ListN.{length}
use Rattle.std.specs.Prelude.{None, Some}
use Rattle.binary_heap.specs.declared.entries.Entry.{Entry}
use Rattle.binary_heap.specs.Order.{sort, is, count}
use Rattle.binary_heap.specs.Entries.{entry_at, entries_of, put_at}
use Rattle.binary_heap.specs.Heap.{fit, Room, parent, Ordered, IsHeap, model_of, rest}
use Rattle.binary_heap.specs.Sifts.{Sinks}
use Rattle.binary_heap.specs.Calls.{Peeking, Popping}
use Rattle.binary_heap.proofs.Order.{le_at}
use Rattle.binary_heap.proofs.Counts.{mem_count, count_mem}
use Rattle.binary_heap.proofs.Sorting.{sort_same, sort_mem, insert_least}
use Rattle.binary_heap.proofs.Words.{put_length, put_same, put_kept, put_other}
use Rattle.binary_heap.proofs.Places.{count_last, count_put}
use Rattle.binary_heap.proofs.Limits.{is_room, room_fits}
use Rattle.binary_heap.proofs.Sinking.{OrderedAbove, Sunk, sunk}
use Rattle.binary_heap.proofs.Root.{Rooted, root_least}
use Rattle.binary_heap.proofs.Pushing.{kept_same}

-- none was told: the limits are not met, or there is none
pub popping_none : {ws : List ℕ} {n : ℕ} → Peeking ws n None → Popping ws n ws n None
unfolding model_of entries_of sort
popping_none {ws} {n} p = record {
  refused = λ _. (refl, refl, refl);
  shorter = λ t. go t n refl;
  answer = λ h. p.answer h;
  heap = λ h. h;
  model = λ h. go2 h n refl;
  kept = kept_same n ws;
}
  where
    go : fit n (length ws) ≡ true → (m : ℕ) → n ≡ m → n ≡ n - 1
    go t zero q = omega arith
    go t (suc m) q = cc (p.root t (omega arith))

    go2 : IsHeap ws n → (m : ℕ) → n ≡ m → model_of ws n ≡ rest (model_of ws n)
    go2 h zero q = rw q
    go2 h (suc m) q = cc (p.root (room_fits h.room) (omega arith))

-- m is the number of entries that are left
module _ (ws ws' : List ℕ) (m : ℕ) (fits : fit (suc m) (length ws) ≡ true) (s : Sinks (put_at ws 0 (entry_at ws m)) m 0 ws') where
  room : Room (length ws) (suc m)
  room = is_room (suc m) (length ws) fits

  abbrev us : List ℕ
  us = put_at ws 0 (entry_at ws m)

  us_length : length us ≡ length ws
  us_length = put_length ws 0 (entry_at ws m)

  down : Sunk us ws' m 0
  down = sunk (omega (arith, room.words, us_length)) s

  all_but_root : Ordered ws (suc m) → OrderedAbove us m 0
  unfolding Ordered
  all_but_root o = record {
    others = λ k a b d. le_at (put_kept ws 0 (entry_at ws m) (parent k) d) (put_kept ws 0 (entry_at ws m) k (omega arith)) (o k a (omega arith));
    below = λ k z a b q. absurd (omega arith);
  }

  one_less : (x : Entry) → count x (entries_of ws (suc m)) ≡ count x (entry_at ws 0 ∷ entries_of ws' m)
  unfolding count entries_of
  one_less x = go (ℕ_discrete m 0)
    where
      go : Dec (m ≡ 0) → count x (entries_of ws (suc m)) ≡ is x (entry_at ws 0) + count x (entries_of ws' m)
      go (yes q) =
          omega (arith, count_last x ws m, ap (λ (k : ℕ). count x (entries_of ws k)) q, ap (λ (k : ℕ). count x (entries_of ws' k)) q, ap (λ (k : ℕ). is x (entry_at ws k)) q)
      go (no d) =
          omega (
            arith,
            count_last x ws m,
            down.counts x,
            count_put x ws us 0 m (omega arith) (λ k l ne. put_kept ws 0 (entry_at ws m) k ne),
            ap (is x) (put_same ws 0 (entry_at ws m) (omega (arith, room.words))),
          )

  whole : Ordered ws (suc m) → model_of ws (suc m) ≡ entry_at ws 0 ∷ model_of ws' m
  unfolding model_of sort count
  whole o =
      sort_same (entries_of ws (suc m)) (entry_at ws 0 ∷ entries_of ws' m) one_less
      ∙ insert_least (entry_at ws 0) (sort (entries_of ws' m))
      (λ e i. (root_least ws (suc m) o (omega arith)).greatest e (count_mem e (entries_of ws (suc m)) (omega (arith, one_less e, mem_count e (entries_of ws' m) (sort_mem e (entries_of ws' m) i)))))

  popped : Popping ws (suc m) ws' m (Some (entry_at ws 0))
  popped = record {
    refused = λ f. absurd (true≢false (sym fits ∙ f));
    shorter = λ _. omega arith;
    answer = λ h. rw (whole h.ordered);
    heap = λ h. record {
      room = record { limit = omega (arith, room.limit); words = omega (arith, room.words, us_length, down.size) };
      ordered = down.ordered (all_but_root h.ordered);
    };
    model = λ h. rw (whole h.ordered);
    kept = record {
      size = down.size ∙ us_length;
      past = λ w l. down.past w (omega arith) ∙ put_other ws 0 (entry_at ws m) w (omega arith);
    };
  }

pub popping_root : (n : ℕ) {ws us ws' : List ℕ} {r e : Entry} → Rooted ws n r → e ≡ entry_at ws (n - 1) → us ≡ put_at ws 0 e
    → Sinks us (n - 1) 0 ws' → Popping ws n ws' (n - 1) (Some r)
popping_root zero p q u s = let l = p.some in absurd (omega arith)
popping_root (suc m) {ws} {us} {ws'} p q u s =
    let d : suc m - 1 ≡ m = omega arith in rw (p.is, d) (popped ws ws' m p.fits (rw (u, q, d) at s))
