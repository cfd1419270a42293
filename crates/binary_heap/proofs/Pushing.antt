-- `push`: the new entry stands last, where only it may be before its parent, and rises.
use mathlib.Core.Path.{◌≡◌, refl, sym, ap, ◌∙◌}
use mathlib.Core.Bool.{true, false, true≢false}
use mathlib.Core.List.{List, ◌∷◌}
use Prim.Native.Nat.{ℕ, ◌+◌}
use native.Mathlib.Numerals.{add-one}
use native.Mathlib.Omega.{arith}
use lib.ListN.{length}
use Rattle.binary_heap.specs.declared.entries.Entry.{Entry}
use Rattle.binary_heap.specs.Order.{sort, is, count}
use Rattle.binary_heap.specs.Entries.{entries_of, put_at}
use Rattle.binary_heap.specs.Heap.{fit, Room, parent, Ordered, model_of}
use Rattle.binary_heap.specs.Sifts.{Rises}
use Rattle.binary_heap.specs.Calls.{Kept, Pushing}
use Rattle.binary_heap.proofs.Order.{le_at}
use Rattle.binary_heap.proofs.Sorting.{sort_same}
use Rattle.binary_heap.proofs.Words.{put_length, put_same, put_kept, put_other}
use Rattle.binary_heap.proofs.Places.{entries_same, count_last}
use Rattle.binary_heap.proofs.Limits.{is_room}
use Rattle.binary_heap.proofs.Rising.{OrderedBut, Risen, risen}

pub kept_same : (n : ℕ) (ws : List ℕ) → Kept n ws ws
kept_same n ws = record { size = refl; past = λ w h. refl }

pub pushing_refused : (ws : List ℕ) (n : ℕ) (e : Entry) → fit (n + 1) (length ws) ≡ false → Pushing ws n e ws n false
pushing_refused ws n e f = record {
  refused = λ _. (refl, refl, refl);
  done = λ t. absurd (true≢false (sym t ∙ f));
  heap = λ t. absurd (true≢false (sym t ∙ f));
  model = λ t. absurd (true≢false (sym t ∙ f));
  kept = kept_same (n + 1) ws;
}

module _ (ws ws' : List ℕ) (n : ℕ) (e : Entry) (fits : fit (n + 1) (length ws) ≡ true) (r : Rises (put_at ws n e) n ws') where
  room : Room (length ws) (n + 1)
  room = is_room (n + 1) (length ws) fits

  up : Risen (put_at ws n e) ws' n
  up = risen (omega (arith, room.words, put_length ws n e)) r

  all_but_last : Ordered ws n → OrderedBut (put_at ws n e) (n + 1) n
  unfolding Ordered
  all_but_last o = record {
    others = λ k a b d. le_at (put_kept ws n e (parent k) (omega arith)) (put_kept ws n e k d) (o k a (omega arith));
    below = λ k z a b q. absurd (omega arith);
  }

  one_more : (x : Entry) → count x (entries_of ws' (n + 1)) ≡ count x (e ∷ entries_of ws n)
  unfolding count
  one_more x =
      up.counts x (n + 1) (omega arith)
      ∙ rw (add-one n)
      (omega (
        arith,
        count_last x (put_at ws n e) n,
        ap (is x) (put_same ws n e (omega (arith, room.words))),
        ap (count x) (entries_same ws (put_at ws n e) n (λ k l. put_kept ws n e k (omega arith))),
      ))

  pushed : Pushing ws n e ws' (n + 1) true
  unfolding model_of sort
  pushed = record {
    refused = λ f. absurd (true≢false (sym fits ∙ f));
    done = λ _. (refl, refl);
    heap = λ _ h. record {
      room = record { limit = room.limit; words = omega (arith, room.words, up.size, put_length ws n e) };
      ordered = up.ordered (n + 1) (omega arith) (all_but_last h.ordered);
    };
    model = λ _. sort_same (entries_of ws' (n + 1)) (e ∷ entries_of ws n) one_more;
    kept = record { size = up.size ∙ put_length ws n e; past = λ w l. up.past w l ∙ put_other ws n e w (omega arith) };
  }

pub pushing_done : {ws us ws' : List ℕ} {n : ℕ} {e : Entry} → fit (n + 1) (length ws) ≡ true → us ≡ put_at ws n e
    → Rises us n ws' → Pushing ws n e ws' (n + 1) true
pushing_done {ws} {us} {ws'} {n} {e} f q r = pushed ws ws' n e f (rw q at r)
