-- What a store of an entry, and an exchange of two, do to the words and to the entries.
use mathlib.Core.Path.{◌≡◌, ap, ◌∙◌}
use mathlib.Core.Logic.{◌≢◌}
use mathlib.Core.List.{List}
use Prim.Native.Nat.{ℕ, ◌+◌, ◌*◌, ◌/◌}
use native.Mathlib.Omega.{arith}
use native.Mathlib.Decide.{ℕ_discrete}
use lib.ListN.{length, get_or, set, length-set}
use lib.Seq.{get_or-set_same, get_or-set_other}
use Rattle.binary_heap.specs.declared.entries.Entry.{Entry}
use Rattle.binary_heap.specs.Entries.{Holds, entry_at, put_at, swap_at}
use Rattle.binary_heap.proofs.Order.{entry_same}

-- an entry whose three words are as they were
pub entry_kept : (ws vs : List ℕ) (k : ℕ) → ((w : ℕ) → w / 3 ≡ k → get_or vs w 0 ≡ get_or ws w 0) → entry_at vs k ≡ entry_at ws k
unfolding entry_at
entry_kept ws vs k h = entry_same (h (3 * k) (omega arith)) (h (3 * k + 1) (omega arith)) (h (3 * k + 2) (omega arith))

module _ (ws : List ℕ) (i : ℕ) (e : Entry) where
  pub put_length : length (put_at ws i e) ≡ length ws
  unfolding put_at
  put_length = simp length-set

  pub put_other : (w : ℕ) → w / 3 ≢ i → get_or (put_at ws i e) w 0 ≡ get_or ws w 0
  unfolding put_at
  put_other w ne =
      get_or-set_other (set (set ws (3 * i) e.score) (3 * i + 1) e.seq) (3 * i + 2) w e.key 0 (omega arith)
      ∙ get_or-set_other (set ws (3 * i) e.score) (3 * i + 1) w e.seq 0 (omega arith)
      ∙ get_or-set_other ws (3 * i) w e.score 0 (omega arith)

  pub put_same : Holds (length ws) i → entry_at (put_at ws i e) i ≡ e
  unfolding put_at entry_at
  put_same h =
      entry_same
      (get_or-set_other (set (set ws (3 * i) e.score) (3 * i + 1) e.seq) (3 * i + 2) (3 * i) e.key 0 (omega arith)
      ∙ get_or-set_other (set ws (3 * i) e.score) (3 * i + 1) (3 * i) e.seq 0 (omega arith)
      ∙ get_or-set_same ws (3 * i) e.score 0 (omega arith))
      (get_or-set_other (set (set ws (3 * i) e.score) (3 * i + 1) e.seq) (3 * i + 2) (3 * i + 1) e.key 0 (omega arith)
      ∙ get_or-set_same (set ws (3 * i) e.score) (3 * i + 1) e.seq 0 (simp length-set (omega arith)))
      (get_or-set_same (set (set ws (3 * i) e.score) (3 * i + 1) e.seq) (3 * i + 2) e.key 0 (simp length-set (omega arith)))

  pub put_kept : (k : ℕ) → k ≢ i → entry_at (put_at ws i e) k ≡ entry_at ws k
  put_kept k ne = entry_kept ws (put_at ws i e) k (λ w q. put_other w (omega arith))

pub swap_length : (ws : List ℕ) (i j : ℕ) → length (swap_at ws i j) ≡ length ws
unfolding swap_at
swap_length ws i j = put_length (put_at ws i (entry_at ws j)) j (entry_at ws i) ∙ put_length ws i (entry_at ws j)

-- entries i and j are exchanged, and no word of another is changed
pub record Swapped (ws vs : List ℕ) (i j : ℕ) : Type 0 where
  pub size : length vs ≡ length ws
  pub at_i : entry_at vs i ≡ entry_at ws j
  pub at_j : entry_at vs j ≡ entry_at ws i
  pub others : (w : ℕ) → w / 3 ≢ i → w / 3 ≢ j → get_or vs w 0 ≡ get_or ws w 0

pub swapped_kept : {ws vs : List ℕ} {i j : ℕ} → Swapped ws vs i j → (k : ℕ) → k ≢ i → k ≢ j → entry_at vs k ≡ entry_at ws k
swapped_kept {ws} {vs} s k a b = entry_kept ws vs k (λ w e. s.others w (omega arith) (omega arith))

module _ (ws : List ℕ) (i j : ℕ) (hi : Holds (length ws) i) (hj : Holds (length ws) j) where
  -- after the first of the two stores
  abbrev half : List ℕ
  half = put_at ws i (entry_at ws j)

  swap_j : entry_at (swap_at ws i j) j ≡ entry_at ws i
  unfolding swap_at
  swap_j = put_same half j (entry_at ws i) (rw put_length hj)

  swap_i : entry_at (swap_at ws i j) i ≡ entry_at ws j
  unfolding swap_at
  swap_i = go (ℕ_discrete i j)
    where
      go : Dec (i ≡ j) → entry_at (swap_at ws i j) i ≡ entry_at ws j
      go (yes e) = ap (entry_at (swap_at ws i j)) e ∙ swap_j ∙ ap (entry_at ws) e
      go (no ne) = put_kept half j (entry_at ws i) i ne ∙ put_same ws i (entry_at ws j) hi

  pub swapped : Swapped ws (swap_at ws i j) i j
  unfolding swap_at
  swapped = record {
    size = swap_length ws i j;
    at_i = swap_i;
    at_j = swap_j;
    others = λ w a b. put_other half j (entry_at ws i) w b ∙ put_other ws i (entry_at ws j) w a;
  }
