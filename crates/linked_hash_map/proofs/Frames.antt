-- Which words a change leaves alone: links, records and cells lie apart, so that a change of one kind shows in no other.
use mathlib.Core.Path.{◌≡◌, ◌∙◌}
use mathlib.Core.Logic.{◌≢◌}
use mathlib.Core.List.{List}
use Prim.Native.Nat.{ℕ, ◌+◌, ◌*◌, ◌%◌, ◌<◌, ◌≤◌}
use native.Mathlib.Omega.{arith}
use lib.ListN.{length, get_or, set, length-set}
use lib.Seq.{get_or-set_same, get_or-set_other}
use Rattle.rings.specs.Ring.{prev, next, moved}
use Rattle.rings.proofs.Links.{get_d_moved}
use Rattle.linked_hash_map.specs.declared.map.Record.{Record}
use Rattle.linked_hash_map.specs.Words.{record_at, written}

abbrev of : ℕ → ℕ → ℕ → Record
of k a b = record { key = k; first = a; second = b }

same_record : {k k' a a' b b' : ℕ} → k ≡ k' → a ≡ a' → b ≡ b' → of k a b ≡ of k' a' b'
same_record p q r = cc

-- the same three words are the same record
pub record_of_words : (ws ws' : List ℕ) (y : ℕ) → get_or ws' (5 * y) 0 ≡ get_or ws (5 * y) 0 → get_or ws' (5 * y + 1) 0 ≡ get_or ws (5 * y + 1) 0 → get_or ws' (5 * y + 2) 0 ≡ get_or ws (5 * y + 2) 0 → record_at ws' y ≡ record_at ws y
record_of_words ws ws' y a b c = same_record a b c

pub record_moved : (N : ℕ) (ws : List ℕ) (s x y : ℕ) → record_at (moved N ws s x) y ≡ record_at ws y
record_moved N ws s x y =
    let a₃ : (5 * y) % 5 ≢ 3 = omega arith in
    let a₄ : (5 * y) % 5 ≢ 4 = omega arith in
    let b₃ : (5 * y + 1) % 5 ≢ 3 = omega arith in
    let b₄ : (5 * y + 1) % 5 ≢ 4 = omega arith in
    let c₃ : (5 * y + 2) % 5 ≢ 3 = omega arith in
    let c₄ : (5 * y + 2) % 5 ≢ 4 = omega arith in
    record_of_words ws (moved N ws s x) y
    (get_d_moved N ws s x (5 * y) a₃ a₄)
    (get_d_moved N ws s x (5 * y + 1) b₃ b₄)
    (get_d_moved N ws s x (5 * y + 2) c₃ c₄)

-- words that agree up to the cells have the same records
pub record_below : (n : ℕ) (ws ws' : List ℕ) → ((j : ℕ) → j < 5 * n + 10 → get_or ws' j 0 ≡ get_or ws j 0) → (y : ℕ) → y < n → record_at ws' y ≡ record_at ws y
record_below n ws ws' same y h =
    record_of_words ws ws' y (same (5 * y) (omega arith)) (same (5 * y + 1) (omega arith)) (same (5 * y + 2) (omega arith))

-- ---- a record is written
module _ (ws : List ℕ) (s : ℕ) (r : Record) where
  pub length_written : length (written ws s r) ≡ length ws
  unfolding written
  length_written = simp length-set

  -- words that are not the record's
  pub written_other : (j : ℕ) → j ≢ 5 * s → j ≢ 5 * s + 1 → j ≢ 5 * s + 2 → get_or (written ws s r) j 0 ≡ get_or ws j 0
  unfolding written
  written_other j a b c =
      get_or-set_other (set (set ws (5 * s) r.key) (5 * s + 1) r.first) (5 * s + 2) j r.second 0 c
      ∙ get_or-set_other (set ws (5 * s) r.key) (5 * s + 1) j r.first 0 b
      ∙ get_or-set_other ws (5 * s) j r.key 0 a

  pub written_next : (i : ℕ) → next (written ws s r) i ≡ next ws i
  written_next i = written_other (5 * i + 4) (omega arith) (omega arith) (omega arith)

  pub written_prev : (i : ℕ) → prev (written ws s r) i ≡ prev ws i
  written_prev i = written_other (5 * i + 3) (omega arith) (omega arith) (omega arith)

  pub record_written_other : (y : ℕ) → (y ≡ s → ⊥) → record_at (written ws s r) y ≡ record_at ws y
  record_written_other y d =
      record_of_words ws (written ws s r) y
      (written_other (5 * y) (omega arith) (omega arith) (omega arith))
      (written_other (5 * y + 1) (omega arith) (omega arith) (omega arith))
      (written_other (5 * y + 2) (omega arith) (omega arith) (omega arith))

  pub record_written : 5 * (s + 1) ≤ length ws → record_at (written ws s r) s ≡ r
  unfolding written
  record_written h =
      let one = set ws (5 * s) r.key in
      let two = set one (5 * s + 1) r.first in
      let l₁ : 5 * s + 1 < length one = simp length-set (omega arith) in
      let l₂ : 5 * s + 2 < length two = simp length-set (omega arith) in
      let k : get_or (set two (5 * s + 2) r.second) (5 * s) 0 ≡ r.key =
      get_or-set_other two (5 * s + 2) (5 * s) r.second 0 (omega arith)
      ∙ get_or-set_other one (5 * s + 1) (5 * s) r.first 0 (omega arith)
      ∙ get_or-set_same ws (5 * s) r.key 0 (omega arith) in
      let a : get_or (set two (5 * s + 2) r.second) (5 * s + 1) 0 ≡ r.first =
      get_or-set_other two (5 * s + 2) (5 * s + 1) r.second 0 (omega arith)
      ∙ get_or-set_same one (5 * s + 1) r.first 0 l₁ in
      let b : get_or (set two (5 * s + 2) r.second) (5 * s + 2) 0 ≡ r.second = get_or-set_same two (5 * s + 2) r.second 0 l₂ in
      same_record k a b
