-- No call touches a word past the map's own, whatever the words hold.
use mathlib.Core.Path.{◌≡◌, refl, ◌∙◌}
use mathlib.Core.Bool.{Bool, true, false, cond}
use mathlib.Core.Logic.{inr}
use mathlib.Core.List.{List}
use Prim.Native.Nat.{ℕ, zero, suc, ◌+◌, ◌<◌}
use native.Mathlib.Omega.{arith}
use lib.Dec.{ltb}
use lib.ListN.{length, get_or}
use Rattle.rings.specs.Ring.{next, joined, attached, moved, spliced}
use Rattle.rings.proofs.Links.{length_attached, length_joined, length_moved, length_spliced, past_attached, past_joined, past_moved, past_spliced}
use Rattle.cells.specs.Cells.{cells_from, cell_words, cell_count, set_cell, erased, zeroed}
use Rattle.cells.specs.Probe.{entered}
use Rattle.cells.proofs.Packing.{Outside, set_length, set_outside}
use Rattle.cells.proofs.Clearing.{zero_length}
use Rattle.cells.proofs.Indexing.{entered_length, entered_outside, erased_length, erased_outside, zeroed_outside}
use Rattle.linked_hash_map.specs.declared.map.Record.{Record}
use Rattle.linked_hash_map.specs.Words.{Kept, written, replaced, taken_out, put_in, filled, emptied, wiped, entered_from, refilled}
use Rattle.linked_hash_map.proofs.Frames.{length_written, written_other}

pub kept_same : (n : ℕ) (ws : List ℕ) → Kept n ws ws
kept_same n ws = record { size = refl; past = λ j h. refl }

pub kept_then : {n : ℕ} {ws ws' ws'' : List ℕ} → Kept n ws ws' → Kept n ws' ws'' → Kept n ws ws''
kept_then a b = record { size = b.size ∙ a.size; past = λ j h. b.past j h ∙ a.past j h }

module _ (n : ℕ) (ws : List ℕ) where
  pub kept_moved : (s x : ℕ) → Kept n ws (moved (n + 2) ws s x)
  kept_moved s x = record { size = length_moved (n + 2) ws s x; past = λ j h. past_moved (n + 2) ws s x j (omega arith) }

  pub kept_written : (s : ℕ) (r : Record) → s < n → Kept n ws (written ws s r)
  kept_written s r b = record {
    size = length_written ws s r;
    past = λ j h. written_other ws s r j (omega arith) (omega arith) (omega arith);
  }

  kept_set : (c v : ℕ) → c < cell_count n → Kept n ws (set_cell ws n c v)
  kept_set c v b = record { size = set_length ws n c v; past = λ j h. set_outside ws n c v b j (inr (omega arith)) }

  pub kept_erased : (c : ℕ) → c < cell_count n → Kept n ws (erased ws n c)
  kept_erased c b = record { size = erased_length ws n c; past = λ j h. erased_outside ws n c b j (inr (omega arith)) }

  kept_zeroed : Kept n ws (zeroed ws (cells_from n) (cell_words n))
  kept_zeroed = record {
    size = zero_length ws (cells_from n) (cell_words n);
    past = λ j h. zeroed_outside ws n j (inr (omega arith));
  }

  kept_joined : (a b : ℕ) → Kept n ws (joined (n + 2) ws a b)
  kept_joined a b = record { size = length_joined (n + 2) ws a b; past = λ j h. past_joined (n + 2) ws a b j (omega arith) }

  kept_attached : (s x : ℕ) → Kept n ws (attached (n + 2) ws s x)
  kept_attached s x = record {
    size = length_attached (n + 2) ws s x;
    past = λ j h. past_attached (n + 2) ws s x j (omega arith);
  }

module _ (n : ℕ) (ws : List ℕ) where
  pub kept_replaced : (s : ℕ) (r : Record) → s < n → Kept n ws (replaced ws n s r)
  unfolding replaced
  kept_replaced s r b = kept_then (kept_written n ws s r b) (kept_moved n (written ws s r) n s)

  pub kept_taken : (c s : ℕ) → c < cell_count n → Kept n ws (taken_out ws n c s)
  unfolding taken_out
  kept_taken c s b = kept_then (kept_erased n ws c b) (kept_moved n (erased ws n c) (n + 1) s)

  pub kept_put : (c s : ℕ) (r : Record) → c < cell_count n → s < n → Kept n ws (put_in ws n c s r)
  unfolding put_in
  kept_put c s r b h =
      kept_then (kept_written n ws s r h)
      (kept_then (kept_set n (written ws s r) c (s + 1) b) (kept_moved n (set_cell (written ws s r) n c (s + 1)) n s))

kept_filled : (n i f : ℕ) (ws : List ℕ) → Kept n ws (filled ws n i f)
unfolding filled
kept_filled n i zero ws = kept_same n ws
kept_filled n i (suc f) ws = kept_then (kept_attached n ws (n + 1) i) (kept_filled n (i + 1) f (attached (n + 2) ws (n + 1) i))

pub kept_emptied : (n : ℕ) (ws : List ℕ) → Kept n ws (emptied ws n)
unfolding emptied
kept_emptied n ws =
    kept_then (kept_joined n ws n n)
    (kept_then (kept_joined n (joined (n + 2) ws n n) (n + 1) (n + 1))
    (kept_then (kept_filled n 0 n (joined (n + 2) (joined (n + 2) ws n n) (n + 1) (n + 1)))
    (kept_zeroed n (filled (joined (n + 2) (joined (n + 2) ws n n) (n + 1) (n + 1)) n 0 n))))

pub kept_wiped : (n : ℕ) (ws : List ℕ) → Kept n ws (wiped ws n)
unfolding wiped
kept_wiped n ws = kept_then
    (record { size = length_spliced (n + 2) ws n (n + 1); past = λ j h. past_spliced (n + 2) ws n (n + 1) j (omega arith) })
    (kept_zeroed n (spliced (n + 2) ws n (n + 1)))

-- entering records anew changes cells alone
from_outside : (n k x j : ℕ) (ws : List ℕ) → Outside n j → get_or (entered_from ws n k x) j 0 ≡ get_or ws j 0
unfolding entered_from
from_outside n zero x j ws o = refl
from_outside n (suc k) x j ws o = go (ltb x n) (from_outside n k (next (entered ws n x) x) j (entered ws n x) o ∙ entered_outside ws n x j o)
  where
    go : (b : Bool) → get_or (entered_from (entered ws n x) n k (next (entered ws n x) x)) j 0 ≡ get_or ws j 0 → get_or (cond b (entered_from (entered ws n x) n k (next (entered ws n x) x)) ws) j 0 ≡ get_or ws j 0
    go true e = e
    go false e = refl

from_length : (n k x : ℕ) (ws : List ℕ) → length (entered_from ws n k x) ≡ length ws
unfolding entered_from
from_length n zero x ws = refl
from_length n (suc k) x ws = go (ltb x n) (from_length n k (next (entered ws n x) x) (entered ws n x) ∙ entered_length ws n x)
  where
    go : (b : Bool) → length (entered_from (entered ws n x) n k (next (entered ws n x) x)) ≡ length ws → length (cond b (entered_from (entered ws n x) n k (next (entered ws n x) x)) ws) ≡ length ws
    go true e = e
    go false e = refl

pub refilled_outside : (n k j : ℕ) (ws : List ℕ) → Outside n j → get_or (refilled ws n k) j 0 ≡ get_or ws j 0
unfolding refilled
refilled_outside n k j ws o =
    let z = zeroed ws (cells_from n) (cell_words n) in
    from_outside n k (next z n) j z o ∙ zeroed_outside ws n j o

pub kept_refilled : (n k : ℕ) (ws : List ℕ) → Kept n ws (refilled ws n k)
unfolding refilled
kept_refilled n k ws =
    let z = zeroed ws (cells_from n) (cell_words n) in record {
      size = from_length n k (next z n) z ∙ zero_length ws (cells_from n) (cell_words n);
      past = λ j h. refilled_outside n k j ws (inr (omega arith));
    }
