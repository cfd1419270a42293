-- What the crates above cite: reading is the way back from writing, how long a text is, and one text behind
-- another.
use mathlib.Core.Path.{◌≡◌, refl}
use mathlib.Core.Bool.{true, false}
use mathlib.Core.List.{List, [], ◌∷◌, ◌++◌}
use Rattle.std.specs.Prelude.{Some}
use Prim.Native.Nat.{ℕ, ◌^◌, ◌<◌, ◌≤◌}
use native.Mathlib.Omega.{arith}
use lib.ListN.{length, get_or}
use lib.Seq.{sets}
use Rattle.text.specs.Text.{decimal, fill}
use Rattle.text.specs.Reading.{is_digit, read_number, read_in}
use Rattle.text.proofs.Decimals.{size_le}
use Rattle.text.proofs.Back.{slots, parted, number_back, format_back}
use Rattle.text.proofs.Texts.{Found, zeros_small, found}
pub use Rattle.text.proofs.Formats.{starts_none, starts_some, ends_is, end_sound, after_sound, left_from, text_on, field_on, field_is, field_none, field_some}
pub use Rattle.text.proofs.Fills.{fill_size}
pub use Rattle.text.proofs.Stores.{sets_append, puts_then, writes_then}

-- ---- what is written is read back
pub number_read : (v c : ℕ) (s : List ℕ) → v < 2 ^ 64 → is_digit c ≡ false → read_number (decimal v ++ (c ∷ s)) ≡ Some (v, c ∷ s)
number_read v c s b h = number_back v (c ∷ s) b (rw h refl)

-- the numbers of a format, none of which goes on into what comes after it
pub read_fill : (f ns rest : List ℕ) → parted f rest ≡ true → slots f ≡ length ns → length ns ≤ 5 → ((i : ℕ) → get_or ns i 0 < 2 ^ 64) → read_in f (fill f ns ++ rest) ≡ Some (sets (0 ∷ 0 ∷ 0 ∷ 0 ∷ 0 ∷ []) 0 ns, rest)
read_fill f ns rest p e l b = format_back f rest 0 (0 ∷ 0 ∷ 0 ∷ 0 ∷ 0 ∷ []) ns p e (omega arith) b

-- ---- what is read was written
module _ (f s ns rest : List ℕ) (e : read_in f s ≡ Some (ns, rest)) where
  read_found : Found 0 (0 ∷ 0 ∷ 0 ∷ 0 ∷ 0 ∷ []) f s ns rest
  read_found = found f s 0 (0 ∷ 0 ∷ 0 ∷ 0 ∷ 0 ∷ []) ns rest refl e

  pub read_sound : s ≡ fill f ns ++ rest
  read_sound = read_found.text

  pub read_size : length ns ≡ 5
  read_size = read_found.size

  pub read_small : (i : ℕ) → get_or ns i 0 < 2 ^ 64
  read_small = read_found.small (zeros_small 5)

-- ---- how long a text is
pub decimal_size : (n : ℕ) → n < 2 ^ 64 → length (decimal n) ≤ 20
decimal_size n h = size_le 20 n
