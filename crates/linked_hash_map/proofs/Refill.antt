-- The map emptied, and the cells cleared and the live records entered anew by a walk along the ring: entering
-- a record changes no link, so the walk meets the ring's records, and they are indexed again.
use mathlib.Core.Path.{◌≡◌, refl, ap, ◌∙◌}
use mathlib.Core.Logic.{inl}
use mathlib.Core.List.{List, [], ◌∷◌, ◌++◌, Memᴰ}
use mathlib.Core.List.Memᴰ.{head}
use mathlib.Core.List.Memᴰ.{tail}
use Prim.Native.Nat.{ℕ, zero, suc, ◌+◌, ◌*◌, ◌<◌, ◌≤◌}
use native.Mathlib.Omega.{arith}
use lib.ListN.{length, get_or}
use borrow.Author.Tests.{lt-ltb}
use Rattle.rings.specs.Ring.{next, along, joined, attached, spliced, count, down, Two}
use Rattle.rings.proofs.Counts.{bit_eq, count_of_mem}
use Rattle.rings.proofs.Fill.{Filled, fill_start, fill_more, fill_done}
use Rattle.rings.proofs.Two.{along_ring, count_le_one, one_is_below, two_frame, two_spliced}
use Rattle.rings.proofs.Links.{length_attached, length_joined, length_spliced}
use Rattle.cells.specs.Cells.{cells_from, cell_words, zeroed}
use Rattle.cells.specs.Probe.{entered, entered_all}
use Rattle.cells.proofs.Lists.{Distinct}
use Rattle.cells.proofs.Clearing.{zero_length}
use Rattle.cells.proofs.Indexing.{entered_outside, zeroed_index, zeroed_outside, entered_all_length, entered_all_outside, refilled_index}
use Rattle.linked_hash_map.specs.Words.{words_for, Room, filled, emptied, wiped, entered_from, refilled}
use Rattle.linked_hash_map.proofs.Laid.{Laid}

pub distinct : (l : List ℕ) → ((x : ℕ) → count x l ≤ 1) → Distinct l
distinct [] once = tt
distinct (x ∷ l) once =
    (λ q. omega (arith, once x, count_of_mem q, bit_eq x x refl), distinct l (λ y. omega (arith, once y)))

-- a walk by the links of z enters its records, whatever the words
entered_along : (n : ℕ) (z ws : List ℕ) (x : ℕ) (l : List ℕ) → ((i : ℕ) → i < n → next ws i ≡ next z i) → along z x (length l) ≡ l → ((y : ℕ) → Memᴰ y l → y < n) → entered_from ws n (length l) x ≡ entered_all ws n l
unfolding entered_from entered_all along
entered_along n z ws x [] same is below = refl
entered_along n z ws x (y ∷ l) same is below =
    let first : x ≡ y = cc in
    let rest : along z (next z x) (length l) ≡ l = cc in
    let h : x < n = rw first (below y (head refl)) in
    let on : next (entered ws n x) x ≡ next z x = entered_outside ws n x (5 * x + 4) (inl (omega arith)) ∙ same x h in
    rw (lt-ltb x n h, on)
    (entered_along n z (entered ws n x) (next z x) l
    (λ i b. entered_outside ws n x (5 * i + 4) (inl (omega arith)) ∙ same i b)
    rest
    (λ w q. below w (tail q))
    ∙ ap (λ (s : ℕ). entered_all (entered ws n s) n l) first)

pub laid_refilled : {ws : List ℕ} {n : ℕ} {l f : List ℕ} → Laid ws n l f → Laid (refilled ws n (length l)) n l f
unfolding refilled
laid_refilled {ws} {n} {l} {f} laid = rw is_all record {
  room = rw same_length laid.room;
  rings = two_frame laid.rings A (λ i h. outside (5 * i + 3) (omega arith)) (λ i h. outside (5 * i + 4) (omega arith)) (rw same_length laid.rings.fit);
  index = refilled_index ws n l laid.room.words laid.room.limit (λ x q. one_is_below laid.rings q) (distinct l (count_le_one laid.rings)) laid.index.apart;
}
  where
    z : List ℕ
    z = zeroed ws (cells_from n) (cell_words n)

    A : List ℕ
    A = entered_all z n l

    same_length : length A ≡ length ws
    same_length = entered_all_length n l z ∙ zero_length ws (cells_from n) (cell_words n)

    outside : (j : ℕ) → j < 5 * n + 10 → get_or A j 0 ≡ get_or ws j 0
    outside j h = entered_all_outside n j (inl h) l z ∙ zeroed_outside ws n j (inl h)

    links : Two (n + 2) z n l (n + 1) f
    links = two_frame laid.rings z (λ i h. zeroed_outside ws n (5 * i + 3) (inl (omega arith))) (λ i h. zeroed_outside ws n (5 * i + 4) (inl (omega arith))) (rw (zero_length ws (cells_from n) (cell_words n)) laid.rings.fit)

    is_all : entered_from z n (length l) (next z n) ≡ A
    is_all = entered_along n z z (next z n) l (λ i h. refl) (along_ring links) (λ y q. one_is_below links q)

-- ---- the empty map
pub length_filled : (n i f : ℕ) (ws : List ℕ) → length (filled ws n i f) ≡ length ws
unfolding filled
length_filled n i zero ws = refl
length_filled n i (suc f) ws = length_filled n (i + 1) f (attached (n + 2) ws (n + 1) i) ∙ length_attached (n + 2) ws (n + 1) i

filling : (n i f : ℕ) (ws : List ℕ) → i + f ≡ n → Filled n ws i → Filled n (filled ws n i f) n
unfolding filled
filling n i zero ws e fi = let is : i ≡ n = omega arith in rw is at fi
filling n i (suc f) ws e fi = filling n (i + 1) f (attached (n + 2) ws (n + 1) i) (omega arith) (fill_more (omega arith) fi)

pub laid_emptied : (ws : List ℕ) (n : ℕ) → Room (length ws) n → Laid (emptied ws n) n [] (down n)
unfolding emptied
laid_emptied ws n room = record {
  room = record { limit = room.limit; words = rw size room.words };
  rings =
      two_frame (fill_done (omega arith) fi) (zeroed F (cells_from n) (cell_words n))
      (λ i h. zeroed_outside F n (5 * i + 3) (inl (omega arith)))
      (λ i h. zeroed_outside F n (5 * i + 4) (inl (omega arith)))
      (rw (zero_length F (cells_from n) (cell_words n)) fi.fit);
  index = zeroed_index F n (rw F-size room.words);
}
  where
    J : List ℕ
    J = joined (n + 2) (joined (n + 2) ws n n) (n + 1) (n + 1)

    F : List ℕ
    F = filled J n 0 n

    fi : Filled n F n
    fi = filling n 0 n J (omega arith) (fill_start n ws (omega (arith, room.words)))

    F-size : length F ≡ length ws
    F-size = length_filled n 0 n J ∙ length_joined (n + 2) (joined (n + 2) ws n n) (n + 1) (n + 1) ∙ length_joined (n + 2) ws n n

    size : length (zeroed F (cells_from n) (cell_words n)) ≡ length ws
    size = zero_length F (cells_from n) (cell_words n) ∙ F-size

pub laid_wiped : {ws : List ℕ} {n : ℕ} {l f : List ℕ} → Laid ws n l f → Laid (wiped ws n) n [] (l ++ f)
unfolding wiped
laid_wiped {ws} {n} {l} {f} laid = record {
  room = record { limit = laid.room.limit; words = rw (zero_length S (cells_from n) (cell_words n)) words };
  rings =
      two_frame links (zeroed S (cells_from n) (cell_words n))
      (λ i h. zeroed_outside S n (5 * i + 3) (inl (omega arith)))
      (λ i h. zeroed_outside S n (5 * i + 4) (inl (omega arith)))
      (rw (zero_length S (cells_from n) (cell_words n)) links.fit);
  index = zeroed_index S n words;
}
  where
    S : List ℕ
    S = spliced (n + 2) ws n (n + 1)

    links : Two (n + 2) S n [] (n + 1) (l ++ f)
    links = two_spliced laid.rings

    words : words_for n ≤ length S
    words = rw (length_spliced (n + 2) ws n (n + 1)) laid.room.words
