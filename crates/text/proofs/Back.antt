-- A format reads back the numbers of its own text.
use mathlib.Core.Path.{◌≡◌, refl, sym, ◌∙◌}
use mathlib.Core.Bool.{Bool, true, false, cond, not, ◌&&◌, true≢false}
use mathlib.Core.List.{List, [], ◌∷◌, ◌++◌, append_assoc}
use Rattle.std.specs.Prelude.{Some}
use Prim.Native.Nat.{ℕ, suc, ◌+◌, ◌^◌, ◌<◌, ◌≤◌}
use native.Mathlib.Nat.{eq-zero-or-pos}
use native.Mathlib.Omega.{arith}
use mathlib.Core.Logic.{⊎_elim}
use borrow.Author.Tests.{lt-ltb, eqb-true, eqb-false, eq-eqb, ne_eqb, not-true}
use lib.Dec.{eqb}
use lib.ListN.{length, get_or, set}
use lib.Seq.{sets}
use Rattle.text.specs.Text.{decimal_in, decimal, fill}
use Rattle.text.specs.Reading.{is_digit, read_on, read_number, read_from}
use Rattle.text.proofs.Numbers.{both, read_decimal}
use Rattle.text.proofs.Fills.{fill_other}

-- no digit comes first
abbrev pub parts : List ℕ → Bool
parts [] = true
parts (c ∷ s) = not (is_digit c)

pub number_back : (v : ℕ) (s : List ℕ) → v < 2 ^ 64 → parts s ≡ true → read_number (decimal v ++ s) ≡ Some (v, s)
unfolding read_number read_on decimal_in
number_back v s b h = ⊎_elim (λ z. rw z refl) (λ p. read_decimal 20 v s p (omega arith) b ∙ on s h) (eq-zero-or-pos v)
  where
    on : (s : List ℕ) → parts s ≡ true → read_on v s ≡ Some (v, s)
    on [] h = refl
    on (c ∷ s) h = simp (not-true (is_digit c) h)

-- ---- formats
-- how many numbers a format has, and that none of them goes on into what comes after it
unfoldable pub slots : List ℕ → ℕ
slots [] = 0
slots (c ∷ f) = cond (eqb c 48) (suc (slots f)) (slots f)

unfoldable pub parted : List ℕ → List ℕ → Bool
parted [] s = true
parted (c ∷ f) s = cond (eqb c 48) (parts (f ++ s) && parted f s) (parted f s)

-- a text that starts with no digit is that of a format that does not
fill_parts : (f ns s : List ℕ) → parts (f ++ s) ≡ true → parts (fill f ns ++ s) ≡ true
unfolding fill
fill_parts [] ns s h = h
fill_parts (c ∷ f) [] s h = h
fill_parts (c ∷ f) (n ∷ ns) s h = go (eqb c 48) refl
  where
    go : (b : Bool) → eqb c 48 ≡ b → parts (cond b (decimal n ++ fill f ns) (c ∷ fill f (n ∷ ns)) ++ s) ≡ true
    go true z = absurd (true≢false (sym h ∙ rw (eqb-true c 48 z) refl))
    go false z = h

-- ---- a byte of the format at a time
byte_back : (k : ℕ) (ms : List ℕ) (c : ℕ) (f t : List ℕ) → (c ≡ 48 → ⊥) → read_from k ms (c ∷ f) (c ∷ t) ≡ read_from k ms f t
unfolding read_from
byte_back k ms c f t h = simp (ne_eqb c 48 h, eq-eqb c c refl)

step_back : (k : ℕ) (ms f : List ℕ) (n : ℕ) (t : List ℕ) → k < 5 → read_number (decimal n ++ t) ≡ Some (n, t) → read_from k ms (48 ∷ f) (decimal n ++ t) ≡ read_from (suc k) (set ms k n) f t
unfolding read_from
step_back k ms f n t h e = simp (e, lt-ltb k 5 h)

abbrev Back : List ℕ → List ℕ → Type 0
Back f s = (k : ℕ) (ms ns : List ℕ) → parted f s ≡ true → slots f ≡ length ns → k + length ns ≤ 5 → ((i : ℕ) → get_or ns i 0 < 2 ^ 64) → read_from k ms f (fill f ns ++ s) ≡ Some (sets ms k ns, s)

pub format_back : (f s : List ℕ) → Back f s
unfolding read_from fill parted slots
format_back [] s k ms [] p e l b = refl
format_back [] s k ms (n ∷ ns) p e l b = absurd (omega arith)
format_back (c ∷ f) s k ms ns p e l b = go (eqb c 48) refl p e (format_back f s)
  where
    numbered : (ns : List ℕ) → parts (f ++ s) && parted f s ≡ true → suc (slots f) ≡ length ns → k + length ns ≤ 5 → ((i : ℕ) → get_or ns i 0 < 2 ^ 64) → Back f s → read_from k ms (48 ∷ f) (fill (48 ∷ f) ns ++ s) ≡ Some (sets ms k ns, s)
    numbered [] p e l b ih = absurd (omega arith)
    numbered (n ∷ ns) p e l b ih =
        let (q, r) = both (parts (f ++ s)) (parted f s) p in
        rw append_assoc
        (step_back k ms f n (fill f ns ++ s) (omega arith) (number_back n (fill f ns ++ s) (b 0) (fill_parts f ns s q))
        ∙ ih (suc k) (set ms k n) ns r (omega arith) (omega arith) (λ i. b (suc i)))

    go : (z : Bool) → eqb c 48 ≡ z → cond z (parts (f ++ s) && parted f s) (parted f s) ≡ true → cond z (suc (slots f)) (slots f) ≡ length ns → Back f s → read_from k ms (c ∷ f) (fill (c ∷ f) ns ++ s) ≡ Some (sets ms k ns, s)
    go true z p e ih = rw (eqb-true c 48 z) (numbered ns p e l b ih)
    go false z p e ih = rw (fill_other c f ns (eqb-false c 48 z)) (byte_back k ms c f (fill f ns ++ s) (eqb-false c 48 z) ∙ ih k ms ns p e l b)
