-- Reading by one format the text of another.
use mathlib.Core.Path.{◌≡◌, refl, sym, ap, ◌∙◌}
use mathlib.Core.Bool.{Bool, true, false, not, cond, ◌&&◌, true≢false}
use mathlib.Core.List.{List, [], ◌∷◌, ◌++◌, append-nil}
use Rattle.std.specs.Prelude.{Option, None, Some}
use Prim.Native.Nat.{ℕ, suc, ◌^◌, ◌<◌}
use borrow.Author.Tests.{eqb-true, eqb-false, eq-eqb, not-true}
use lib.Dec.{ltb, eqb}
use lib.ListN.{get_or, set}
use Rattle.text.specs.Text.{decimal, fill}
use Rattle.text.specs.Reading.{is_digit, read_from, read_in}
use Rattle.text.proofs.Fills.{fill_other, fill_number}
use Rattle.text.proofs.Laws.{number_read}
use Rattle.forms.specs.Reading.{only, whole}

abbrev pub Small : List ℕ → Type 0
Small ns = (i : ℕ) → get_or ns i 0 < 2 ^ 64

abbrev pub zeros : List ℕ
zeros = 0 ∷ 0 ∷ 0 ∷ 0 ∷ 0 ∷ []

both : (a b : Bool) → a && b ≡ true → (a ≡ true) × (b ≡ true)
both true true h = (refl, refl)
both true false h = absurd (true≢false (sym h))
both false b h = absurd (true≢false (sym h))

-- ---- a step of reading
module _ (k : ℕ) (found f : List ℕ) where
  number_on : (v c : ℕ) (s : List ℕ) → v < 2 ^ 64 → ltb k 5 ≡ true → is_digit c ≡ false → read_from k found (48 ∷ f) (decimal v ++ (c ∷ s)) ≡ read_from (suc k) (set found k v) f (c ∷ s)
  unfolding read_from
  number_on v c s b room e = simp (number_read v c s b e, room)

  byte_on : (c : ℕ) (s : List ℕ) → eqb c 48 ≡ false → read_from k found (c ∷ f) (c ∷ s) ≡ read_from k found f s
  unfolding read_from
  byte_on c s z = simp (z, eq-eqb c c refl)

  byte_off : (c d : ℕ) (s : List ℕ) → eqb c 48 ≡ false → eqb d c ≡ false → read_from k found (c ∷ f) (d ∷ s) ≡ None
  unfolding read_from
  byte_off c d s z e = simp (z, e)

-- ---- two formats that begin alike: p, and then f or g
-- a byte that ends a number comes first
abbrev pub stops : List ℕ → Bool
stops [] = false
stops (c ∷ f) = not (is_digit c)

abbrev pub tailed : List ℕ → (List ℕ → Bool) → Bool
tailed [] h = false
tailed (n ∷ ns) h = h ns

-- p has the numbers ns, from the k-th on, and each is ended
abbrev pub fitting : ℕ → List ℕ → List ℕ → List ℕ → Bool
fitting k [] g [] = true
fitting k [] g (n ∷ ns) = false
fitting k (c ∷ p) g ns = cond (eqb c 48) (tailed ns (λ rest. (ltb k 5 && stops (p ++ g)) && fitting (suc k) p g rest)) (fitting k p g ns)

-- reading by f, once the numbers ns are read
abbrev pub onward : List ℕ → ℕ → List ℕ → List ℕ → List ℕ → Option (List ℕ × List ℕ)
onward [] k found f s = read_from k found f s
onward (n ∷ ns) k found f s = onward ns (suc k) (set found k n) f s

record Ended (s : List ℕ) : Type 0 where
  byte : ℕ
  rest : List ℕ
  is : s ≡ byte ∷ rest
  ends : is_digit byte ≡ false

ended : (f ns : List ℕ) → stops f ≡ true → Ended (fill f ns)
ended [] ns h = absurd (true≢false (sym h))
ended (c ∷ f) ns h = record { byte = c; rest = fill f ns; is = fill_other c f ns (λ z. other z); ends = not-true (is_digit c) h }
  where
    other : c ≡ 48 → ⊥
    other z = true≢false (sym h ∙ rw z refl)

pub begin_alike : (p : List ℕ) (k : ℕ) (found f g ns ms : List ℕ) → fitting k p g ns ≡ true → Small ns → read_from k found (p ++ f) (fill (p ++ g) (ns ++ ms)) ≡ onward ns k found f (fill g ms)
begin_alike [] k found f g [] ms h b = refl
begin_alike [] k found f g (n ∷ ns) ms h b = absurd (true≢false (sym h))
begin_alike (c ∷ p) k found f g ns ms h b = go (eqb c 48) refl ns h b (λ k found ns. begin_alike p k found f g ns ms)
  where
    go : (z : Bool) → eqb c 48 ≡ z → (ns : List ℕ)
        → cond z (tailed ns (λ rest. (ltb k 5 && stops (p ++ g)) && fitting (suc k) p g rest)) (fitting k p g ns) ≡ true
        → Small ns
        → ((k : ℕ) (found ns : List ℕ) → fitting k p g ns ≡ true → Small ns → read_from k found (p ++ f) (fill (p ++ g) (ns ++ ms)) ≡ onward ns k found f (fill g ms))
        → read_from k found (c ∷ (p ++ f)) (fill (c ∷ (p ++ g)) (ns ++ ms)) ≡ onward ns k found f (fill g ms)
    go true z [] h b ih = absurd (true≢false (sym h))
    go true z (n ∷ ns) h b ih =
        let (hs, t) = both (ltb k 5 && stops (p ++ g)) (fitting (suc k) p g ns) h in
        let (room, st) = both (ltb k 5) (stops (p ++ g)) hs in
        let e = ended (p ++ g) (ns ++ ms) st in
        rw (eqb-true c 48 z) (rw (fill_number (p ++ g) n (ns ++ ms)) (rw e.is (number_on k found (p ++ f) n e.byte e.rest (b 0) room e.ends ∙ rw (sym e.is) (ih (suc k) (set found k n) ns t (λ i. b (suc i))))))
    go false z ns h b ih = rw (fill_other c (p ++ g) (ns ++ ms) (eqb-false c 48 z)) (byte_on k found (p ++ f) c (fill (p ++ g) (ns ++ ms)) z ∙ ih k found ns h b)

-- ---- a text is read by its own format, and by none that differs from it at a byte
-- the numbers ns, from the k-th place on
abbrev pub noted : List ℕ → ℕ → List ℕ → List ℕ
noted [] k found = found
noted (n ∷ ns) k found = noted ns (suc k) (set found k n)

all_read : (ns : List ℕ) (k : ℕ) (found s : List ℕ) → onward ns k found [] s ≡ Some (noted ns k found, s)
unfolding read_from
all_read [] k found s = refl
all_read (n ∷ ns) k found s = all_read ns (suc k) (set found k n) s

unread : (ns : List ℕ) (k : ℕ) (found f : List ℕ) (c d : ℕ) (s : List ℕ) → eqb c 48 ≡ false → eqb d c ≡ false → onward ns k found (c ∷ f) (d ∷ s) ≡ None
unread [] k found f c d s z e = byte_off k found f c d s z e
unread (n ∷ ns) k found f c d s z e = unread ns (suc k) (set found k n) f c d s z e

module _ (p ns : List ℕ) (b : Small ns) where
  pub prefix_read : (g ms : List ℕ) → fitting 0 p g ns ≡ true → read_in p (fill (p ++ g) (ns ++ ms)) ≡ Some (noted ns 0 zeros, fill g ms)
  prefix_read g ms h = rw append-nil at (begin_alike p 0 zeros [] g ns ms h b ∙ all_read ns 0 zeros (fill g ms))

  pub own_read : fitting 0 p [] ns ≡ true → whole p (fill p ns) ≡ Some (noted ns 0 zeros)
  unfolding fill
  own_read h = ap only (simp append-nil at (prefix_read [] [] h))

  pub differ : (c : ℕ) (f : List ℕ) (d : ℕ) (g ms : List ℕ) → fitting 0 p (d ∷ g) ns ≡ true → eqb c 48 ≡ false → eqb d 48 ≡ false → eqb d c ≡ false → read_in (p ++ (c ∷ f)) (fill (p ++ (d ∷ g)) (ns ++ ms)) ≡ None
  differ c f d g ms h z y e = begin_alike p 0 zeros (c ∷ f) (d ∷ g) ns ms h b ∙ rw (fill_other d g ms (eqb-false d 48 y)) (unread ns 0 zeros f c d (fill g ms) z e)
