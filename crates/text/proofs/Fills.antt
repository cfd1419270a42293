-- The text of a format, a byte of the format at a time.
use mathlib.Core.Path.{◌≡◌, refl}
use mathlib.Core.Bool.{Bool, true, false, cond}
use mathlib.Core.List.{List, [], ◌∷◌, ◌++◌}
use Prim.Native.Nat.{ℕ, ◌+◌, ◌*◌, ◌≤◌}
use native.Mathlib.Omega.{arith}
use borrow.Author.Tests.{ne_eqb}
use lib.Dec.{eqb}
use lib.ListN.{length, length-append}
use Rattle.text.specs.Text.{decimal, fill}
use Rattle.text.proofs.Decimals.{size_le}

fill_none : (c : ℕ) (f : List ℕ) → fill (c ∷ f) [] ≡ c ∷ fill f []
unfolding fill
fill_none c [] = refl
fill_none c (d ∷ f) = refl

pub fill_other : (c : ℕ) (f ns : List ℕ) → (c ≡ 48 → ⊥) → fill (c ∷ f) ns ≡ c ∷ fill f ns
unfolding fill
fill_other c f [] h = fill_none c f
fill_other c f (n ∷ ns) h = simp (ne_eqb c 48 h)

pub fill_number : (f : List ℕ) (n : ℕ) (ns : List ℕ) → fill (48 ∷ f) (n ∷ ns) ≡ decimal n ++ fill f ns
unfolding fill
fill_number f n ns = refl

pub fill_size : (f ns : List ℕ) → length (fill f ns) ≤ length f + 19 * length ns
unfolding fill
fill_size [] ns = omega arith
fill_size (c ∷ f) [] = omega arith
fill_size (c ∷ f) (n ∷ ns) = go (eqb c 48) (fill_size f ns) (fill_size f (n ∷ ns))
  where
    go : (b : Bool) → length (fill f ns) ≤ length f + 19 * length ns → length (fill f (n ∷ ns)) ≤ length f + 19 * length (n ∷ ns) → length (cond b (decimal n ++ fill f ns) (c ∷ fill f (n ∷ ns))) ≤ length (c ∷ f) + 19 * length (n ∷ ns)
    go true h g = simp length-append (omega (arith, size_le 20 n))
    go false h g = omega arith
