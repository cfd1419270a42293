-- How often an entry is in a list: at all exactly where it is a member.
use mathlib.Core.Path.{◌≡◌, ap}
use mathlib.Core.List.{List, [], ◌∷◌, ◌++◌, Memᴰ}
use mathlib.Core.List.Memᴰ.{head}
use mathlib.Core.List.Memᴰ.{tail}
use Prim.Native.Nat.{◌+◌, ◌<◌}
use native.Mathlib.Decide.{ℕ_discrete}
use native.Mathlib.Omega.{arith}
use borrow.Author.Tests.{eq-eqb, ne_eqb}
use Rattle.binary_heap.specs.declared.entries.Entry.{Entry}
use Rattle.binary_heap.specs.Order.{is, count}
use Rattle.binary_heap.proofs.Order.{entry_same}

pub data Is (e x : Entry) : Type 0 where
  same : e ≡ x → is e x ≡ 1 → Is e x
  other : (e ≡ x → ⊥) → is e x ≡ 0 → Is e x

pub which : (e x : Entry) → Is e x
unfolding is
which e x = go (ℕ_discrete e.score x.score) (ℕ_discrete e.seq x.seq) (ℕ_discrete e.key x.key)
  where
    go : Dec (e.score ≡ x.score) → Dec (e.seq ≡ x.seq) → Dec (e.key ≡ x.key) → Is e x
    go (yes p) (yes q) (yes r) = same (entry_same p q r) (rw (eq-eqb _ _ p, eq-eqb _ _ q, eq-eqb _ _ r))
    go (yes p) (yes q) (no r) = other (λ h. r (ap (λ (y : Entry). y.key) h)) (rw (eq-eqb _ _ p, eq-eqb _ _ q, ne_eqb _ _ r))
    go (yes p) (no q) r = other (λ h. q (ap (λ (y : Entry). y.seq) h)) (rw (eq-eqb _ _ p, ne_eqb _ _ q))
    go (no p) q r = other (λ h. p (ap (λ (y : Entry). y.score) h)) (rw (ne_eqb _ _ p))

pub is_same : {e x : Entry} → e ≡ x → is e x ≡ 1
is_same {e} {x} h = go (which e x)
  where
    go : Is e x → is e x ≡ 1
    go (same _ q) = q
    go (other d _) = absurd (d h)

pub count_append : (e : Entry) (l m : List Entry) → count e (l ++ m) ≡ count e l + count e m
unfolding count
count_append e [] m = omega arith
count_append e (x ∷ l) m = omega (arith, count_append e l m)

pub mem_count : (e : Entry) (l : List Entry) → Memᴰ e l → 0 < count e l
unfolding count
mem_count e [] m = elim m [ ]
mem_count e (x ∷ l) (head q) = omega (arith, is_same q)
mem_count e (x ∷ l) (tail m) = omega (arith, mem_count e l m)

pub count_mem : (e : Entry) (l : List Entry) → 0 < count e l → Memᴰ e l
unfolding count
count_mem e [] h = absurd (omega arith)
count_mem e (x ∷ l) h = go (which e x) (λ p. count_mem e l p)
  where
    go : Is e x → (0 < count e l → Memᴰ e l) → Memᴰ e (x ∷ l)
    go (same q _) ih = head q
    go (other _ z) ih = tail (ih (omega arith))
