-- The entries by their places: a store changes one entry of the list, and an exchange changes no count.
use mathlib.Core.Path.{◌≡◌, refl, sym, ap, ◌∙◌}
use mathlib.Core.Logic.{◌≢◌}
use mathlib.Core.List.{List, [], ◌∷◌}
use Prim.Native.Nat.{ℕ, zero, suc, ◌+◌, ◌<◌}
use native.Mathlib.Omega.{arith}
use native.Mathlib.Decide.{ℕ_discrete}
use lib.ListN.{length, length-append}
use Rattle.binary_heap.specs.declared.entries.Entry.{Entry}
use Rattle.binary_heap.specs.Order.{is, count}
use Rattle.binary_heap.specs.Entries.{entry_at, entries_of}
use Rattle.binary_heap.proofs.Words.{Swapped, swapped_kept}
use Rattle.binary_heap.proofs.Counts.{Is, same, other, which, is_same, count_append}

pub entries_length : (ws : List ℕ) (n : ℕ) → length (entries_of ws n) ≡ n
unfolding entries_of
entries_length ws zero = refl
entries_length ws (suc n) = omega (arith, length-append (entries_of ws n) (entry_at ws n ∷ []), entries_length ws n)

pub entries_same : (ws vs : List ℕ) (n : ℕ) → ((k : ℕ) → k < n → entry_at vs k ≡ entry_at ws k) → entries_of vs n ≡ entries_of ws n
unfolding entries_of
entries_same ws vs zero h = refl
entries_same ws vs (suc n) h = cc (entries_same ws vs n (λ k l. h k (omega arith)), h n (omega arith))

module _ (e : Entry) where
  pub count_last : (ws : List ℕ) (n : ℕ) → count e (entries_of ws (suc n)) ≡ count e (entries_of ws n) + is e (entry_at ws n)
  unfolding entries_of count
  count_last ws n = omega (arith, count_append e (entries_of ws n) (entry_at ws n ∷ []))

  pub count_place : (ws : List ℕ) (n k : ℕ) → k < n → entry_at ws k ≡ e → 0 < count e (entries_of ws n)
  count_place ws zero k l q = absurd (omega arith)
  count_place ws (suc n) k l q = go (ℕ_discrete k n) (λ m. count_place ws n k m q)
    where
      go : Dec (k ≡ n) → (k < n → 0 < count e (entries_of ws n)) → 0 < count e (entries_of ws (suc n))
      go (yes f) ih = omega (arith, count_last ws n, is_same (sym q ∙ ap (entry_at ws) f))
      go (no f) ih = omega (arith, count_last ws n, ih (omega arith))

  pub place_count : (ws : List ℕ) (n : ℕ) → 0 < count e (entries_of ws n) → (k : ℕ) × (k < n) × (entry_at ws k ≡ e)
  unfolding entries_of count
  place_count ws zero h = absurd (omega arith)
  place_count ws (suc n) h = go (which e (entry_at ws n)) (λ m. place_count ws n m)
    where
      older : (k : ℕ) × (k < n) × (entry_at ws k ≡ e) → (k : ℕ) × (k < suc n) × (entry_at ws k ≡ e)
      older o = (o.0, omega (arith, o.1), o.2)

      go : Is e (entry_at ws n) → (0 < count e (entries_of ws n) → (k : ℕ) × (k < n) × (entry_at ws k ≡ e)) → (k : ℕ) × (k < suc n) × (entry_at ws k ≡ e)
      go (same q _) ih = (n, omega arith, sym q)
      go (other _ z) ih = older (ih (omega (arith, count_last ws n)))

  -- one entry is another
  pub count_put : (ws vs : List ℕ) (i n : ℕ) → i < n → ((k : ℕ) → k < n → k ≢ i → entry_at vs k ≡ entry_at ws k)
      → count e (entries_of vs n) + is e (entry_at ws i) ≡ count e (entries_of ws n) + is e (entry_at vs i)
  count_put ws vs i zero l h = absurd (omega arith)
  count_put ws vs i (suc n) l h = go (ℕ_discrete n i) (λ m. count_put ws vs i n m (λ k b. h k (omega arith)))
    where
      go : Dec (n ≡ i) → (i < n → count e (entries_of vs n) + is e (entry_at ws i) ≡ count e (entries_of ws n) + is e (entry_at vs i))
          → count e (entries_of vs (suc n)) + is e (entry_at ws i) ≡ count e (entries_of ws (suc n)) + is e (entry_at vs i)
      go (yes f) ih =
          omega (
            arith,
            count_last ws n,
            count_last vs n,
            ap (count e) (entries_same ws vs n (λ k m. h k (omega arith) (omega arith))),
            ap (λ (x : ℕ). is e (entry_at ws x)) f,
            ap (λ (x : ℕ). is e (entry_at vs x)) f,
          )
      go (no f) ih = omega (arith, count_last ws n, count_last vs n, ih (omega arith), ap (is e) (h n (omega arith) f))

  -- two are exchanged, the later one named first
  pub count_swap : (ws vs : List ℕ) (i j n : ℕ) → j < i → i < n → Swapped ws vs i j → count e (entries_of vs n) ≡ count e (entries_of ws n)
  count_swap ws vs i j zero b l s = absurd (omega arith)
  count_swap ws vs i j (suc n) b l s = go (ℕ_discrete n i) (λ m. count_swap ws vs i j n b m s)
    where
      go : Dec (n ≡ i) → (i < n → count e (entries_of vs n) ≡ count e (entries_of ws n)) → count e (entries_of vs (suc n)) ≡ count e (entries_of ws (suc n))
      go (yes f) ih =
          omega (
            arith,
            count_last ws n,
            count_last vs n,
            count_put ws vs j n (omega arith) (λ k m d. swapped_kept s k (omega arith) d),
            ap (is e) (ap (entry_at vs) f ∙ s.at_i),
            ap (is e) (ap (entry_at ws) f ∙ sym s.at_j),
          )
      go (no f) ih = omega (arith, count_last ws n, count_last vs n, ih (omega arith), ap (is e) (swapped_kept s n f (omega arith)))
