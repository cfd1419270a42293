-- The check of an index is exact: where every record of a list is found by its key's probe, the cells index the list if and
-- only if they hold as many records as it has. For all of them are held, so that the held ones are these, each once.
use mathlib.Core.Path.{◌≡◌, refl}
use mathlib.Core.List.{List, Memᴰ}
use Prim.Native.Nat.{ℕ, ◌+◌, ◌<◌}
use native.Mathlib.Omega.{arith}
use lib.ListN.{length}
use Rattle.cells.specs.declared.Probe.TheVariants.{At}
use Rattle.cells.specs.Cells.{key_at, cell_count, cell_at, home_of}
use Rattle.cells.specs.Probe.{probe}
use Rattle.cells.specs.Index.{IndexOf, held_in}
use Rattle.cells.proofs.Probing.{Found, at_found}
use Rattle.cells.proofs.Lists.{Distinct, Covered, covered}
use Rattle.cells.proofs.Held.{held_in_lem, in_held, once_distinct, distinct_once}
use Rattle.cells.proofs.Indexing.{live_found}

module _ (ws : List ℕ) (n : ℕ) (live : List ℕ) (d : Distinct live) where
  -- a record that its key's probe finds is held
  found_held : ((s : ℕ) → Memᴰ s live → (c : ℕ) × (probe ws n (key_at ws s) ≡ At c s)) → Covered live (held_in ws n (cell_count n))
  found_held found = covered live (held_in ws n (cell_count n)) d (λ s m. held s (found s m))
    where
      held : (s : ℕ) → (c : ℕ) × (probe ws n (key_at ws s) ≡ At c s) → Memᴰ s (held_in ws n (cell_count n))
      held s (c, e) = let o = at_found ws n (key_at ws s) c s e in in_held ws n (cell_count n) c s o.cell o.small o.holds

  pub index_counts : IndexOf ws n live → length (held_in ws n (cell_count n)) ≡ length live
  index_counts ix =
      omega (
        arith,
        (found_held (λ s m. live_found ix (key_at ws s) s m refl)).short,
        (covered (held_in ws n (cell_count n)) live (once_distinct ws n (cell_count n) ix.once) (λ s m. owner s (held_in_lem ws n (cell_count n) s m))).short,
      )
    where
      owner : (s : ℕ) → (c : ℕ) × (c < cell_count n) × (s < n) × (cell_at ws n c ≡ s + 1) → Memᴰ s live
      owner s (c, h, l, a) = ix.owned c s h l a

  pub count_indexes : ((s : ℕ) → Memᴰ s live → (c : ℕ) × (probe ws n (key_at ws s) ≡ At c s)) → length (held_in ws n (cell_count n)) ≡ length live → IndexOf ws n live
  count_indexes found e = record {
    small = λ s m. (o s m).small;
    reach = λ s m. (o s m).way;
    owned = λ c s h l a. all.none_more (omega arith) s (in_held ws n (cell_count n) c s h l a);
    once = distinct_once ws n (cell_count n) (all.none_twice (omega arith));
    apart = λ r s m i q. same r s q (found r m) (found s i);
  }
    where
      all : Covered live (held_in ws n (cell_count n))
      all = found_held found

      o : (s : ℕ) (m : Memᴰ s live) → Found ws n (key_at ws s) (cell_count n) (home_of n (key_at ws s)) (found s m).0 s
      o s m = at_found ws n (key_at ws s) (found s m).0 s (found s m).1

      same : (r s : ℕ) → key_at ws r ≡ key_at ws s → (c : ℕ) × (probe ws n (key_at ws r) ≡ At c r) → (c : ℕ) × (probe ws n (key_at ws s) ≡ At c s) → r ≡ s
      same r s q (c, a) (b, z) = cc
