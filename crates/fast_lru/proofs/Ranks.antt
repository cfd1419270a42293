-- `recency_rank`: what the two walks have passed is other keys'.
use mathlib.Core.Path.{◌≡◌, refl, sym, ap, ◌∙◌}
use mathlib.Core.List.{List, [], ◌∷◌}
use Prim.Native.Nat.{ℕ, zero, suc, ◌+◌, ◌-◌, ◌<◌, ◌≤◌}
use native.Mathlib.Omega.{arith}
use lib.ListN.{length}
use Rattle.std.specs.Prelude.{Option, Some, None, Result, is_some, slice_get}
use Rattle.linked_hash_map.specs.declared.map.Record.{Record}
use Rattle.linked_hash_map.specs.declared.map.Unfit.{Unfit}
use Rattle.linked_hash_map.specs.Model as held
use Rattle.linked_hash_map.specs.Map.{IsMap, slot_of, slot_at}
use Rattle.linked_hash_map.specs.Map as map
use Rattle.linked_hash_map.specs.Calls as calls
use Rattle.linked_hash_map.proofs.Laws as laws
use Rattle.linked_hash_map.proofs.Putting.{model_length as map-length}
use Rattle.fast_lru.specs.declared.lru.FastLru.{FastLru}
use Rattle.fast_lru_model.specs.Model.{Item, has, rank_of}
use Rattle.fast_lru.specs.Lru.{item_of, model_of}
use Rattle.fast_lru.specs.Steps.{RankBetween, RankOf}
use Rattle.fast_lru.proofs.Lists.{Within, nth_has, rank_there, rank_nowhere}
use Rattle.fast_lru.proofs.Slots.{slot_in, model_length, model_distinct, place_item, place_past, has_slot}

-- the walks stand at the i-th item and at the one before the j-th, and the key's can only be between
pub record Walks (ws : List ℕ) (l : FastLru) (k s t i j : ℕ) : Type 0 where
  pub front : slot_at ws l.map i ≡ Some s
  pub back : (p : ℕ) → p + 1 ≡ j → slot_at ws l.map p ≡ Some t
  pub between : Within k (model_of ws l) (λ p. (i ≤ p) × (p < j))

-- a place below the length has a record
record_there : (i : ℕ) (m : held.Model) → i < length m → (r : Record) × (held.nth i m ≡ Some r)
unfolding held.nth
record_there i [] h = absurd (omega arith)
record_there zero (r ∷ m) h = (r, refl)
record_there (suc i) (r ∷ m) h = record_there i m (omega arith)

module _ (ws : List ℕ) (l : FastLru) (k : ℕ) where
  rank_none : Within k (model_of ws l) (λ p. ⊥) → None ≡ rank_of k (model_of ws l)
  unfolding rank_of
  rank_none bare = sym (rank_nowhere 0 k (model_of ws l) bare)

  pub walks_begin : (s t j : ℕ) → j ≡ l.map.len → slot_at ws l.map 0 ≡ Some s → slot_at ws l.map (l.map.len - 1) ≡ Some t → Walks ws l k s t 0 j
  walks_begin s t j r e f = record {
    front = e;
    back = λ p q. let last : p ≡ l.map.len - 1 = omega arith in rw last f;
    between = λ p x b n m. omega (arith, model_length ws l);
  }

  pub walks_met : (s t i j : ℕ) → Walks ws l k s t i j → j ≤ i → None ≡ rank_of k (model_of ws l)
  walks_met s t i j w h = rank_none (λ p x b n m. omega (arith, w.between p x b n m))

  -- with the slot of the key
  module _ (is : IsMap ws l.map) (x : ℕ) (found : slot_of ws l.map k ≡ Some x) where
    -- the place of a slot is the rank of the key there, and of no other
    module _ (s p : ℕ) (at : slot_at ws l.map p ≡ Some s) where
      there : (r : Record) × (held.nth p (map.model_of ws l.map) ≡ Some r)
      there = record_there p (map.model_of ws l.map) (omega (arith, map-length ws l.map, laws.place_below ws l.map p s at))

      item : slice_get (model_of ws l) p ≡ Some (item_of there.0)
      item = place_item ws l p (Some there.0) there.1

      keyed : slot_of ws l.map there.0.key ≡ Some s
      keyed = laws.place_key is p s there.0 at there.1

      pub rank_found : s ≡ x → Some p ≡ rank_of k (model_of ws l)
      unfolding rank_of
      rank_found e = sym (rank_there 0 p k p (model_of ws l) (item_of there.0) (omega arith) (model_distinct ws l is) item (laws.slot_key ws l.map there.0.key k s keyed (found ∙ ap Some (sym e))))

      elsewhere : (s ≡ x → ⊥) → Within k (model_of ws l) (λ q. q ≡ p → ⊥)
      elsewhere ne q y b e m z =
          let same : Some (item_of there.0) ≡ Some y = sym item ∙ ap (λ (n : ℕ). slice_get (model_of ws l) n) (sym z) ∙ e in
          let one : item_of there.0 ≡ y = cc in
          let key : there.0.key ≡ k = ap (λ (y : Item). y.key) one ∙ m in
          let slots : Some s ≡ Some x = sym keyed ∙ ap (slot_of ws l.map) key ∙ found in
          ne cc

    -- a turn in which neither slot is the key's
    module _ (s t i j : ℕ) (w : Walks ws l k s t i j) (apart : i < j) (na : s ≡ x → ⊥) (nb : t ≡ x → ⊥) where
      last : slot_at ws l.map (j - 1) ≡ Some t
      last = w.back (j - 1) (omega arith)

      inside : Within k (model_of ws l) (λ p. (i < p) × (p < j - 1))
      inside p y h n m =
          let f : p ≡ i → ⊥ = elsewhere s i w.front na p y h n m in
          let g : p ≡ j - 1 → ⊥ = elsewhere t (j - 1) last nb p y h n m in
          omega (arith, w.between p y h n m)

      module _ (u : Result (Option ℕ) Unfit) (next : calls.Next ws l.map s u) where
        after : slot_at ws l.map (i + 1) ≡ slot_in u
        after = sym (ap slot_in (next.answer is i w.front))

        pub front_end : slot_in u ≡ None → None ≡ rank_of k (model_of ws l)
        front_end e = rank_none (λ p y h n m. omega (arith, inside p y h n m, model_length ws l, place_past ws l (i + 1) (after ∙ e)))

        module _ (z : Result (Option ℕ) Unfit) (previous : calls.Previous ws l.map t z) where
          before : (p : ℕ) → p + 1 ≡ j - 1 → slot_at ws l.map p ≡ slot_in z
          before p q = sym (ap slot_in (previous.answer is p (rw q last)))

          pub back_end : slot_in z ≡ None → None ≡ rank_of k (model_of ws l)
          back_end e = rank_none (λ p y h n m.
              let r : (i < p) × (p < j - 1) = inside p y h n m in
              omega (arith, laws.place_below ws l.map (j - 1) t last, place_past ws l (j - 2) (before (j - 2) (omega arith) ∙ e)))

          pub walks_on : (a b n : ℕ) → n + 1 ≡ j → slot_in u ≡ Some a → slot_in z ≡ Some b → Walks ws l k a b (i + 1) n
          walks_on a b n d e f = record { front = after ∙ e; back = λ p q. before p (omega arith) ∙ f; between = λ p y h m o. omega (arith, inside p y h m o) }

  -- a missing key has no rank, and is not walked for
  pub rank_missing : (x : Result (Option ℕ) Unfit) → calls.Finding ws l.map k x → slot_in x ≡ None → RankOf ws l k None
  rank_missing x f e = record {
    answer = λ is. rank_none (λ p y b n m. cc (nth_has p (model_of ws l) y n, ap (λ (j : ℕ). has j (model_of ws l)) m, has_slot ws l k, ap is_some (ap slot_in (f.answer is)), ap is_some e));
  }

  -- a list with no first item, or no last one, is empty
  pub rank_no_end : (x : Result (Option ℕ) Unfit) (p : ℕ) → p ≤ l.map.len - 1 → calls.Ending ws l.map p x → slot_in x ≡ None → RankOf ws l k None
  rank_no_end x p low end e = record { answer = λ is. rank_none (λ q y b n m. omega (arith, model_length ws l, place_past ws l p (sym (ap slot_in (end.answer is)) ∙ e))) }

-- the rank of whichever key has slot x
abbrev pub RankFrom : List ℕ → FastLru → ℕ → Option ℕ → Type 0
RankFrom ws l x r = IsMap ws l.map → (k : ℕ) → slot_of ws l.map k ≡ Some x → r ≡ rank_of k (model_of ws l)

-- the rank from a key's slot is the key's
pub rank_from_lem : {ws : List ℕ} {l : FastLru} {k x : ℕ} {y : Result (Option ℕ) Unfit} {r : Option ℕ} → calls.Finding ws l.map k y → slot_in y ≡ Some x → RankFrom ws l x r → RankOf ws l k r
rank_from_lem f e b = record { answer = λ is. b is _ (sym (ap slot_in (f.answer is)) ∙ e) }

-- and that of the walks from the two ends
pub rank_ends : (ws : List ℕ) (l : FastLru) (k : ℕ) (y x z : Result (Option ℕ) Unfit) (q s t : ℕ) (r : Option ℕ) → calls.Finding ws l.map k y → calls.Ending ws l.map 0 x → calls.Ending ws l.map (l.map.len - 1) z → slot_in y ≡ Some q → slot_in x ≡ Some s → slot_in z ≡ Some t → RankBetween ws l q s t r → RankOf ws l k r
rank_ends ws l k y x z q s t r found first last d e f b = rank_from_lem found d (λ is j at. b.answer is j at (sym (ap slot_in (first.answer is)) ∙ e) (sym (ap slot_in (last.answer is)) ∙ f))
