-- A list of slots read as a list of records. Where no two slots share a key, a slot and its key name the same record, so
-- that what is done to slots is done to records.
use mathlib.Core.Path.{◌≡◌, refl, sym, ap, ◌∙◌}
use mathlib.Core.Bool.{Bool, true, false}
use mathlib.Core.Logic.{⊎_elim}
use mathlib.Core.List.{List, [], ◌∷◌, map, Memᴰ}
use mathlib.Core.List.Memᴰ.{cases_cons}
use mathlib.Core.List.Memᴰ.{head}
use mathlib.Core.List.Memᴰ.{not-nil}
use mathlib.Core.List.Memᴰ.{tail}
use Prim.Native.Nat.{ℕ, zero, suc, ◌<◌, ◌≤◌}
use native.Mathlib.Nat.{not-suc-le-zero, le_of_suc-le-suc}
use native.Mathlib.Omega.{arith}
use lib.Dec.{eqb}
use lib.ListN.{length, get_or}
use borrow.Author.Tests.{eq-eqb, ne_eqb, eqb-true, eqb-false}
use Rattle.std.specs.Prelude.{Some, None}
use Rattle.cells.specs.Cells.{key_at}
use Rattle.rings.specs.Ring as ring
use Rattle.rings.proofs.Counts.{count_of_mem, bit_eq}
use Rattle.linked_hash_map.specs.declared.map.Record.{Record}
use Rattle.linked_hash_map.specs.Words.{record_at}
use Rattle.linked_hash_map.specs.Model.{Model, has, lookup, nth, without, with_payload, Distinct}
use Rattle.linked_hash_map.specs.Map.{slot_in}

-- the records at the slots of a list
abbrev pub records : List ℕ → List ℕ → Model
records ws l = map (record_at ws) l

-- no two slots of a list share a key
abbrev pub Apart : List ℕ → List ℕ → Type 0
Apart ws l = (r s : ℕ) → Memᴰ r l → Memᴰ s l → key_at ws r ≡ key_at ws s → r ≡ s

-- what a search for a key among the slots of a list says of the records
pub data Search (ws : List ℕ) (k : ℕ) (l : List ℕ) : Type 0 where
  found : (s : ℕ) → Memᴰ s l → key_at ws s ≡ k → slot_in ws k l ≡ Some s → lookup k (records ws l) ≡ Some (record_at ws s) → has k (records ws l) ≡ true → Search ws k l
  missing : ((s : ℕ) → Memᴰ s l → key_at ws s ≡ k → ⊥) → slot_in ws k l ≡ None → lookup k (records ws l) ≡ None → has k (records ws l) ≡ false → Search ws k l

pub search_key : (ws : List ℕ) (k : ℕ) (l : List ℕ) → Search ws k l
unfolding slot_in lookup has
search_key ws k [] = missing (λ s q e. not-nil q) refl refl refl
search_key ws k (x ∷ l) = go (eqb (key_at ws x) k) refl (search_key ws k l)
  where
    go : (b : Bool) → eqb (key_at ws x) k ≡ b → Search ws k l → Search ws k (x ∷ l)
    go true e rest = found x (head refl) (eqb-true _ _ e) (rw e) (rw e) (rw e)
    go false e (found s q d a b c) = found s (tail q) d (rw e a) (rw e b) (rw e c)
    go false e (missing none a b c) =
        missing
        (λ s q d. ⊎_elim (λ h. eqb-false _ _ e (ap (key_at ws) (sym h) ∙ d)) (λ t. none s t d) (cases_cons q))
        (rw e a)
        (rw e b)
        (rw e c)

-- the records without slot s are those without its key
pub without_records : (ws : List ℕ) (s : ℕ) (l : List ℕ) → ((x : ℕ) → Memᴰ x l → key_at ws x ≡ key_at ws s → x ≡ s) → records ws (ring.without s l) ≡ without (key_at ws s) (records ws l)
unfolding ring.without without
without_records ws s [] only = refl
without_records ws s (x ∷ l) only = go (eqb x s) refl (without_records ws s l (λ y q. only y (tail q)))
  where
    go : (b : Bool) → eqb x s ≡ b → records ws (ring.without s l) ≡ without (key_at ws s) (records ws l) → records ws (ring.without s (x ∷ l)) ≡ without (key_at ws s) (records ws (x ∷ l))
    go true e ih = rw (e, eq-eqb (key_at ws x) (key_at ws s) (ap (key_at ws) (eqb-true _ _ e))) ih
    go false e ih =
        rw (e, ne_eqb (key_at ws x) (key_at ws s) (λ d. eqb-false _ _ e (only x (head refl) d)))
        (ap (λ (m : Model). record_at ws x ∷ m) ih)

-- a key that is missing is taken out for nothing
pub without_missing : (ws : List ℕ) (k : ℕ) (l : List ℕ) → ((x : ℕ) → Memᴰ x l → key_at ws x ≡ k → ⊥) → without k (records ws l) ≡ records ws l
unfolding without
without_missing ws k [] none = refl
without_missing ws k (x ∷ l) none =
    rw (ne_eqb (key_at ws x) k (none x (head refl)))
    (ap (λ (m : Model). record_at ws x ∷ m) (without_missing ws k l (λ y q. none y (tail q))))

-- words that agree on the records of a list
pub records_same : (ws ws' l : List ℕ) → ((s : ℕ) → Memᴰ s l → record_at ws' s ≡ record_at ws s) → records ws' l ≡ records ws l
records_same ws ws' [] same = refl
records_same ws ws' (x ∷ l) same =
    let e : record_at ws' x ≡ record_at ws x = same x (head refl) in
    let ih : records ws' l ≡ records ws l = records_same ws ws' l (λ s q. same s (tail q)) in
    cc

-- words that agree on all records of a list but that at slot s, where x stands
pub records_written : (ws ws' : List ℕ) (s : ℕ) (x : Record) (l : List ℕ) → ((y : ℕ) → Memᴰ y l → key_at ws y ≡ key_at ws s → y ≡ s) → record_at ws' s ≡ x → x.key ≡ key_at ws s → ((y : ℕ) → (y ≡ s → ⊥) → record_at ws' y ≡ record_at ws y) → records ws' l ≡ with_payload x (records ws l)
unfolding with_payload
records_written ws ws' s x [] only at key same = refl
records_written ws ws' s x (y ∷ l) only at key same = go (eqb (key_at ws y) x.key) refl (records_written ws ws' s x l (λ z q. only z (tail q)) at key same)
  where
    go : (b : Bool) → eqb (key_at ws y) x.key ≡ b → records ws' l ≡ with_payload x (records ws l) → records ws' (y ∷ l) ≡ with_payload x (records ws (y ∷ l))
    go true e ih =
        let is : y ≡ s = only y (head refl) (eqb-true _ _ e ∙ key) in
        let here : record_at ws' y ≡ x = ap (record_at ws') is ∙ at in
        rw e (cc)
    go false e ih =
        let here : record_at ws' y ≡ record_at ws y = same y (λ is. eqb-false _ _ e (ap (key_at ws) is ∙ sym key)) in
        rw e (cc)

-- a key that is missing is written nowhere
pub payload_missing : (ws : List ℕ) (x : Record) (l : List ℕ) → ((y : ℕ) → Memᴰ y l → key_at ws y ≡ x.key → ⊥) → with_payload x (records ws l) ≡ records ws l
unfolding with_payload
payload_missing ws x [] none = refl
payload_missing ws x (y ∷ l) none =
    rw (ne_eqb (key_at ws y) x.key (none y (head refl)))
    (ap (λ (m : Model). record_at ws y ∷ m) (payload_missing ws x l (λ z q. none z (tail q))))

-- slots with different keys are records with different keys
pub records_distinct : (ws l : List ℕ) → ((x : ℕ) → ring.count x l ≤ 1) → Apart ws l → Distinct (records ws l)
records_distinct ws [] once apart = tt
records_distinct ws (x ∷ l) once apart =
    (new (search_key ws (key_at ws x) l), records_distinct ws l (λ y. omega (arith, once y)) (λ r s p q. apart r s (tail p) (tail q)))
  where
    new : Search ws (key_at ws x) l → has (key_at ws x) (records ws l) ≡ false
    new (missing none a b c) = c
    new (found s q d a b c) =
        let is : s ≡ x = apart s x (tail q) (head refl) d in
        absurd (omega (arith, once s, count_of_mem q, bit_eq x s (sym is)))

-- the record at a place of the list
pub record_at_lem : (ws l : List ℕ) (i d : ℕ) → i < length l → nth i (records ws l) ≡ Some (record_at ws (get_or l i d))
unfolding nth
record_at_lem ws [] i d h = absurd (not-suc-le-zero h)
record_at_lem ws (x ∷ l) zero d h = refl
record_at_lem ws (x ∷ l) (suc i) d h = record_at_lem ws l i d (le_of_suc-le-suc h)

pub mem_at : (l : List ℕ) (i d : ℕ) → i < length l → Memᴰ (get_or l i d) l
mem_at [] i d h = absurd (not-suc-le-zero h)
mem_at (x ∷ l) zero d h = head refl
mem_at (x ∷ l) (suc i) d h = tail (mem_at l i d (le_of_suc-le-suc h))
