-- Lists of held keys: what taking a key out keeps, and which entries are theirs.
use mathlib.Core.Path.{◌≡◌, refl, sym, ap, ◌∙◌}
use mathlib.Core.Bool.{Bool, true, false, true≢false, cond, ◌&&◌, ◌||◌}
use mathlib.Core.Logic.{⊎_elim, ◌≢◌}
use mathlib.Core.List.{List, [], ◌∷◌, Memᴰ}
use mathlib.Core.List.Memᴰ.{cases_cons}
use mathlib.Core.List.Memᴰ.{head}
use mathlib.Core.List.Memᴰ.{not-nil}
use mathlib.Core.List.Memᴰ.{tail}
use Prim.Native.Nat.{ℕ, ◌<◌, ◌≤◌}
use native.Mathlib.Omega.{arith}
use lib.Dec.{eqb}
use lib.ListN.{length}
use borrow.Author.Tests.{eq-eqb, ne_eqb, eqb-true, eqb-false}
use Rattle.std.specs.Prelude.{Option, None, Some}
use Rattle.binary_heap.specs.declared.entries.Entry.{Entry}
use Rattle.linked_hash_map.specs.declared.map.Record.{Record}
use Rattle.linked_hash_map.specs.Model.{has, lookup, without, Distinct}
use Rattle.lazy_heap_model.specs.Model.{entry_of, matches, live}
use Rattle.lazy_heap.specs.Valid.{Falling}

-- ---- membership and keys
pub missing_key : (k : ℕ) (held : List Record) → has k held ≡ false → (r : Record) → Memᴰ r held → r.key ≡ k → ⊥
unfolding has
missing_key k [] e r q d = not-nil q
missing_key k (x ∷ held) e r q d = go (eqb x.key k) refl e (λ f u. missing_key k held f r u d)
  where
    go : (b : Bool) → eqb x.key k ≡ b → (b || has k held) ≡ false → (has k held ≡ false → Memᴰ r held → ⊥) → ⊥
    go true t f ih = true≢false f
    go false t f ih = ⊎_elim (λ h. eqb-false _ _ t (ap (λ (y : Record). y.key) (sym h) ∙ d)) (ih f) (cases_cons q)

module _ (k : ℕ) where
  pub mem_without : (held : List Record) (r : Record) → Memᴰ r (without k held) → Memᴰ r held × (r.key ≢ k)
  unfolding without
  mem_without [] r q = absurd (not-nil q)
  mem_without (x ∷ held) r q = go (eqb x.key k) refl q (mem_without held r)
    where
      go : (b : Bool) → eqb x.key k ≡ b → Memᴰ r (cond b (without k held) (x ∷ without k held)) → (Memᴰ r (without k held) → Memᴰ r held × (r.key ≢ k)) → Memᴰ r (x ∷ held) × (r.key ≢ k)
      go true t u ih = let o = ih u in (tail o.0, o.1)
      go false t u ih =
          ⊎_elim
          (λ h. (head h, λ d. eqb-false _ _ t (ap (λ (y : Record). y.key) (sym h) ∙ d)))
          (λ v. let o = ih v in (tail o.0, o.1))
          (cases_cons u)

  pub length_without_le : (held : List Record) → length (without k held) ≤ length held
  unfolding without
  length_without_le [] = omega arith
  length_without_le (x ∷ held) = go (eqb x.key k) (length_without_le held)
    where
      go : (b : Bool) → length (without k held) ≤ length held → length (cond b (without k held) (x ∷ without k held)) ≤ length (x ∷ held)
      go true ih = omega arith
      go false ih = omega arith

  has_without : (j : ℕ) (held : List Record) → has j held ≡ false → has j (without k held) ≡ false
  unfolding has without
  has_without j [] e = refl
  has_without j (x ∷ held) e = go (eqb x.key k) refl (eqb x.key j) refl e (has_without j held)
    where
      go : (b : Bool) → eqb x.key k ≡ b → (c : Bool) → eqb x.key j ≡ c → (c || has j held) ≡ false → (has j held ≡ false → has j (without k held) ≡ false) → has j (cond b (without k held) (x ∷ without k held)) ≡ false
      go true t true u f ih = absurd (true≢false f)
      go true t false u f ih = ih f
      go false t true u f ih = absurd (true≢false f)
      go false t false u f ih = rw u (ih f)

  pub missing_without : (held : List Record) → has k (without k held) ≡ false
  unfolding has without
  missing_without [] = refl
  missing_without (x ∷ held) = go (eqb x.key k) refl (missing_without held)
    where
      go : (b : Bool) → eqb x.key k ≡ b → has k (without k held) ≡ false → has k (cond b (without k held) (x ∷ without k held)) ≡ false
      go true t ih = ih
      go false t ih = rw t ih

  pub distinct_without : (held : List Record) → Distinct held → Distinct (without k held)
  unfolding without
  distinct_without [] d = tt
  distinct_without (x ∷ held) d = go (eqb x.key k) (distinct_without held d.1)
    where
      go : (b : Bool) → Distinct (without k held) → Distinct (cond b (without k held) (x ∷ without k held))
      go true ih = ih
      go false ih = (has_without x.key held d.0, ih)

-- ---- sequence numbers
pub falling_more : (a b : ℕ) (held : List Record) → a ≤ b → Falling a held → Falling b held
falling_more a b [] h f = tt
falling_more a b (x ∷ held) h f = (omega (arith, f.0), f.1)

pub falling_without : (k b : ℕ) (held : List Record) → Falling b held → Falling b (without k held)
unfolding without
falling_without k b [] f = tt
falling_without k b (x ∷ held) f = go (eqb x.key k) (falling_without k x.second held f.1)
  where
    go : (t : Bool) → Falling x.second (without k held) → Falling b (cond t (without k held) (x ∷ without k held))
    go true ih = falling_more x.second b (without k held) (omega (arith, f.0)) ih
    go false ih = (f.0, ih)

pub falling_below : (b : ℕ) (held : List Record) → Falling b held → (r : Record) → Memᴰ r held → r.second < b
falling_below b [] f r q = absurd (not-nil q)
falling_below b (x ∷ held) f r q =
    ⊎_elim
    (λ h. let e : r.second ≡ x.second = ap (λ (y : Record). y.second) h in omega (arith, f.0))
    (λ t. let u = falling_below x.second held f.1 r t in omega (arith, f.0))
    (cases_cons q)

-- ---- a key's record, and its entry
pub lookup_mem : (held : List Record) → Distinct held → (r : Record) → Memᴰ r held → lookup r.key held ≡ Some r
unfolding lookup
lookup_mem [] d r q = absurd (not-nil q)
lookup_mem (x ∷ held) d r q = ⊎_elim here (λ t. there t (lookup_mem held d.1 r t)) (cases_cons q)
  where
    here : r ≡ x → lookup r.key (x ∷ held) ≡ Some r
    here h = rw (eq-eqb x.key r.key (ap (λ (y : Record). y.key) (sym h))) (ap Some (sym h))

    there : Memᴰ r held → lookup r.key held ≡ Some r → lookup r.key (x ∷ held) ≡ Some r
    there t ih = rw (ne_eqb x.key r.key (λ e. missing_key x.key held d.0 r t (sym e))) ih

-- a held key's entry is live
pub held_live : (held : List Record) → Distinct held → (r : Record) → Memᴰ r held → live held (entry_of r) ≡ true
unfolding live
held_live held d r q = rw (lookup_mem held d r q, eq-eqb r.first r.first refl, eq-eqb r.second r.second refl)

both : (a b : Bool) → (a && b) ≡ true → (a ≡ true) × (b ≡ true)
both true b e = (refl, e)
both false b e = absurd (true≢false (sym e))

pub lookup_found : (k : ℕ) (held : List Record) (r : Record) → lookup k held ≡ Some r → Memᴰ r held × (r.key ≡ k)
unfolding lookup
lookup_found k [] r e = cc
lookup_found k (x ∷ held) r e = go (eqb x.key k) refl e (lookup_found k held r)
  where
    go : (b : Bool) → eqb x.key k ≡ b → cond b (Some x) (lookup k held) ≡ Some r → (lookup k held ≡ Some r → Memᴰ r held × (r.key ≡ k)) → Memᴰ r (x ∷ held) × (r.key ≡ k)
    go true t q ih = let same : x ≡ r = cc in (head (sym same), ap (λ (y : Record). y.key) (sym same) ∙ eqb-true _ _ t)
    go false t q ih = let o = ih q in (tail o.0, o.1)

abbrev of : ℕ → ℕ → ℕ → Entry
of s n k = record { score = s; seq = n; key = k }

same_entry : {s s' n n' k k' : ℕ} → s ≡ s' → n ≡ n' → k ≡ k' → of s n k ≡ of s' n' k'
same_entry p q r = cc

-- and a live entry is a held key's
pub live_held : (held : List Record) (e : Entry) → live held e ≡ true → (r : Record) × (Memᴰ r held × (entry_of r ≡ e))
unfolding live
live_held held e l = go (lookup e.key held) refl l
  where
    go : (t : Option Record) → lookup e.key held ≡ t → matches t e ≡ true → (r : Record) × (Memᴰ r held × (entry_of r ≡ e))
    go (Some r) q m =
        let o = lookup_found e.key held r q in
        let b = both (eqb r.first e.score) (eqb r.second e.seq) m in
        let s : r.first ≡ e.score = eqb-true _ _ b.0 in
        let n : r.second ≡ e.seq = eqb-true _ _ b.1 in
        let k : r.key ≡ e.key = o.1 in
        (r, (o.0, same_entry s n k))
    go None q m = absurd (true≢false (sym m))
