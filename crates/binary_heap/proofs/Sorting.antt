-- Insertion and sorting. A sorted list is settled by how often each entry is in it: its first entry is the least one, and
-- so on. So lists that hold the same entries, each as often, have the same sorted list.
use mathlib.Core.Path.{◌≡◌, refl, sym, ap, ◌∙◌}
use mathlib.Core.Bool.{Bool, true, false, true≢false}
use mathlib.Core.Logic.{◌⊎◌, inl, inr, ⊎_elim}
use mathlib.Core.List.{List, [], ◌∷◌, Memᴰ}
use mathlib.Core.List.Memᴰ.{cases_cons}
use mathlib.Core.List.Memᴰ.{head}
use mathlib.Core.List.Memᴰ.{not-nil}
use Prim.Native.Nat.{ℕ, ◌+◌}
use native.Mathlib.Omega.{arith}
use lib.ListN.{length}
use Rattle.binary_heap.specs.declared.entries.Entry.{Entry}
use Rattle.binary_heap.specs.Order.{le, insert, sort, Sorted, is, count, is_at_most, at_most}
use Rattle.binary_heap.proofs.Order.{le_same, le_then, le_total, le_both, le_at}
use Rattle.binary_heap.proofs.Counts.{Is, same, other, which, is_same, mem_count, count_mem}

-- where an entry goes in
module _ (x y : Entry) (l : List Entry) where
  insert_here : le x y ≡ true → insert x (y ∷ l) ≡ x ∷ y ∷ l
  unfolding insert
  insert_here h = rw h

  insert_later : le x y ≡ false → insert x (y ∷ l) ≡ y ∷ insert x l
  unfolding insert
  insert_later h = rw h

pub insert_length : (x : Entry) (l : List Entry) → length (insert x l) ≡ length l + 1
unfolding insert
insert_length x [] = refl
insert_length x (y ∷ l) = go (le x y) refl (insert_length x l)
  where
    go : (b : Bool) → le x y ≡ b → length (insert x l) ≡ length l + 1 → length (insert x (y ∷ l)) ≡ length (y ∷ l) + 1
    go true h ih = omega (arith, ap length (insert_here x y l h))
    go false h ih = omega (arith, ap length (insert_later x y l h))

pub insert_count : (e x : Entry) (l : List Entry) → count e (insert x l) ≡ is e x + count e l
unfolding insert count
insert_count e x [] = refl
insert_count e x (y ∷ l) = go (le x y) refl (insert_count e x l)
  where
    go : (b : Bool) → le x y ≡ b → count e (insert x l) ≡ is e x + count e l → count e (insert x (y ∷ l)) ≡ is e x + count e (y ∷ l)
    go true h ih = ap (count e) (insert_here x y l h)
    go false h ih = ap (count e) (insert_later x y l h) ∙ omega arith

pub insert_at_most : (s : ℕ) (x : Entry) (l : List Entry) → at_most s (insert x l) ≡ is_at_most s x + at_most s l
unfolding insert at_most
insert_at_most s x [] = refl
insert_at_most s x (y ∷ l) = go (le x y) refl (insert_at_most s x l)
  where
    go : (b : Bool) → le x y ≡ b → at_most s (insert x l) ≡ is_at_most s x + at_most s l → at_most s (insert x (y ∷ l)) ≡ is_at_most s x + at_most s (y ∷ l)
    go true h ih = ap (at_most s) (insert_here x y l h)
    go false h ih = ap (at_most s) (insert_later x y l h) ∙ omega arith

module _ (e x : Entry) (l : List Entry) where
  pub insert_cases : Memᴰ e (insert x l) → (e ≡ x) ⊎ Memᴰ e l
  insert_cases m = go (which e x)
    where
      go : Is e x → (e ≡ x) ⊎ Memᴰ e l
      go (same q _) = inl q
      go (other _ z) = inr (count_mem e l (omega (arith, mem_count e (insert x l) m, insert_count e x l)))

  pub insert_new : e ≡ x → Memᴰ e (insert x l)
  insert_new q = count_mem e (insert x l) (omega (arith, insert_count e x l, is_same q))

  pub insert_old : Memᴰ e l → Memᴰ e (insert x l)
  insert_old m = count_mem e (insert x l) (omega (arith, insert_count e x l, mem_count e l m))

-- before entries that are none before it
pub insert_least : (x : Entry) (l : List Entry) → ((e : Entry) → Memᴰ e l → le x e ≡ true) → insert x l ≡ x ∷ l
unfolding insert
insert_least x [] h = refl
insert_least x (y ∷ l) h = insert_here x y l (h y (head refl))

pub insert_sorted : (x : Entry) (l : List Entry) → Sorted l → Sorted (insert x l)
unfolding insert Sorted
insert_sorted x [] s = (λ e m. absurd (not-nil m), tt)
insert_sorted x (y ∷ l) s = go (le x y) refl (insert_sorted x l s.1)
  where
    go : (b : Bool) → le x y ≡ b → Sorted (insert x l) → Sorted (insert x (y ∷ l))
    go true h ih = rw (insert_here x y l h) (λ e m. ⊎_elim (λ q. le_at refl q h) (λ t. le_then x y e h (s.0 e t)) (cases_cons m), s)
    go false h ih = rw (insert_later x y l h) (λ e m. ⊎_elim (λ q. le_at refl q (le_total x y h)) (λ t. s.0 e t) (insert_cases e x l m), ih)

-- two insertions, in either order
module _ (a b : Entry) where
  front : (l : List Entry) → insert a l ≡ a ∷ l → insert b l ≡ b ∷ l → insert a (b ∷ l) ≡ insert b (a ∷ l)
  front l p q = go (le a b) refl (le b a) refl
    where
      go : (s : Bool) → le a b ≡ s → (t : Bool) → le b a ≡ t → insert a (b ∷ l) ≡ insert b (a ∷ l)
      go true g true h = ap (λ (x : Entry). insert a (x ∷ l)) (sym (le_both a b g h)) ∙ ap (λ (x : Entry). insert x (a ∷ l)) (le_both a b g h)
      go true g false h = insert_here a b l g ∙ sym (insert_later b a l h ∙ ap (λ (m : List Entry). a ∷ m) q)
      go false g true h = insert_later a b l g ∙ ap (λ (m : List Entry). b ∷ m) p ∙ sym (insert_here b a l h)
      go false g false h = absurd (true≢false (sym (le_total a b g) ∙ h))

  -- a stands before x and b after it
  apart : (x : Entry) (l : List Entry) → le a x ≡ true → le b x ≡ false → insert a (insert b (x ∷ l)) ≡ insert b (insert a (x ∷ l))
  apart x l g h = go (le b a) refl
    where
      go : (t : Bool) → le b a ≡ t → insert a (insert b (x ∷ l)) ≡ insert b (insert a (x ∷ l))
      go true q = absurd (true≢false (sym (le_then b a x q g) ∙ h))
      go false q =
          ap (insert a) (insert_later b x l h) ∙ insert_here a x (insert b l) g ∙ ap (λ (m : List Entry). a ∷ m) (sym (insert_later b x l h))
          ∙ sym (ap (insert b) (insert_here a x l g) ∙ insert_later b a (x ∷ l) q)

pub insert_swap : (a b : Entry) (l : List Entry) → insert a (insert b l) ≡ insert b (insert a l)
unfolding insert
insert_swap a b [] = front a b [] refl refl
insert_swap a b (x ∷ l) = go (le a x) refl (le b x) refl (insert_swap a b l)
  where
    go : (s : Bool) → le a x ≡ s → (t : Bool) → le b x ≡ t → insert a (insert b l) ≡ insert b (insert a l) → insert a (insert b (x ∷ l)) ≡ insert b (insert a (x ∷ l))
    go true g true h ih =
        ap (insert a) (insert_here b x l h) ∙ front a b (x ∷ l) (insert_here a x l g) (insert_here b x l h) ∙ ap (insert b) (sym (insert_here a x l g))
    go true g false h ih = apart a b x l g h
    go false g true h ih = sym (apart b a x l h g)
    go false g false h ih =
        ap (insert a) (insert_later b x l h) ∙ insert_later a x (insert b l) g ∙ ap (λ (m : List Entry). x ∷ m) ih
        ∙ sym (ap (insert b) (insert_later a x l g) ∙ insert_later b x (insert a l) h)

-- ---- sorting
pub sort_length : (l : List Entry) → length (sort l) ≡ length l
unfolding sort
sort_length [] = refl
sort_length (x ∷ l) = omega (arith, insert_length x (sort l), sort_length l)

pub sort_count : (e : Entry) (l : List Entry) → count e (sort l) ≡ count e l
unfolding sort count
sort_count e [] = refl
sort_count e (x ∷ l) = omega (arith, insert_count e x (sort l), sort_count e l)

pub sort_at_most : (s : ℕ) (l : List Entry) → at_most s (sort l) ≡ at_most s l
unfolding sort at_most
sort_at_most s [] = refl
sort_at_most s (x ∷ l) = omega (arith, insert_at_most s x (sort l), sort_at_most s l)

pub sort_sorted : (l : List Entry) → Sorted (sort l)
unfolding sort Sorted
sort_sorted [] = tt
sort_sorted (x ∷ l) = insert_sorted x (sort l) (sort_sorted l)

module _ (e : Entry) (l : List Entry) where
  pub sort_mem : Memᴰ e (sort l) → Memᴰ e l
  sort_mem m = count_mem e l (omega (arith, mem_count e (sort l) m, sort_count e l))

  pub mem_sort : Memᴰ e l → Memᴰ e (sort l)
  mem_sort m = count_mem e (sort l) (omega (arith, mem_count e l m, sort_count e l))

-- ---- one sorted list
pub head_le : {x e : Entry} {l : List Entry} → Sorted (x ∷ l) → Memᴰ e (x ∷ l) → le x e ≡ true
unfolding Sorted
head_le {x} s m = ⊎_elim (λ q. le_at refl q (le_same x)) (λ t. s.0 _ t) (cases_cons m)

pub sorted_same : (l m : List Entry) → Sorted l → Sorted m → ((e : Entry) → count e l ≡ count e m) → l ≡ m
unfolding Sorted count
sorted_same [] [] s t h = refl
sorted_same [] (y ∷ m) s t h = absurd (omega (arith, h y, is_same {e = y} refl))
sorted_same (x ∷ l) [] s t h = absurd (omega (arith, h x, is_same {e = x} refl))
sorted_same (x ∷ l) (y ∷ m) s t h = cc (first, sorted_same l m s.1 t.1 (λ e. omega (arith, h e, ap (is e) first)))
  where
    first : x ≡ y
    first =
        le_both x y
        (head_le {l = l} s (count_mem y (x ∷ l) (omega (arith, h y, is_same {e = y} refl))))
        (head_le {l = m} t (count_mem x (y ∷ m) (omega (arith, h x, is_same {e = x} refl))))

pub sort_same : (l m : List Entry) → ((e : Entry) → count e l ≡ count e m) → sort l ≡ sort m
sort_same l m h = sorted_same (sort l) (sort m) (sort_sorted l) (sort_sorted m) (λ e. sort_count e l ∙ h e ∙ sym (sort_count e m))
