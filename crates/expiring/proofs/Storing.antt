-- The numbers that are stored are read back, and no others change.
use mathlib.Core.Path.{◌≡◌, refl, sym, ap, ◌∙◌}
use mathlib.Core.List.{List, [], ◌∷◌, ◌++◌}
use Prim.Native.Nat.{ℕ, suc, ◌-◌, ◌≤◌}
use native.Mathlib.Omega.{arith}
use lib.ListN.{length, get_or, take, drop, length-set, length-append, length-drop, get_or-append}
use lib.Seq.{get_or-set_other, length-take-le, get_or-append_right, get_or-take, get_or-drop}
use Rattle.rings.proofs.Counts.{by_lt}
use Rattle.fast_lru.specs.declared.lru.FastLru.{FastLru}
use Rattle.lazy_heap.specs.declared.heap.LazyMinHeap.{LazyMinHeap}
use Rattle.lazy_heap.specs.Calls as heap
use Rattle.expiration_index.specs.declared.index.ExpirationIndex.{ExpirationIndex}
use Rattle.std.specs.Prelude.{Option, Some, None}
use Rattle.time.specs.declared.duration.TtlTicks.{TtlTicks}
use Rattle.expiring.specs.declared.expiring.Expiring.{Expiring}
use Rattle.expiring.specs.Numbers.{index_in, default_in, book_in, given_of, ticks_of, with_lru, with_deadlines, with_held, with_expiration, with_changed, with_book}
use Rattle.expiring.specs.Changes.{Stay}
use Rattle.expiring.specs.Steps.{with_list, with_index, with_expired}

-- ---- twelve numbers
pub data Twelve : List ℕ → Type 0 where
  twelve : {a b c d e f g h i j k l : ℕ} (ns : List ℕ) → Twelve (a ∷ b ∷ c ∷ d ∷ e ∷ f ∷ g ∷ h ∷ i ∷ j ∷ k ∷ l ∷ ns)

pub as_twelve : (ns : List ℕ) → 12 ≤ length ns → Twelve ns
as_twelve [] h = absurd (omega arith)
as_twelve (_ ∷ []) h = absurd (omega arith)
as_twelve (_ ∷ _ ∷ []) h = absurd (omega arith)
as_twelve (_ ∷ _ ∷ _ ∷ []) h = absurd (omega arith)
as_twelve (_ ∷ _ ∷ _ ∷ _ ∷ []) h = absurd (omega arith)
as_twelve (_ ∷ _ ∷ _ ∷ _ ∷ _ ∷ []) h = absurd (omega arith)
as_twelve (_ ∷ _ ∷ _ ∷ _ ∷ _ ∷ _ ∷ []) h = absurd (omega arith)
as_twelve (_ ∷ _ ∷ _ ∷ _ ∷ _ ∷ _ ∷ _ ∷ []) h = absurd (omega arith)
as_twelve (_ ∷ _ ∷ _ ∷ _ ∷ _ ∷ _ ∷ _ ∷ _ ∷ []) h = absurd (omega arith)
as_twelve (_ ∷ _ ∷ _ ∷ _ ∷ _ ∷ _ ∷ _ ∷ _ ∷ _ ∷ []) h = absurd (omega arith)
as_twelve (_ ∷ _ ∷ _ ∷ _ ∷ _ ∷ _ ∷ _ ∷ _ ∷ _ ∷ _ ∷ []) h = absurd (omega arith)
as_twelve (_ ∷ _ ∷ _ ∷ _ ∷ _ ∷ _ ∷ _ ∷ _ ∷ _ ∷ _ ∷ _ ∷ []) h = absurd (omega arith)
as_twelve (_ ∷ _ ∷ _ ∷ _ ∷ _ ∷ _ ∷ _ ∷ _ ∷ _ ∷ _ ∷ _ ∷ _ ∷ ns) h = twelve ns

-- ---- read back
pub lru_stored : (ns : List ℕ) (l : FastLru) → 12 ≤ length ns → l.map.capacity ≡ get_or ns 0 0 → book_in (with_lru ns l) ≡ with_list (book_in ns) l
unfolding with_lru
lru_stored ns l h c = go (as_twelve ns h) c
  where
    go : {ns : List ℕ} → Twelve ns → l.map.capacity ≡ get_or ns 0 0 → book_in (with_lru ns l) ≡ with_list (book_in ns) l
    go (twelve ns) c = rw (sym c) refl

pub deadlines_stored : (ns : List ℕ) (x : ExpirationIndex) → 12 ≤ length ns → x.heap.scores.capacity ≡ get_or ns 3 0 → book_in (with_deadlines ns x) ≡ with_index (book_in ns) x
unfolding with_deadlines
deadlines_stored ns x h c = go (as_twelve ns h) c
  where
    go : {ns : List ℕ} → Twelve ns → x.heap.scores.capacity ≡ get_or ns 3 0 → book_in (with_deadlines ns x) ≡ with_index (book_in ns) x
    go (twelve ns) c = rw (sym c) refl

-- an index that differs from the one that the numbers tell in the count of deadlines alone
pub held_stored : (ns : List ℕ) (x : ExpirationIndex) → 12 ≤ length ns → x.heap ≡ heap.with_held (index_in ns).heap x.heap.scores.len → book_in (with_held ns x) ≡ with_index (book_in ns) x
unfolding with_held
held_stored ns x h e = go (as_twelve ns h) e
  where
    go : {ns : List ℕ} → Twelve ns → x.heap ≡ heap.with_held (index_in ns).heap x.heap.scores.len → book_in (with_held ns x) ≡ with_index (book_in ns) x
    go {ns} (twelve _) e = ap (λ (y : LazyMinHeap). with_index (book_in ns) (record { heap = y })) (sym e)

pub expiration_stored : (ns : List ℕ) → 12 ≤ length ns → book_in (with_expiration ns) ≡ with_expired (book_in ns) 1
unfolding with_expiration
expiration_stored ns h = go (as_twelve ns h)
  where
    go : {ns : List ℕ} → Twelve ns → book_in (with_expiration ns) ≡ with_expired (book_in ns) 1
    go (twelve ns) = refl

default_stored : (l : Option TtlTicks) → default_in (given_of l) (ticks_of l) ≡ l
default_stored None = refl
default_stored (Some l) = refl

pub book_stored : (ns : List ℕ) (b : Expiring) → 12 ≤ length ns → book_in (with_book ns b) ≡ b
unfolding with_book with_changed with_lru with_deadlines
book_stored ns b h = go (as_twelve ns h)
  where
    go : {ns : List ℕ} → Twelve ns → book_in (with_book ns b) ≡ b
    go (twelve ns) = rw (default_stored b.default_ttl) refl

-- ---- and no others change
pub stay_same : (ns : List ℕ) → Stay ns ns
stay_same ns = record { size = refl; others = λ j a b c d e f g h. refl }

pub stay_then : {ns ns₁ ns₂ : List ℕ} → Stay ns ns₁ → Stay ns₁ ns₂ → Stay ns ns₂
stay_then s t = record { size = t.size ∙ s.size; others = λ j a b c d e f g h. t.others j a b c d e f g h ∙ s.others j a b c d e f g h }

pub stay_lru : (ns : List ℕ) (l : FastLru) → Stay ns (with_lru ns l)
unfolding with_lru
stay_lru ns l = record { size = simp length-set; others = λ j a b c d e f g h. simp get_or-set_other }

pub stay_deadlines : (ns : List ℕ) (x : ExpirationIndex) → Stay ns (with_deadlines ns x)
unfolding with_deadlines
stay_deadlines ns x = record { size = simp length-set; others = λ j a b c d e f g h. simp get_or-set_other }

pub stay_held : (ns : List ℕ) (x : ExpirationIndex) → Stay ns (with_held ns x)
unfolding with_held
stay_held ns x = record { size = simp length-set; others = λ j a b c d e f g h. simp get_or-set_other }

pub stay_expiration : (ns : List ℕ) → Stay ns (with_expiration ns)
unfolding with_expiration
stay_expiration ns = record { size = simp length-set; others = λ j a b c d e f g h. simp get_or-set_other }

-- ---- numbers of which the others stay are those that were, with the ones that may change
same_list : (xs ys : List ℕ) → length xs ≡ length ys → ((j : ℕ) → get_or xs j 0 ≡ get_or ys j 0) → xs ≡ ys
same_list [] [] n h = refl
same_list [] (y ∷ ys) n h = absurd (omega arith)
same_list (x ∷ xs) [] n h = absurd (omega arith)
same_list (x ∷ xs) (y ∷ ys) n h = let tail = same_list xs ys (omega arith) (λ j. h (suc j)) in rw (h 0, tail) refl

pub stay_changed : (ns ns' : List ℕ) → 12 ≤ length ns → Stay ns ns' → ns' ≡ with_changed ns (book_in ns')
unfolding with_changed with_lru with_deadlines
stay_changed ns ns' h s = go (as_twelve ns h) (as_twelve ns' (omega (arith, s.size))) s
  where
    go : {ns ns' : List ℕ} → Twelve ns → Twelve ns' → Stay ns ns' → ns' ≡ with_changed ns (book_in ns')
    go (twelve t) (twelve t') s =
        let stays : (j : ℕ) → get_or t' j 0 ≡ get_or t j 0 = λ j. s.others (suc (suc (suc (suc (suc (suc (suc (suc (suc (suc (suc (suc j)))))))))))) (λ e. omega arith) (λ e. omega arith) (λ e. omega arith) (λ e. omega arith) (λ e. omega arith) (λ e. omega arith) (λ e. omega arith) (λ e. omega arith) in
        rw (s.others 0 (λ e. omega arith) (λ e. omega arith) (λ e. omega arith) (λ e. omega arith) (λ e. omega arith) (λ e. omega arith) (λ e. omega arith) (λ e. omega arith), s.others 3 (λ e. omega arith) (λ e. omega arith) (λ e. omega arith) (λ e. omega arith) (λ e. omega arith) (λ e. omega arith) (λ e. omega arith) (λ e. omega arith), s.others 9 (λ e. omega arith) (λ e. omega arith) (λ e. omega arith) (λ e. omega arith) (λ e. omega arith) (λ e. omega arith) (λ e. omega arith) (λ e. omega arith), s.others 10 (λ e. omega arith) (λ e. omega arith) (λ e. omega arith) (λ e. omega arith) (λ e. omega arith) (λ e. omega arith) (λ e. omega arith) (λ e. omega arith), same_list t' t (omega (arith, s.size)) stays) refl

pub changed_size : (ns : List ℕ) (b : Expiring) → length (with_changed ns b) ≡ length ns
unfolding with_changed with_lru with_deadlines
changed_size ns b = simp length-set

-- ---- a call is handed the first twelve of the numbers, and those behind them stay
pub book_front : (ns : List ℕ) → 12 ≤ length ns → book_in (take 12 ns) ≡ book_in ns
book_front ns h = go (as_twelve ns h)
  where
    go : {ns : List ℕ} → Twelve ns → book_in (take 12 ns) ≡ book_in ns
    go (twelve ns) = refl

pub book_back : (ns more : List ℕ) → 12 ≤ length ns → book_in (ns ++ more) ≡ book_in ns
book_back ns more h = go (as_twelve ns h)
  where
    go : {ns : List ℕ} → Twelve ns → book_in (ns ++ more) ≡ book_in ns
    go (twelve ns) = refl

pub changed_front : (ns : List ℕ) (b : Expiring) → 12 ≤ length ns → with_changed (take 12 ns) b ++ drop 12 ns ≡ with_changed ns b
unfolding with_changed with_lru with_deadlines
changed_front ns b h = go (as_twelve ns h)
  where
    go : {ns : List ℕ} → Twelve ns → with_changed (take 12 ns) b ++ drop 12 ns ≡ with_changed ns b
    go (twelve ns) = refl

pub stay_front : (ns ns' : List ℕ) → 12 ≤ length ns → Stay (take 12 ns) ns' → Stay ns (ns' ++ drop 12 ns)
stay_front ns ns' h s =
    let long : length ns' ≡ 12 = s.size ∙ length-take-le 12 ns h in
    record {
      size = omega (arith, length-append ns' (drop 12 ns), length-drop 12 ns, long, h);
      others = λ j a b c d e f g i. by_lt j 12
          (λ low. get_or-append ns' (drop 12 ns) 0 j (omega (arith, long, low)) ∙ s.others j a b c d e f g i ∙ get_or-take 12 ns j 0 low)
          (λ high. get_or-append_right ns' (drop 12 ns) j 0 (omega (arith, long, high)) ∙ get_or-drop 12 ns (j - length ns') 0 ∙ ap (λ (k : ℕ). get_or ns k 0) (omega (arith, long, high)));
    }
