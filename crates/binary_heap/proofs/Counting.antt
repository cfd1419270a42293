-- `count_at_most`: the entries passed are counted, and sorting them changes no count.
use mathlib.Core.Path.{◌≡◌, refl, sym, ap, ◌∙◌}
use mathlib.Core.Bool.{Bool, true, false, true≢false, cond}
use mathlib.Core.List.{List, [], ◌∷◌, ◌++◌}
use Prim.Native.Nat.{ℕ, suc, ◌+◌, ◌<◌, ◌≤◌}
use native.Mathlib.Omega.{arith}
use native.Mathlib.Numerals.{add-one}
use lib.Dec.{leb}
use mir.Val.{bool_byte}
use lib.ListN.{length}
use Rattle.binary_heap.specs.declared.entries.Entry.{Entry}
use Rattle.binary_heap.specs.Order.{is_at_most, at_most}
use Rattle.binary_heap.specs.Entries.{entry_at, entries_of}
use Rattle.binary_heap.specs.Heap.{fit, model_of}
use Rattle.binary_heap.specs.Calls.{Counting}
use Rattle.binary_heap.proofs.Sorting.{sort_at_most}
use Rattle.binary_heap.proofs.Limits.{is_room}

-- a test as a number
byte_is : (b : Bool) → bool_byte b ≡ cond b 1 0
byte_is true = refl
byte_is false = refl

at_most_one : (b : Bool) → bool_byte b ≤ 1
at_most_one true = omega arith
at_most_one false = omega arith

at_most_append : (s : ℕ) (l m : List Entry) → at_most s (l ++ m) ≡ at_most s l + at_most s m
unfolding at_most
at_most_append s [] m = omega arith
at_most_append s (x ∷ l) m = omega (arith, at_most_append s l m)

-- so many of the first i entries
pub record Counted (ws : List ℕ) (n s r i : ℕ) : Type 0 where
  pub within : i ≤ n
  pub few : r ≤ i
  pub number : r ≡ at_most s (entries_of ws i)

module _ (ws : List ℕ) (n s : ℕ) where
  pub counted_none : Counted ws n s 0 0
  unfolding entries_of at_most
  counted_none = record { within = omega arith; few = omega arith; number = refl }

  at_most_last : (i : ℕ) → at_most s (entries_of ws (suc i)) ≡ at_most s (entries_of ws i) + is_at_most s (entry_at ws i)
  unfolding entries_of at_most
  at_most_last i = omega (arith, at_most_append s (entries_of ws i) (entry_at ws i ∷ []))

  pub counted_next : {r i : ℕ} → Counted ws n s r i → i < n → {b : Bool} → b ≡ leb (entry_at ws i).score s → Counted ws n s (r + bool_byte b) (i + 1)
  unfolding is_at_most
  counted_next {r} {i} d l {b} e = record {
    within = omega arith;
    few = omega (arith, at_most_one b, d.few);
    number = rw (add-one i, byte_is b, e) (omega (arith, at_most_last i, d.number));
  }

  pub counting_refused : fit n (length ws) ≡ false → Counting ws n s 0
  counting_refused f = record { refused = λ _. refl; answer = λ t. absurd (true≢false (sym t ∙ f)) }

  pub counting_done : {r i : ℕ} → fit n (length ws) ≡ true → Counted ws n s r i → n ≤ i → Counting ws n s r
  unfolding model_of
  counting_done {r} {i} t d l = record {
    refused = λ f. absurd (true≢false (sym t ∙ f));
    answer = λ _. d.number ∙ ap (λ (x : ℕ). at_most s (entries_of ws x)) all ∙ sym (sort_at_most s (entries_of ws n));
  }
    where
      all : i ≡ n
      all = let w = d.within in omega arith

pub ruleset counting = (is_room, counting_refused, counting_done)
