-- The numbers that are stored are read back, and no other changes. For that
-- what no call changes need not be stored.
use mathlib.Core.Path.{◌≡◌, refl, sym, ap, ◌∙◌}
use mathlib.Core.List.{List}
use mathlib.Core.Logic.{◌≢◌}
use Prim.Native.Nat.{ℕ, ◌≤◌}
use native.Mathlib.Omega.{arith}
use lib.ListN.{length, get_or, length-set}
use lib.Seq.{get_or-set_other}
use Rattle.time.specs.declared.tick.Tick.{Tick}
use Rattle.std.specs.Prelude.{Result, Ok, Err, ⊤}
use Rattle.time.specs.declared.refusal.Refusal.{Refusal}
use Rattle.expiring.specs.declared.answers.Reply.{Reply}
use Rattle.expiring.specs.declared.expiring.Expiring.{Expiring}
use Rattle.expiring.specs.Book.{capacity_of, limit_of, IsBook, model_of}
use Rattle.expiring.specs.Calls.{Following}
use Rattle.expiring_model.specs.Model.{Book, Call, refusal_of, accepted, book_after}
use Rattle.expiring.specs.Numbers.{book_in, with_lru, with_deadlines, with_book, with_changed}
use Rattle.expiring.proofs.Storing.{Twelve, twelve, as_twelve}

pub book_past : (ns : List ℕ) (b : Expiring) (j : ℕ) → 12 ≤ j → get_or (with_book ns b) j 0 ≡ get_or ns j 0
unfolding with_book with_changed with_lru with_deadlines
book_past ns b j h =
    let a0 : j ≢ 0 = omega arith in
    let a1 : j ≢ 1 = omega arith in
    let a2 : j ≢ 2 = omega arith in
    let a3 : j ≢ 3 = omega arith in
    let a4 : j ≢ 4 = omega arith in
    let a5 : j ≢ 5 = omega arith in
    let a6 : j ≢ 6 = omega arith in
    let a7 : j ≢ 7 = omega arith in
    let a8 : j ≢ 8 = omega arith in
    let a9 : j ≢ 9 = omega arith in
    let a10 : j ≢ 10 = omega arith in
    let a11 : j ≢ 11 = omega arith in
    simp get_or-set_other

pub book_size : (ns : List ℕ) (b : Expiring) → length (with_book ns b) ≡ length ns
unfolding with_book with_changed with_lru with_deadlines
book_size ns b = simp length-set

-- ---- what no call changes
record Limits (p q : Book) : Type 0 where
  capacity : p.capacity ≡ q.capacity
  limit : p.limit ≡ q.limit
  lifetime : p.lifetime ≡ q.lifetime

limits_stay : (t : Tick) (c : Call) (p : Book) → Limits p (book_after t c p)
unfolding book_after accepted
limits_stay t c p = go (refusal_of t c p) refl
  where
    go : (o : Result ⊤ Refusal) → refusal_of t c p ≡ o → Limits p (book_after t c p)
    go (Ok done) q = rw q (record { capacity = refl; limit = refl; lifetime = refl })
    go (Err why) q = rw q (record { capacity = refl; limit = refl; lifetime = refl })

-- the book b has these numbers of a
record Fixed (a b : Expiring) : Type 0 where
  capacity : capacity_of a ≡ capacity_of b
  limit : limit_of a ≡ limit_of b
  lifetime : a.default_ttl ≡ b.default_ttl

fixed : {ws ws' : List ℕ} {b : Expiring} {t : Tick} {c : Call} {r : Reply} → IsBook ws b → Following ws b t c ws' r → Fixed b r.book
unfolding model_of
fixed {ws = ws} {b = b} {t = t} {c = c} is o =
    let stay = limits_stay t c (model_of ws b 0 0) in
    let model = sym (o.model is 0 0) in
    record {
      capacity = stay.capacity ∙ ap (λ (p : Book). p.capacity) model;
      limit = stay.limit ∙ ap (λ (p : Book). p.limit) model;
      lifetime = stay.lifetime ∙ ap (λ (p : Book). p.lifetime) model;
    }

fixed_stored : (ns : List ℕ) (b : Expiring) → 12 ≤ length ns → Fixed (book_in ns) b → book_in (with_changed ns b) ≡ b
unfolding with_changed with_lru with_deadlines
fixed_stored ns b h f = go (as_twelve ns h) f
  where
    go : {ns : List ℕ} → Twelve ns → Fixed (book_in ns) b → book_in (with_changed ns b) ≡ b
    go (twelve ns) f = rw (f.lifetime, f.capacity, f.limit) refl

pub changed_stored : (ns : List ℕ) {ws ws' : List ℕ} {t : Tick} {c : Call} {r : Reply} → 12 ≤ length ns → IsBook ws (book_in ns) → Following ws (book_in ns) t c ws' r → book_in (with_changed ns r.book) ≡ r.book
changed_stored ns {r = r} h is o = fixed_stored ns r.book h (fixed is o)

pub changed_past : (ns : List ℕ) (b : Expiring) (j : ℕ) → 12 ≤ j → get_or (with_changed ns b) j 0 ≡ get_or ns j 0
unfolding with_changed with_lru with_deadlines
changed_past ns b j h =
    let a1 : j ≢ 1 = omega arith in
    let a2 : j ≢ 2 = omega arith in
    let a4 : j ≢ 4 = omega arith in
    let a5 : j ≢ 5 = omega arith in
    let a6 : j ≢ 6 = omega arith in
    let a7 : j ≢ 7 = omega arith in
    let a8 : j ≢ 8 = omega arith in
    let a11 : j ≢ 11 = omega arith in
    simp get_or-set_other
