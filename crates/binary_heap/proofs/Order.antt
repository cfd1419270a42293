-- The order of entries is total: by three numbers in turn, each with the rest where it is the same.
use mathlib.Core.Path.{◌≡◌, sym, ◌∙◌}
use mathlib.Core.Bool.{Bool, true, false, true≢false}
use Prim.Native.Nat.{ℕ, ◌<◌, ◌≤◌}
use native.Mathlib.Decide.{ℕ_discrete, dec_le}
use native.Mathlib.Omega.{arith}
use borrow.Author.Tests.{lt-ltb, le-ltb, le-leb, leb-true, leb-false, eq-eqb, ne_eqb}
use Rattle.binary_heap.specs.declared.entries.Entry.{Entry}
use Rattle.binary_heap.specs.Order.{lex, le}

module _ (x y : ℕ) (r : Bool) where
  lex_same : x ≡ y → lex x y r ≡ r
  lex_same e = rw (le-ltb x y (omega arith), eq-eqb x y e)

  lex_less : x < y → lex x y r ≡ true
  lex_less h = rw (lt-ltb x y h)

  lex_more : y < x → lex x y r ≡ false
  lex_more h = rw (le-ltb x y (omega arith), ne_eqb x y (omega arith))

  to_lex : x ≤ y → (x ≡ y → r ≡ true) → lex x y r ≡ true
  to_lex h k = go (ℕ_discrete x y)
    where
      go : Dec (x ≡ y) → lex x y r ≡ true
      go (yes e) = lex_same e ∙ k e
      go (no d) = lex_less (omega arith)

  lex_le : lex x y r ≡ true → x ≤ y
  lex_le h = go (dec_le x y)
    where
      go : Dec (x ≤ y) → x ≤ y
      go (yes l) = l
      go (no d) = absurd (true≢false (sym h ∙ lex_more (omega arith)))

  lex_rest : lex x y r ≡ true → x ≡ y → r ≡ true
  lex_rest h e = sym (lex_same e) ∙ h

lex_total : (x y : ℕ) (r s : Bool) → (r ≡ false → s ≡ true) → lex x y r ≡ false → lex y x s ≡ true
lex_total x y r s k h = to_lex y x s (above (dec_le y x)) (λ e. k (sym (lex_same x y r (sym e)) ∙ h))
  where
    above : Dec (y ≤ x) → y ≤ x
    above (yes l) = l
    above (no d) = absurd (true≢false (sym (lex_less x y r (omega arith)) ∙ h))

-- the order, as facts on the numbers
record Le (a b : Entry) : Type 0 where
  pub scores : a.score ≤ b.score
  pub seqs : a.score ≡ b.score → a.seq ≤ b.seq
  pub keys : a.score ≡ b.score → a.seq ≡ b.seq → a.key ≤ b.key

module _ {a b : Entry} where
  facts : le a b ≡ true → Le a b
  unfolding le
  facts h = record {
    scores = lex_le _ _ _ h;
    seqs = λ e. lex_le _ _ _ (lex_rest _ _ _ h e);
    keys = λ e f. leb-true _ _ (lex_rest _ _ _ (lex_rest _ _ _ h e) f);
  }

  to_le : Le a b → le a b ≡ true
  unfolding le
  to_le l = to_lex _ _ _ l.scores (λ e. to_lex _ _ _ (l.seqs e) (λ f. le-leb _ _ (l.keys e f)))

-- a score below, or no score above and a sequence number below
pub le_by_score : (a b : Entry) → a.score < b.score → le a b ≡ true
le_by_score a b h = to_le (record { scores = omega arith; seqs = λ e. absurd (omega arith); keys = λ e. absurd (omega arith) })

pub le_by_seq : (a b : Entry) → a.score ≤ b.score → a.seq < b.seq → le a b ≡ true
le_by_seq a b h n = to_le (record { scores = h; seqs = λ e. omega arith; keys = λ e f. absurd (omega arith) })

pub le_scores : (a b : Entry) → le a b ≡ true → a.score ≤ b.score
le_scores a b h = let l : Le a b = facts h in l.scores

pub le_same : (a : Entry) → le a a ≡ true
le_same a = to_le (record { scores = omega arith; seqs = λ e. omega arith; keys = λ e f. omega arith })

pub le_then : (a b c : Entry) → le a b ≡ true → le b c ≡ true → le a c ≡ true
le_then a b c g h = to_le (record { scores = omega (arith, x.scores, y.scores); seqs = seqs; keys = keys })
  where
    x : Le a b
    x = facts g

    y : Le b c
    y = facts h

    seqs : a.score ≡ c.score → a.seq ≤ c.seq
    seqs e =
        let s : a.score ≡ b.score = omega (arith, x.scores, y.scores) in
        let t : b.score ≡ c.score = omega arith in
        omega (arith, x.seqs s, y.seqs t)

    keys : a.score ≡ c.score → a.seq ≡ c.seq → a.key ≤ c.key
    keys e f =
        let s : a.score ≡ b.score = omega (arith, x.scores, y.scores) in
        let t : b.score ≡ c.score = omega arith in
        let u : a.seq ≡ b.seq = omega (arith, x.seqs s, y.seqs t) in
        let v : b.seq ≡ c.seq = omega arith in
        omega (arith, x.keys s u, y.keys t v)

pub le_total : (a b : Entry) → le a b ≡ false → le b a ≡ true
unfolding le
le_total a b h =
    lex_total a.score b.score _ _
    (lex_total a.seq b.seq _ _ (λ e. le-leb b.key a.key (omega (arith, leb-false a.key b.key e))))
    h

-- entries are the same by their numbers
pub entry_same : {a b : Entry} → a.score ≡ b.score → a.seq ≡ b.seq → a.key ≡ b.key → a ≡ b
entry_same p q r = λ z. record { score = p z; seq = q z; key = r z }

pub le_both : (a b : Entry) → le a b ≡ true → le b a ≡ true → a ≡ b
le_both a b g h =
    let x : Le a b = facts g in
    let y : Le b a = facts h in
    let s : a.score ≡ b.score = omega arith in
    let t : a.seq ≡ b.seq = omega (arith, x.seqs s, y.seqs (sym s)) in
    entry_same s t (omega (arith, x.keys s t, y.keys (sym s) (sym t)))

pub le_at : {a b c d : Entry} → a ≡ c → b ≡ d → le c d ≡ true → le a b ≡ true
le_at p q h = cc
