-- Runs of stores, one after another.
use mathlib.Core.Path.{◌≡◌, refl, sym, ap, ◌∙◌}
use mathlib.Core.List.{List, [], ◌∷◌, ◌++◌, append_assoc, append-nil}
use Prim.Native.Nat.{ℕ, suc, ◌+◌, ◌-◌, ◌/◌, ◌%◌, ◌<◌, ◌≤◌}
use native.Mathlib.Nat.{add-suc, suc-add, add-zero}
use native.Mathlib.Omega.{arith}
use borrow.Rule.Slice.PartMut.{put_mid}
use lib.ListN.{length, length-append, length-set, take, drop, set, drop_of_length-le}
use lib.Seq.{sets, sets-eq, length-sets, set_comm, drop-drop}
use Rattle.text.specs.Text.{digit, decimal}
use Rattle.text.specs.declared.writer.Writer.{Writer}
use Rattle.text.specs.Writing.{last_digits, Puts, Writes}
use Rattle.text.proofs.Decimals.{one_digit, all_digits, length_last}

-- a store past a run may come before it
pub sets_set : (l : List ℕ) (i j a : ℕ) (vs : List ℕ) → i + length vs ≤ j → set (sets l i vs) j a ≡ sets (set l j a) i vs
sets_set l i j a [] h = refl
sets_set l i j a (v ∷ vs) h =
    let n : i + suc (length vs) ≡ suc i + length vs = omega arith in
    sets_set (set l i v) (suc i) j a vs (omega arith) ∙ ap (λ (x : List ℕ). sets x (suc i) vs) (set_comm l i j v a (omega arith))

pub sets_append : (l : List ℕ) (i : ℕ) (vs us : List ℕ) → sets l i (vs ++ us) ≡ sets (sets l i vs) (i + length vs) us
sets_append l i [] us = rw (add-zero i) refl
sets_append l i (v ∷ vs) us = sets_append (set l i v) (suc i) vs us ∙ rw (add-suc i (length vs), suc-add i (length vs)) refl

-- the last of the digits may be stored first
pub last_first : (l : List ℕ) (i k n : ℕ) → sets l i (last_digits (suc k) n) ≡ sets (set l (i + k) (digit (n % 10))) i (last_digits k (n / 10))
unfolding last_digits
last_first l i k n =
    sets_append l i (last_digits k (n / 10)) (digit (n % 10) ∷ [])
    ∙ rw (length_last k (n / 10)) (sets_set l i (i + k) (digit (n % 10)) (last_digits k (n / 10)) (rw (length_last k (n / 10)) (omega arith)))

module _ (l : List ℕ) (i n : ℕ) where
  pub digit_first : 0 < i → sets l 0 (last_digits i n) ≡ sets (set l (i - 1) (digit (n % 10))) 0 (last_digits (i - 1) (n / 10))
  digit_first h =
      let p : i ≡ suc (i - 1) = omega arith in
      let q : 0 + (i - 1) ≡ i - 1 = omega arith in
      ap (λ (j : ℕ). sets l 0 (last_digits j n)) p ∙ last_first l 0 (i - 1) n ∙ rw q refl

  pub no_digit : i ≤ 0 → sets l 0 (last_digits i n) ≡ l
  unfolding last_digits
  no_digit h =
      let p : i ≡ 0 = omega arith in
      rw p refl

-- a slice that digits fill
pub all_set : (l : List ℕ) (n : ℕ) → sets l 0 (last_digits (length l) n) ≡ last_digits (length l) n
all_set l n = sets-eq (last_digits (length l) n) l 0 (omega (arith, size)) ∙ rw (size, drop_of_length-le l {i = 0 + length l} (omega arith)) (append-nil (last_digits (length l) n))
  where
    size : length (last_digits (length l) n) ≡ length l
    size = length_last (length l) n

-- ---- one text behind another
pub puts_then : {out out₁ out₂ : List ℕ} {at m n : ℕ} {t u : List ℕ} → Puts out at t out₁ m → Puts out₁ m u out₂ n → Puts out at (t ++ u) out₂ n
puts_then {out} {out₁} {out₂} {at} {m} {n} {t} {u} p q = record {
  ends = λ h. omega (arith, both, p.ends (first h), q.ends (second h));
  written = λ h. q.written (second h) ∙ rw (p.written (first h)) (rw (p.ends (first h)) (sym (sets_append out at t u)));
  within = omega (arith, q.within, p.size);
  size = q.size ∙ p.size;
}
  where
    both : length (t ++ u) ≡ length t + length u
    both = length-append t u

    first : at + length (t ++ u) ≤ length out → at + length t ≤ length out
    first h = omega (arith, both)

    second : at + length (t ++ u) ≤ length out → m + length u ≤ length out₁
    second h = omega (arith, both, p.ends (first h), p.size)

pub writes_then : {w w₁ w₂ : Writer} {t u : List ℕ} → Writes w t w₁ → Writes w₁ u w₂ → Writes w (t ++ u) w₂
writes_then p q = record { same_reference = q.same_reference ∙ p.same_reference; puts = puts_then p.puts q.puts }

pub no_room : (out : List ℕ) (at : ℕ) (t : List ℕ) → length out < at + length t → Puts out at t out (length out)
no_room out at t full = record { ends = λ h. absurd (omega arith); written = λ h. absurd (omega arith); within = omega arith; size = refl }

-- ---- a text that is copied to its place
pub puts_text : (out : List ℕ) (at : ℕ) (t : List ℕ) {t' : List ℕ} → at + length t ≤ length out → t' ≡ t → Puts out at t (put_mid at (at + length t - at) out t') (at + length t)
puts_text out at t room e = rw e (record {
  ends = λ _. refl;
  written = λ _. same;
  within = room;
  size = ap length same ∙ length-sets out at t;
})
  where
    same : put_mid at (at + length t - at) out t ≡ sets out at t
    same =
        let n : at + length t - at ≡ length t = omega arith in
        rw n (ap (λ (l : List ℕ). take at out ++ (t ++ l)) (drop-drop (length t) at out) ∙ sym (append_assoc (take at out) t (drop (at + length t) out))) ∙ sym (sets-eq t out at room)

-- ---- a number
pub puts_number : (out : List ℕ) (at n : ℕ) {count : ℕ} {t' : List ℕ} → count ≡ length (decimal n) → at + count ≤ length out → t' ≡ last_digits count n → Puts out at (decimal n) (put_mid at (at + count - at) out t') (at + count)
puts_number out at n e room h = rw e (puts_text out at (decimal n) (omega (arith, e, room)) (h ∙ rw e (all_digits 20 n)))

pub puts_digit : (out : List ℕ) (at n : ℕ) → n < 10 → at < length out → Puts out at (decimal n) (set out at (digit n)) (at + 1)
puts_digit out at n small room = rw (one_digit n small) (record { ends = λ _. refl; written = λ _. refl; within = omega arith; size = length-set out at (digit n) })
