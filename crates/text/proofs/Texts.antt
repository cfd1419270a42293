-- What a format reads is the text that it makes of the numbers read.
use mathlib.Core.Path.{◌≡◌, refl, sym, ap, ◌∙◌}
use mathlib.Core.Bool.{Bool, true, false, cond}
use mathlib.Core.List.{List, [], ◌∷◌, ◌++◌, append_assoc}
use Rattle.std.specs.Prelude.{Option, None, Some}
use Prim.Native.Nat.{ℕ, zero, suc, ◌^◌, ◌<◌}
use native.Mathlib.Omega.{arith}
use borrow.Author.Tests.{ltb-true, eqb-true, eqb-false}
use lib.Dec.{ltb, eqb}
use lib.ListN.{length, length-set, get_or, drop, set, replicate}
use lib.Seq.{drop-cons, get_or-set_same, get_or-set_other}
use Rattle.text.specs.Text.{decimal, fill}
use Rattle.text.specs.Reading.{and_then, read_number, read_byte, read_from}
use Rattle.text.proofs.Numbers.{Split, not_found, same_found, number_sound}
use Rattle.text.proofs.Fills.{fill_other, fill_number}

-- numbers read from the k-th on
pub record Found (k : ℕ) (ns f s ns' rest : List ℕ) : Type 0 where
  pub text : s ≡ fill f (drop k ns') ++ rest
  pub size : length ns' ≡ 5
  pub kept : (i : ℕ) → i < k → get_or ns' i 0 ≡ get_or ns i 0
  pub small : ((i : ℕ) → get_or ns i 0 < 2 ^ 64) → (i : ℕ) → get_or ns' i 0 < 2 ^ 64

pub zeros_small : (k i : ℕ) → get_or (replicate k 0) i 0 < 2 ^ 64
zeros_small zero i = omega arith
zeros_small (suc k) zero = omega arith
zeros_small (suc k) (suc i) = zeros_small k i

set_small : (ns : List ℕ) (k n : ℕ) → n < 2 ^ 64 → ((i : ℕ) → get_or ns i 0 < 2 ^ 64) → (i : ℕ) → get_or (set ns k n) i 0 < 2 ^ 64
set_small [] k n h b i = b i
set_small (x ∷ ns) zero n h b zero = h
set_small (x ∷ ns) zero n h b (suc i) = b (suc i)
set_small (x ∷ ns) (suc k) n h b zero = b zero
set_small (x ∷ ns) (suc k) n h b (suc i) = set_small ns k n h (λ j. b (suc j)) i

module _ {k : ℕ} {ns f ns' rest : List ℕ} (size : length ns ≡ 5) where
  number_found : {s : List ℕ} {n : ℕ} {r : List ℕ} → Split [] s n r → k < 5 → Found (suc k) (set ns k n) f r ns' rest → Found k ns (48 ∷ f) s ns' rest
  number_found {s} {n} {r} m h t =
      let here : get_or ns' k 0 ≡ n = t.kept k (omega arith) ∙ get_or-set_same ns k n 0 (omega arith) in
      record {
        text = m.text ∙ ap (λ (l : List ℕ). decimal n ++ l) t.text ∙ sym (append_assoc (decimal n) (fill f (drop (suc k) ns')) rest)
            ∙ rw (drop-cons ns' k 0 (omega (arith, t.size))) (rw here (rw (fill_number f n (drop (suc k) ns')) refl));
        size = t.size;
        kept = λ i l. t.kept i (omega arith) ∙ get_or-set_other ns k i n 0 (λ q. omega arith);
        small = λ b. t.small (set_small ns k n m.small b);
      }

  byte_found : {c : ℕ} {s : List ℕ} → (c ≡ 48 → ⊥) → Found k ns f s ns' rest → Found k ns (c ∷ f) (c ∷ s) ns' rest
  byte_found {c} {s} h t = record { text = rw (fill_other c f (drop k ns') h) (ap (λ (l : List ℕ). c ∷ l) t.text); size = t.size; kept = t.kept; small = t.small }

pub found : (f s : List ℕ) (k : ℕ) (ns ns' rest : List ℕ) → length ns ≡ 5 → read_from k ns f s ≡ Some (ns', rest) → Found k ns f s ns' rest
unfolding read_from fill
found [] s k ns ns' rest h e =
    let (q, t) = same_found e in
    record { text = t; size = rw q at h; kept = λ i l. rw q refl; small = λ b i. rw (sym q) (b i) }
found (c ∷ f) s k ns ns' rest h e = go (eqb c 48) refl e (λ s k ns. found f s k ns ns' rest)
  where
    go : (z : Bool) → eqb c 48 ≡ z
        → cond z (and_then (read_number s) (λ r. cond (ltb k 5) (read_from (suc k) (set ns k r.0) f r.1) None)) (and_then (read_byte c s) (λ r. read_from k ns f r)) ≡ Some (ns', rest)
        → ((s : List ℕ) (k : ℕ) (ns : List ℕ) → length ns ≡ 5 → read_from k ns f s ≡ Some (ns', rest) → Found k ns f s ns' rest)
        → Found k ns (c ∷ f) s ns' rest
    go true z e ih = numbered (read_number s) refl (ltb k 5) refl e
      where
        numbered : (o : Option (ℕ × List ℕ)) → read_number s ≡ o → (l : Bool) → ltb k 5 ≡ l → and_then o (λ r. cond l (read_from (suc k) (set ns k r.0) f r.1) None) ≡ Some (ns', rest) → Found k ns (c ∷ f) s ns' rest
        numbered None m l b e = absurd (not_found e)
        numbered (Some r) m true b e = rw (eqb-true c 48 z) (number_found h (number_sound s r.0 r.1 m) (ltb-true k 5 b) (ih r.1 (suc k) (set ns k r.0) (length-set ns k r.0 ∙ h) e))
        numbered (Some r) m false b e = absurd (not_found e)
    go false z e ih = byte s e
      where
        byte : (s : List ℕ) → and_then (read_byte c s) (λ r. read_from k ns f r) ≡ Some (ns', rest) → Found k ns (c ∷ f) s ns' rest
        byte [] e = absurd (not_found e)
        byte (x ∷ t) e = same (eqb x c) refl e
          where
            same : (b : Bool) → eqb x c ≡ b → and_then (cond b (Some t) None) (λ r. read_from k ns f r) ≡ Some (ns', rest) → Found k ns (c ∷ f) (x ∷ t) ns' rest
            same true b e = rw (eqb-true x c b) (byte_found h (eqb-false c 48 z) (ih t k ns h e))
            same false b e = absurd (not_found e)
