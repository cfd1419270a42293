-- Reading by a format, a piece at a time.
use mathlib.Core.Path.{◌≡◌, refl, sym, ap, ◌∙◌}
use mathlib.Core.Bool.{Bool, true, false, cond, not, ◌&&◌, true≢false}
use mathlib.Core.List.{List, [], ◌∷◌, ◌++◌, append_assoc}
use Rattle.std.specs.Prelude.{Option, None, Some}
use Prim.Native.Nat.{ℕ, suc, ◌≤◌}
use native.Mathlib.Omega.{arith}
use borrow.Author.Tests.{eqb-true, not-true}
use lib.Dec.{ltb, eqb}
use lib.ListN.{length, length-append, take, drop, set}
use Rattle.std.proofs.Math.Seq.{drop-append_seam}
use Rattle.std.specs.Cmp.Lexicographic.{pointwise}
use Rattle.text.specs.Reading.{read_number, read_byte, read_text, is_end, number_after, and_then, read_from, plain, Starts, Ends}
use Rattle.text.specs.Text.{decimal}
use Rattle.text.proofs.Numbers.{both, not_found, number_sound}

-- ---- a text at the start of a line
pub text_is : (t s : List ℕ) → read_text t s ≡ cond (pointwise eqb (take (length t) s) t) (Some (drop (length t) s)) None
unfolding read_text
text_is [] s = refl
text_is (c ∷ t) [] = refl
text_is (c ∷ t) (x ∷ s) = go (eqb x c) (text_is t s)
  where
    go : (b : Bool) → read_text t s ≡ cond (pointwise eqb (take (length t) s) t) (Some (drop (length t) s)) None → and_then (cond b (Some s) None) (λ r. read_text t r) ≡ cond (b && pointwise eqb (take (length t) s) t) (Some (drop (length t) s)) None
    go true ih = ih
    go false ih = refl

-- as `strip_prefix` has it
module _ (t s : List ℕ) where
  pub starts_none : pointwise eqb (take (length t) s) t ≡ false → Starts s t None
  starts_none h = sym (text_is t s ∙ rw h refl)

  pub starts_some : pointwise eqb (take (length t) s) t ≡ true → {rest : List ℕ} → rest ≡ drop (length t) s → Starts s t (Some rest)
  starts_some h e = sym (text_is t s ∙ rw (h, sym e) refl)

end_is : (t s : List ℕ) → is_end (read_text t s) ≡ pointwise eqb s t
unfolding read_text
end_is [] [] = refl
end_is [] (x ∷ s) = refl
end_is (c ∷ t) [] = refl
end_is (c ∷ t) (x ∷ s) = go (eqb x c) (end_is t s)
  where
    go : (b : Bool) → is_end (read_text t s) ≡ pointwise eqb s t → is_end (and_then (cond b (Some s) None) (λ r. read_text t r)) ≡ (b && pointwise eqb s t)
    go true ih = ih
    go false ih = refl

-- as `==` has it
pub ends_is : (t s : List ℕ) {r : Bool} → r ≡ pointwise eqb s t → Ends s t r
ends_is t s e = e ∙ sym (end_is t s)

-- ---- what is read was there
pub text_sound : (t s r : List ℕ) → read_text t s ≡ Some r → s ≡ t ++ r
unfolding read_text
text_sound [] s r e = let q : s ≡ r = cc in q
text_sound (c ∷ t) [] r e = absurd (not_found e)
text_sound (c ∷ t) (x ∷ s) r e = go (eqb x c) refl e (text_sound t s r)
  where
    go : (b : Bool) → eqb x c ≡ b → and_then (cond b (Some s) None) (λ r. read_text t r) ≡ Some r → (read_text t s ≡ Some r → s ≡ t ++ r) → x ∷ s ≡ c ∷ (t ++ r)
    go true z e ih = rw (eqb-true x c z) (ap (λ (l : List ℕ). c ∷ l) (ih e))
    go false z e ih = absurd (not_found e)

pub end_sound : (t line : List ℕ) {b : Bool} → Ends line t b → b ≡ true → line ≡ t ++ []
end_sound t line is h = go (read_text t line) refl (sym is ∙ h)
  where
    go : (o : Option (List ℕ)) → read_text t line ≡ o → is_end o ≡ true → line ≡ t ++ []
    go None q e = absurd (true≢false (sym e))
    go (Some []) q e = text_sound t line [] q
    go (Some (c ∷ r)) q e = absurd (true≢false (sym e))

-- so what is left of a line is its end
pub after_sound : (t s : List ℕ) {n : ℕ} {rest : List ℕ} → number_after t s ≡ Some (n, rest) → s ≡ t ++ (decimal n ++ rest)
after_sound t s {n} {rest} e = go (read_text t s) refl e
  where
    go : (o : Option (List ℕ)) → read_text t s ≡ o → and_then o (λ r. read_number r) ≡ Some (n, rest) → s ≡ t ++ (decimal n ++ rest)
    go None q e = absurd (not_found e)
    go (Some r) q e = text_sound t s r q ∙ ap (λ (l : List ℕ). t ++ l) (number_sound r n rest e).text

-- and what the line has from a place within it on
pub left_from : (t s : List ℕ) {n : ℕ} {rest : List ℕ} → number_after t s ≡ Some (n, rest) → (end : ℕ) × (end ≤ length s) × (drop end s ≡ rest)
left_from t s {n} {rest} e =
    let whole : s ≡ (t ++ decimal n) ++ rest = after_sound t s e ∙ sym (append_assoc t (decimal n) rest) in (
      length (t ++ decimal n),
      omega (arith, ap length whole, length-append (t ++ decimal n) rest),
      ap (λ (l : List ℕ). drop (length (t ++ decimal n)) l) whole ∙ drop-append_seam (t ++ decimal n) rest,
    )

-- ---- formats
pub text_on : (t : List ℕ) → plain t ≡ true → (k : ℕ) (ns f s : List ℕ) → read_from k ns (t ++ f) s ≡ and_then (read_text t s) (λ r. read_from k ns f r)
unfolding read_from read_text
text_on [] p k ns f s = refl
text_on (c ∷ t) p k ns f s =
    let (z, q) = both (not (eqb c 48)) (plain t) p in
    simp (not-true (eqb c 48) z) (go s (text_on t q k ns f))
  where
    go : (s : List ℕ) → ((s : List ℕ) → read_from k ns (t ++ f) s ≡ and_then (read_text t s) (λ r. read_from k ns f r)) → and_then (read_byte c s) (λ r. read_from k ns (t ++ f) r) ≡ and_then (and_then (read_byte c s) (λ r. read_text t r)) (λ r. read_from k ns f r)
    go [] ih = refl
    go (x ∷ s) ih = same (eqb x c)
      where
        same : (b : Bool) → and_then (cond b (Some s) None) (λ r. read_from k ns (t ++ f) r) ≡ and_then (and_then (cond b (Some s) None) (λ r. read_text t r)) (λ r. read_from k ns f r)
        same true = ih s
        same false = refl

-- a number behind a text
abbrev pub field_on : ℕ → List ℕ → List ℕ → ℕ × List ℕ → Option (List ℕ × List ℕ)
field_on k ns f r = cond (ltb k 5) (read_from (suc k) (set ns k r.0) f r.1) None

module _ (t : List ℕ) (p : plain t ≡ true) (s : List ℕ) where
  pub field_is : (r : Option (ℕ × List ℕ)) → r ≡ number_after t s → (k : ℕ) (ns f : List ℕ) → read_from k ns (t ++ (48 ∷ f)) s ≡ and_then r (field_on k ns f)
  unfolding read_from
  field_is r reads k ns f = text_on t p k ns (48 ∷ f) s ∙ go (read_text t s) ∙ ap (λ (o : Option (ℕ × List ℕ)). and_then o (field_on k ns f)) (sym reads)
    where
      go : (o : Option (List ℕ)) → and_then o (λ r. read_from k ns (48 ∷ f) r) ≡ and_then (and_then o (λ r. read_number r)) (field_on k ns f)
      go None = refl
      go (Some s) = refl

  pub field_none : None ≡ number_after t s → (k : ℕ) (ns f : List ℕ) → read_from k ns (t ++ (48 ∷ f)) s ≡ None
  field_none reads k ns f = field_is None reads k ns f

  pub field_some : {n : ℕ} {rest : List ℕ} → Some (n, rest) ≡ number_after t s → (k : ℕ) (ns f : List ℕ) → read_from k ns (t ++ (48 ∷ f)) s ≡ cond (ltb k 5) (read_from (suc k) (set ns k n) f rest) None
  field_some {n} {rest} reads k ns f = field_is (Some (n, rest)) reads k ns f
