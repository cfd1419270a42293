-- What the parser's reads tell of a line.
use mathlib.Core.Path.{◌≡◌, refl, sym, ap, ◌∙◌}
use mathlib.Core.Bool.{Bool, true, false, cond}
use mathlib.Core.List.{List, [], ◌∷◌, ◌++◌, append-nil}
use Rattle.std.specs.Prelude.{Option, None, Some}
use Rattle.std.specs.Option.{option_map, option_or}
use Rattle.std.specs.Bool.{then_some}
use Prim.Native.Nat.{ℕ, suc, ◌<◌, ◌≤◌}
use native.Mathlib.Omega.{arith}
use borrow.Author.Tests.{lt-ltb, le-ltb}
use lib.ListN.{length, get_or, set}
use Rattle.text.specs.Text.{bytes}
use Rattle.text.specs.Reading.{and_then, read_text, is_end, read_from, read_in, plain, number_after, Starts, Ends, ReadsBetween}
use Rattle.text.proofs.Laws.{text_on, field_on, field_is, field_none, field_some}
use Rattle.forms.specs.declared.form.Call.{Call}
use Rattle.forms.specs.Reading.{only, numbers_in, ReadsOnly, ReadsLifetime, one_in, none_in, call_or_book, form_in}
use Rattle.forms.proofs.Formats.{zeros}

pub same_map : {A B C : Type 0} (f : B → C) (g : A → B) (o : Option A) → option_map f (option_map g o) ≡ option_map (λ x. f (g x)) o
same_map f g None = refl
same_map f g (Some x) = refl

pub or_none : {A : Type 0} (o : Option A) → option_or o None ≡ o
or_none None = refl
or_none (Some x) = refl

-- ---- a text that is all of a line, or not
module _ (t : List ℕ) (p : plain t ≡ true) (line : List ℕ) {b : Bool} (is : Ends line t b) where
  end_is : (k : ℕ) (ns : List ℕ) → only (read_from k ns t line) ≡ cond b (Some ns) None
  unfolding read_from
  end_is k ns = rw append-nil at (ap only (text_on t p k ns [] line)) ∙ go (read_text t line) ∙ ap (λ (z : Bool). cond z (Some ns) None) (sym is)
    where
      go : (o : Option (List ℕ)) → only (and_then o (λ r. Some (ns, r))) ≡ cond (is_end o) (Some ns) None
      go None = refl
      go (Some []) = refl
      go (Some (c ∷ s)) = refl

  pub ended : b ≡ true → (k : ℕ) (ns : List ℕ) → only (read_from k ns t line) ≡ Some ns
  ended h k ns = end_is k ns ∙ rw h refl

  pub unended : b ≡ false → (k : ℕ) (ns : List ℕ) → only (read_from k ns t line) ≡ None
  unended h k ns = end_is k ns ∙ rw h refl

  -- a call that has no number
  pub named_is : (c : Call) → then_some b c ≡ none_in t c line
  named_is c = go b ∙ sym (ap (λ (o : Option (List ℕ)). option_map (λ _. c) o) (end_is 0 zeros))
    where
      go : (b : Bool) → then_some b c ≡ option_map (λ _. c) (cond b (Some zeros) None)
      go true = refl
      go false = refl

-- ---- a number between two texts, the second the end of the line
between_on : (t u : List ℕ) → plain t ≡ true → plain u ≡ true → (line : List ℕ) {r : Option ℕ} → ReadsBetween line t u r → (k : ℕ) → k < 5 → (ns : List ℕ) → option_map (λ n. set ns k n) r ≡ only (read_from k ns (t ++ (48 ∷ u)) line)
between_on t u p q line reads k room ns = ap (λ (o : Option ℕ). option_map (λ n. set ns k n) o) reads ∙ go (number_after t line) ∙ sym (ap only (field_is t p line (number_after t line) refl k ns u))
  where
    ends : (n : ℕ) (b : Bool) → option_map (λ (n : ℕ). set ns k n) (cond b (Some n) None) ≡ cond b (Some (set ns k n)) None
    ends n true = refl
    ends n false = refl

    go : (o : Option (ℕ × List ℕ)) → option_map (λ n. set ns k n) (and_then o (λ r. cond (is_end (read_text u r.1)) (Some r.0) None)) ≡ only (and_then o (field_on k ns u))
    go None = refl
    go (Some (n, rest)) = rw (lt-ltb k 5 room) (ends n (is_end (read_text u rest)) ∙ sym (end_is u q rest refl (suc k) (set ns k n)))

-- ---- a call's only number
module _ (line name : List ℕ) {r : Option ℕ} where
  pub only_is : ReadsBetween line name (bytes "))") r → ReadsOnly line name r
  only_is reads = record { numbers = λ p. between_on name (bytes "))") p refl line reads 0 (omega arith) zeros }

  pub one_is : (make : ℕ → Call) → plain name ≡ true → ReadsOnly line name r → option_map make r ≡ one_in name make line
  one_is make p reads = go r ∙ ap (λ (o : Option (List ℕ)). option_map (λ (ns : List ℕ). make (get_or ns 0 0)) o) (reads.numbers p)
    where
      go : (r : Option ℕ) → option_map make r ≡ option_map (λ (ns : List ℕ). make (get_or ns 0 0)) (numbers_in r)
      go None = refl
      go (Some n) = refl

-- ---- a lifetime's two
module _ (line before behind : List ℕ) where
  pub no_secs : None ≡ number_after before line → ReadsLifetime line before behind None
  no_secs reads = record { numbers = λ p q k room ns. sym (ap only (field_none before p line reads k ns (32 ∷ 48 ∷ behind))) }

  module _ {s : ℕ} {rest : List ℕ} (secs : Some (s, rest) ≡ number_after before line) where
    nanos_is : {r : Option ℕ} → ReadsBetween rest (bytes " ") behind r → ReadsLifetime line before behind (option_map (λ n. record { secs = s; nanos = n }) r)
    nanos_is {r} nanos = record {
      numbers = λ p q k room ns.
          same_map _ _ r
          ∙ between_on (bytes " ") behind refl q rest nanos (suc k) (omega arith) (set ns k s)
          ∙ sym (ap only (field_some before p line secs k ns (32 ∷ 48 ∷ behind) ∙ simp (lt-ltb k 5 (omega arith))));
    }

    pub no_nanos : ReadsBetween rest (bytes " ") behind None → ReadsLifetime line before behind None
    no_nanos nanos = nanos_is nanos

    pub both_read : {n : ℕ} → ReadsBetween rest (bytes " ") behind (Some n) → ReadsLifetime line before behind (Some (record { secs = s; nanos = n }))
    both_read nanos = nanos_is nanos

-- ---- a call's tick
module _ (line : List ℕ) where
  pub no_tick : None ≡ number_after (bytes "(at ") line → None ≡ read_in (bytes "(at 0 (") line
  no_tick reads = sym (field_none (bytes "(at ") refl line reads 0 zeros (bytes " ("))

  module _ {n : ℕ} {l : List ℕ} (reads : Some (n, l) ≡ number_after (bytes "(at ") line) where
    tick_is : read_in (bytes "(at 0 (") line ≡ and_then (read_text (bytes " (") l) (λ s. Some (n ∷ 0 ∷ 0 ∷ 0 ∷ 0 ∷ [], s))
    unfolding read_from
    tick_is = field_some (bytes "(at ") refl line reads 0 zeros (bytes " (") ∙ text_on (bytes " (") refl 1 (n ∷ 0 ∷ 0 ∷ 0 ∷ 0 ∷ []) [] l

    pub no_open : Starts l (bytes " (") None → None ≡ read_in (bytes "(at 0 (") line
    no_open starts = sym (tick_is ∙ rw (sym starts) refl)

    pub opened : {rest : List ℕ} → Starts l (bytes " (") (Some rest) → Some (n ∷ 0 ∷ 0 ∷ 0 ∷ 0 ∷ [], rest) ≡ read_in (bytes "(at 0 (") line
    opened starts = sym (tick_is ∙ rw (sym starts) refl)

-- ---- a line
module _ (line : List ℕ) where
  pub long_line : 200 < length line → form_in line ≡ None
  unfolding form_in
  long_line h = simp (lt-ltb 200 (length line) h)

  module _ (short : length line ≤ 200) {o : Option (List ℕ × List ℕ)} (reads : o ≡ read_in (bytes "(at 0 (") line) where
    pub line_is : form_in line ≡ call_or_book o line
    unfolding form_in
    line_is = simp (le-ltb 200 (length line) short) (rw reads refl)
