-- What the parser's pieces make of a line: a number after another, up to one that is not there or to the end.
use mathlib.Core.Path.{◌≡◌, refl, sym, ◌∙◌}
use mathlib.Core.Bool.{Bool, true, false}
use mathlib.Core.List.{List, [], ◌∷◌}
use Rattle.std.specs.Prelude.{Option, None, Some}
use Rattle.std.specs.Option.{option_map}
use Prim.Native.Nat.{ℕ}
use native.Mathlib.Omega.{arith}
use Rattle.text.specs.Text.{bytes}
use Rattle.text.specs.Reading.{number_after, read_from, Ends}
use Rattle.text.proofs.Laws.{end_sound, field_none, field_some}
use Rattle.forms.specs.declared.form.Call.TheVariants as call
use Rattle.forms.specs.declared.form.Form.TheVariants as form
use Rattle.forms.specs.declared.form.Lifetime.{Lifetime}
use Rattle.forms.specs.Reading.{ReadsLifetime, put_in, ttl_in, book_in}
use Rattle.forms.proofs.Wholes.{ended, unended, same_map, or_none}

-- ---- a put
module _ (line : List ℕ) where
  pub put_no_key : None ≡ number_after (bytes "put ") line → put_in line ≡ None
  unfolding put_in
  put_no_key a = simp (field_none (bytes "put ") refl line a)

  module _ {k : ℕ} {l : List ℕ} (a : Some (k, l) ≡ number_after (bytes "put ") line) where
    pub put_no_value : None ≡ number_after (bytes " ") l → put_in line ≡ None
    unfolding put_in
    put_no_value b = simp (field_some (bytes "put ") refl line a, field_none (bytes " ") refl l b)

    module _ {v : ℕ} {m : List ℕ} (b : Some (v, m) ≡ number_after (bytes " ") l) {e : Bool} (end : Ends m (bytes "))") e) where
      -- two brackets are no lifetime
      no_ttl : e ≡ true → (ns : List ℕ) → read_from 2 ns (bytes " (ttl 0 0)))") m ≡ None
      unfolding read_from
      no_ttl h ns = rw (end_sound (bytes "))") m end h) refl

      pub put_ended : e ≡ true → put_in line ≡ Some (call.Put k v)
      unfolding put_in
      put_ended h = simp (field_some (bytes "put ") refl line a, field_some (bytes " ") refl l b, no_ttl h, ended (bytes "))") refl m end h)

      timed_is : e ≡ false → {r : Option Lifetime} → ReadsLifetime m (bytes " (ttl ") (bytes ")))") r → put_in line ≡ option_map (λ (l : Lifetime). call.PutWithTtl k v l) r
      unfolding put_in
      timed_is h {r} t = simp (field_some (bytes "put ") refl line a, field_some (bytes " ") refl l b, sym (t.numbers refl refl 2 (omega arith) (k ∷ v ∷ 0 ∷ 0 ∷ 0 ∷ [])), unended (bytes "))") refl m end h) (or_none _ ∙ same_map _ _ r)

      pub put_other : e ≡ false → ReadsLifetime m (bytes " (ttl ") (bytes ")))") None → put_in line ≡ None
      put_other h t = timed_is h t

      pub put_timed : e ≡ false → {r : Lifetime} → ReadsLifetime m (bytes " (ttl ") (bytes ")))") (Some r) → put_in line ≡ Some (call.PutWithTtl k v r)
      put_timed h t = timed_is h t

-- ---- a new lifetime
module _ (line : List ℕ) where
  pub ttl_no_key : None ≡ number_after (bytes "ttl ") line → ttl_in line ≡ None
  unfolding ttl_in
  ttl_no_key a = simp (field_none (bytes "ttl ") refl line a)

  ttl_is : {k : ℕ} {l : List ℕ} → Some (k, l) ≡ number_after (bytes "ttl ") line → {r : Option Lifetime} → ReadsLifetime l (bytes " ") (bytes "))") r → ttl_in line ≡ option_map (λ (l : Lifetime). call.Ttl k l) r
  unfolding ttl_in
  ttl_is {k} a {r} t = simp (field_some (bytes "ttl ") refl line a, sym (t.numbers refl refl 1 (omega arith) (k ∷ 0 ∷ 0 ∷ 0 ∷ 0 ∷ []))) (same_map _ _ r)

  pub ttl_no_ttl : {k : ℕ} {l : List ℕ} → Some (k, l) ≡ number_after (bytes "ttl ") line → ReadsLifetime l (bytes " ") (bytes "))") None → ttl_in line ≡ None
  ttl_no_ttl a t = ttl_is a t

  pub ttl_read : {k : ℕ} {l : List ℕ} → Some (k, l) ≡ number_after (bytes "ttl ") line → {r : Lifetime} → ReadsLifetime l (bytes " ") (bytes "))") (Some r) → ttl_in line ≡ Some (call.Ttl k r)
  ttl_read a t = ttl_is a t

-- ---- a book
module _ (line : List ℕ) where
  pub no_capacity : None ≡ number_after (bytes "(book ") line → book_in line ≡ None
  unfolding book_in
  no_capacity a = simp (field_none (bytes "(book ") refl line a)

  module _ {c : ℕ} {l : List ℕ} (a : Some (c, l) ≡ number_after (bytes "(book ") line) where
    pub no_limit : None ≡ number_after (bytes " ") l → book_in line ≡ None
    unfolding book_in
    no_limit b = simp (field_some (bytes "(book ") refl line a, field_none (bytes " ") refl l b)

    module _ {d : ℕ} {m : List ℕ} (b : Some (d, m) ≡ number_after (bytes " ") l) where
      pub no_seq : None ≡ number_after (bytes " ") m → book_in line ≡ None
      unfolding book_in
      no_seq f = simp (field_some (bytes "(book ") refl line a, field_some (bytes " ") refl l b, field_none (bytes " ") refl m f)

      module _ {n : ℕ} {o : List ℕ} (f : Some (n, o) ≡ number_after (bytes " ") m) {e : Bool} (end : Ends o (bytes ")") e) where
        pub book_ended : e ≡ true → book_in line ≡ Some (form.Book c d n None)
        unfolding book_in
        book_ended h = simp (field_some (bytes "(book ") refl line a, field_some (bytes " ") refl l b, field_some (bytes " ") refl m f, ended (bytes ")") refl o end h)

        with_ttl_is : e ≡ false → {r : Option Lifetime} → ReadsLifetime o (bytes " (ttl ") (bytes "))") r → book_in line ≡ option_map (λ (l : Lifetime). form.Book c d n (Some l)) r
        unfolding book_in
        with_ttl_is h {r} t = simp (field_some (bytes "(book ") refl line a, field_some (bytes " ") refl l b, field_some (bytes " ") refl m f, unended (bytes ")") refl o end h, sym (t.numbers refl refl 3 (omega arith) (c ∷ d ∷ n ∷ 0 ∷ 0 ∷ []))) (same_map _ _ r)

        pub book_other : e ≡ false → ReadsLifetime o (bytes " (ttl ") (bytes "))") None → book_in line ≡ None
        book_other h t = with_ttl_is h t

        pub book_timed : e ≡ false → {r : Lifetime} → ReadsLifetime o (bytes " (ttl ") (bytes "))") (Some r) → book_in line ≡ Some (form.Book c d n (Some r))
        book_timed h t = with_ttl_is h t
