-- Each form is read from its text.
use mathlib.Core.Path.{◌≡◌, refl, ◌∙◌}
use mathlib.Core.Bool.{false}
use mathlib.Core.List.{List, [], ◌∷◌, ◌++◌}
use Rattle.std.specs.Prelude.{None, Some}
use Rattle.std.specs.Option.{option_map}
use Prim.Native.Nat.{ℕ, zero, suc}
use native.Mathlib.Omega.{arith}
use borrow.Author.Tests.{le-ltb, eqb-false}
use lib.Dec.{eqb}
use lib.ListN.{length, take}
use Rattle.text.specs.Text.{bytes, fill}
use Rattle.text.specs.Reading.{read_in}
use Rattle.text.proofs.Fills.{fill_other}
use Rattle.forms.specs.declared.form.Call.{Call}
use Rattle.forms.specs.declared.form.Call.TheVariants as call
use Rattle.forms.specs.declared.form.Form.{Form}
use Rattle.forms.specs.declared.form.Form.TheVariants as form
use Rattle.forms.specs.declared.form.Lifetime.{Lifetime}
use Rattle.forms.specs.Forms.{call_numbers, numbers_of, text_of, Spells}
use Rattle.forms.specs.Reading.{put_in, peek_in, ttl_in, by_letter, call_in, book_in, call_or_book, form_in}
use Rattle.forms.proofs.Formats.{Small, prefix_read, own_read, differ}

pub small_take : (k : ℕ) (ns : List ℕ) → Small ns → Small (take k ns)
small_take zero ns b i = omega arith
small_take (suc k) [] b i = omega arith
small_take (suc k) (n ∷ ns) b zero = b 0
small_take (suc k) (n ∷ ns) b (suc i) = small_take k ns (λ j. b (suc j)) i

-- ---- from a call's text, from its name on, to the call
put_read : (k v : ℕ) → Small (k ∷ v ∷ []) → put_in (fill (bytes "put 0 0))") (k ∷ v ∷ [])) ≡ Some (call.Put k v)
unfolding put_in
put_read k v b = simp (differ (bytes "put 0 0") (k ∷ v ∷ []) b 32 (bytes "(ttl 0 0)))") 41 (bytes ")") [] refl refl refl refl, own_read (bytes "put 0 0))") (k ∷ v ∷ []) b refl)

put_with_ttl_read : (k v : ℕ) (l : Lifetime) → Small (k ∷ v ∷ l.secs ∷ l.nanos ∷ []) → put_in (fill (bytes "put 0 0 (ttl 0 0)))") (k ∷ v ∷ l.secs ∷ l.nanos ∷ [])) ≡ Some (call.PutWithTtl k v l)
unfolding put_in
put_with_ttl_read k v l b = simp (own_read (bytes "put 0 0 (ttl 0 0)))") (k ∷ v ∷ l.secs ∷ l.nanos ∷ []) b refl)

ttl_read : (k : ℕ) (l : Lifetime) → Small (k ∷ l.secs ∷ l.nanos ∷ []) → ttl_in (fill (bytes "ttl 0 0 0))") (k ∷ l.secs ∷ l.nanos ∷ [])) ≡ Some (call.Ttl k l)
unfolding ttl_in
ttl_read k l b = simp (own_read (bytes "ttl 0 0 0))") (k ∷ l.secs ∷ l.nanos ∷ []) b refl)

-- what starts with a put's first letter and not with its name is no put
peek_put : (k : ℕ) → Small (k ∷ []) → put_in (fill (bytes "peek 0))") (k ∷ [])) ≡ None
unfolding put_in
peek_put k b = simp (differ (bytes "p") [] (small_take 0 (k ∷ []) b) 117 (bytes "t 0 0 (ttl 0 0)))") 101 (bytes "ek 0))") (k ∷ []) refl refl refl refl, differ (bytes "p") [] (small_take 0 (k ∷ []) b) 117 (bytes "t 0 0))") 101 (bytes "ek 0))") (k ∷ []) refl refl refl refl)

purge_put : Small [] → put_in (fill (bytes "purge))") []) ≡ None
unfolding put_in
purge_put b = simp (differ (bytes "pu") [] b 116 (bytes " 0 0 (ttl 0 0)))") 114 (bytes "ge))") [] refl refl refl refl, differ (bytes "pu") [] b 116 (bytes " 0 0))") 114 (bytes "ge))") [] refl refl refl refl)

-- ---- from a form's text to the form
-- the tick, and the call's first letter
named : (t c : ℕ) (f ns : List ℕ) → Small (t ∷ ns) → eqb c 48 ≡ false
    → call_or_book (read_in (bytes "(at 0 (") (fill (bytes "(at 0 (" ++ (c ∷ f)) (t ∷ ns))) (fill (bytes "(at 0 (" ++ (c ∷ f)) (t ∷ ns)) ≡ option_map (λ x. form.At t x) (by_letter c (fill (c ∷ f) ns))
unfolding call_in
named t c f ns b z = simp (prefix_read (bytes "(at 0 (") (t ∷ []) (small_take 1 (t ∷ ns) b) (c ∷ f) ns refl) (rw (fill_other c f ns (eqb-false c 48 z)))

module _ (t : ℕ) where
  call_read : (c : Call) → Small (t ∷ call_numbers c) → call_or_book (read_in (bytes "(at 0 (") (text_of (form.At t c))) (text_of (form.At t c)) ≡ Some (form.At t c)
  unfolding by_letter peek_in
  call_read (call.Put k v) b = named t 112 (bytes "ut 0 0))") (k ∷ v ∷ []) b refl ∙ simp (put_read k v (λ i. b (suc i)))
  call_read (call.PutWithTtl k v l) b = named t 112 (bytes "ut 0 0 (ttl 0 0)))") (k ∷ v ∷ l.secs ∷ l.nanos ∷ []) b refl ∙ simp (put_with_ttl_read k v l (λ i. b (suc i)))
  call_read (call.Get k) b = named t 103 (bytes "et 0))") (k ∷ []) b refl ∙ simp (own_read (bytes "get 0))") (k ∷ []) (λ i. b (suc i)) refl)
  call_read (call.Peek k) b = named t 112 (bytes "eek 0))") (k ∷ []) b refl ∙ simp (peek_put k (λ i. b (suc i)), own_read (bytes "peek 0))") (k ∷ []) (λ i. b (suc i)) refl)
  call_read (call.Has k) b = named t 104 (bytes "as 0))") (k ∷ []) b refl ∙ simp (own_read (bytes "has 0))") (k ∷ []) (λ i. b (suc i)) refl)
  call_read (call.Drop k) b = named t 100 (bytes "rop 0))") (k ∷ []) b refl ∙ simp (own_read (bytes "drop 0))") (k ∷ []) (λ i. b (suc i)) refl)
  call_read (call.Ttl k l) b = named t 116 (bytes "tl 0 0 0))") (k ∷ l.secs ∷ l.nanos ∷ []) b refl ∙ simp (ttl_read k l (λ i. b (suc i)))
  call_read (call.Status k) b = named t 115 (bytes "tatus 0))") (k ∷ []) b refl ∙ simp (own_read (bytes "status 0))") (k ∷ []) (λ i. b (suc i)) refl)
  call_read call.Purge b = named t 112 (bytes "urge))") [] b refl ∙ simp (purge_put (λ i. b (suc i)), differ (bytes "p") [] (λ i. b (suc i)) 101 (bytes "ek 0))") 117 (bytes "rge))") [] refl refl refl refl, own_read (bytes "purge))") [] (λ i. b (suc i)) refl)
  call_read call.Due b = named t 100 (bytes "ue))") [] b refl ∙ simp (differ (bytes "d") [] (λ i. b (suc i)) 114 (bytes "op 0))") 117 (bytes "e))") [] refl refl refl refl, own_read (bytes "due))") [] (λ i. b (suc i)) refl)
  call_read call.Live b = named t 108 (bytes "ive))") [] b refl ∙ simp (own_read (bytes "live))") [] (λ i. b (suc i)) refl)
  call_read call.Clear b = named t 99 (bytes "lear))") [] b refl ∙ simp (own_read (bytes "clear))") [] (λ i. b (suc i)) refl)

book_read : (c d s : ℕ) → Small (c ∷ d ∷ s ∷ []) → book_in (fill (bytes "(book 0 0 0)") (c ∷ d ∷ s ∷ [])) ≡ Some (form.Book c d s None)
unfolding book_in
book_read c d s b = simp (own_read (bytes "(book 0 0 0)") (c ∷ d ∷ s ∷ []) b refl)

book_with_ttl_read : (c d s : ℕ) (l : Lifetime) → Small (c ∷ d ∷ s ∷ l.secs ∷ l.nanos ∷ []) → book_in (fill (bytes "(book 0 0 0 (ttl 0 0))") (c ∷ d ∷ s ∷ l.secs ∷ l.nanos ∷ [])) ≡ Some (form.Book c d s (Some l))
unfolding book_in
book_with_ttl_read c d s l b =
    simp (
      differ (bytes "(book 0 0 0") (c ∷ d ∷ s ∷ []) (small_take 3 (c ∷ d ∷ s ∷ l.secs ∷ l.nanos ∷ []) b) 41 [] 32 (bytes "(ttl 0 0))") (l.secs ∷ l.nanos ∷ []) refl refl refl refl,
      own_read (bytes "(book 0 0 0 (ttl 0 0))") (c ∷ d ∷ s ∷ l.secs ∷ l.nanos ∷ []) b refl,
    )

no_call : (f ns : List ℕ) → Small ns → call_or_book (read_in (bytes "(at 0 (") (fill (bytes "(b" ++ f) ns)) (fill (bytes "(b" ++ f) ns) ≡ book_in (fill (bytes "(b" ++ f) ns)
no_call f ns b = simp (differ (bytes "(") [] (small_take 0 ns b) 97 (bytes "t 0 (") 98 f ns refl refl refl refl)

form_read : (f : Form) → Small (numbers_of f) → call_or_book (read_in (bytes "(at 0 (") (text_of f)) (text_of f) ≡ Some f
form_read (form.Book c d s None) b = no_call (bytes "ook 0 0 0)") (c ∷ d ∷ s ∷ []) b ∙ book_read c d s b
form_read (form.Book c d s (Some l)) b = no_call (bytes "ook 0 0 0 (ttl 0 0))") (c ∷ d ∷ s ∷ l.secs ∷ l.nanos ∷ []) b ∙ book_with_ttl_read c d s l b
form_read (form.At t c) b = call_read t c b

pub spelled_read : {s : List ℕ} {f : Form} → Spells s f → form_in s ≡ Some f
unfolding form_in
spelled_read {s} {f} p = simp (le-ltb 200 (length s) p.size) (rw p.text (form_read f p.numbers))
