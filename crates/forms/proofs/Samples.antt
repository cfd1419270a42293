-- Worked examples: what each line is read as, by computation.
use mathlib.Core.Path.{◌≡◌, refl}
use mathlib.Core.List.{List, [], ◌∷◌, map}
use Rattle.std.specs.Prelude.{Option, None, Some}
use Prim.Native.String.{String}
use Rattle.text.specs.Text.{bytes}
use Rattle.text.specs.Reading.{read_on, read_number, read_from}
use Rattle.forms.specs.declared.form.Call.TheVariants as call
use Rattle.forms.specs.declared.form.Form.{Form}
use Rattle.forms.specs.declared.form.Form.TheVariants as form
use Rattle.forms.specs.Forms.{Reads}
use Rattle.forms.specs.Reading.{put_in, peek_in, ttl_in, by_letter, call_in, book_in, form_in}
use Rattle.forms.proofs.Spellings.{parsed}

pub record Sample : Type 0 where
  pub line : String
  pub form : Option Form

abbrev is : String → Form → Sample
is s f = record { line = s; form = Some f }

abbrev is_none : String → Sample
is_none s = record { line = s; form = None }

abbrev pub Hold : List Sample → Type 0
Hold [] = Unit
Hold (s ∷ ss) = Reads (bytes s.line) s.form × Hold ss

all_hold : (ss : List Sample) → map (λ (s : Sample). form_in (bytes s.line)) ss ≡ map (λ (s : Sample). s.form) ss → Hold ss
all_hold [] e = tt
all_hold (s ∷ ss) e =
    let p : form_in (bytes s.line) ≡ s.form = cc in
    (parsed p, all_hold ss cc)

abbrev pub samples : List Sample
samples =
    -- document 01's session
    is "(book 2 4 0)" (form.Book 2 4 0 None)
    ∷ is "(at 1000 (put 7 70 (ttl 2 0)))" (form.At 1000 (call.PutWithTtl 7 70 (record { secs = 2; nanos = 0 })))
    ∷ is "(at 3000 (get 7))" (form.At 3000 (call.Get 7))
    ∷ is "(at 3000 (due))" (form.At 3000 call.Due)
    -- the other forms
    ∷ is "(book 2 4 0 (ttl 0 5000000))" (form.Book 2 4 0 (Some (record { secs = 0; nanos = 5000000 })))
    ∷ is "(at 0 (put 7 70))" (form.At 0 (call.Put 7 70))
    ∷ is "(at 0 (peek 7))" (form.At 0 (call.Peek 7))
    ∷ is "(at 0 (has 7))" (form.At 0 (call.Has 7))
    ∷ is "(at 0 (drop 7))" (form.At 0 (call.Drop 7))
    ∷ is "(at 0 (ttl 7 2 500))" (form.At 0 (call.Ttl 7 (record { secs = 2; nanos = 500 })))
    ∷ is "(at 0 (status 7))" (form.At 0 (call.Status 7))
    ∷ is "(at 0 (purge))" (form.At 0 call.Purge)
    ∷ is "(at 0 (live))" (form.At 0 call.Live)
    ∷ is "(at 0 (clear))" (form.At 0 call.Clear)
    -- the largest number, and one more
    ∷ is "(at 18446744073709551615 (due))" (form.At 18446744073709551615 call.Due)
    ∷ is_none "(at 18446744073709551616 (due))"
    -- a leading zero, two spaces, a byte after the form, a bracket too few, a name cut short, and no byte at all
    ∷ is_none "(at 3000 (get 07))"
    ∷ is_none "(at 3000  (get 7))"
    ∷ is_none "(at 3000 (get 7)))"
    ∷ is_none "(book 2 4 0) "
    ∷ is_none "(at 3000 (get 7)"
    ∷ is_none "(at 3000 (ge 7))"
    ∷ is_none ""
    ∷ []

pub samples_hold : Hold samples
unfolding read_on read_number read_from put_in peek_in ttl_in by_letter call_in book_in form_in
samples_hold = all_hold samples refl
