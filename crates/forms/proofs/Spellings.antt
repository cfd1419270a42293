-- What is read as a form is its text. So a line is read as what it spells, and as one form only.
use mathlib.Core.Path.{◌≡◌, refl, sym, ap, ◌∙◌}
use mathlib.Core.Bool.{Bool, true, false, cond}
use mathlib.Core.List.{List, [], ◌∷◌, ◌++◌, append_assoc, append-nil}
use Rattle.std.specs.Prelude.{Option, None, Some, IfSome}
use Rattle.std.specs.Option.{option_map, option_or}
use Prim.Native.Nat.{ℕ, zero, suc, ◌^◌, ◌<◌, ◌≤◌}
use native.Mathlib.Omega.{arith}
use borrow.Author.Tests.{ltb-false}
use lib.Dec.{ltb, eqb}
use lib.ListN.{length, get_or, take}
use Rattle.text.specs.Text.{bytes, decimal, fill}
use Rattle.text.specs.Reading.{read_in}
use Rattle.text.proofs.Numbers.{not_found}
use Rattle.text.proofs.Laws.{read_sound, read_size, read_small}
use Rattle.forms.specs.declared.form.Call.{Call}
use Rattle.forms.specs.declared.form.Call.TheVariants as call
use Rattle.forms.specs.declared.form.Form.{Form}
use Rattle.forms.specs.declared.form.Form.TheVariants as form
use Rattle.forms.specs.Forms.{call_numbers, numbers_of, text_of, Spells, Reads, spelled, unreadable}
use Rattle.forms.specs.Reading.{only, whole, by_format, first, second, third, fourth, fifth, put_in, peek_in, ttl_in, by_letter, call_in, book_in, call_or_book, form_in}
use Rattle.forms.proofs.Formats.{Small}
use Rattle.forms.proofs.Texts.{small_take, spelled_read}

-- ---- from what a format reads to the text
abbrev fives : List ℕ → List ℕ
fives ns = first ns ∷ second ns ∷ third ns ∷ fourth ns ∷ fifth ns ∷ []

five : (ns : List ℕ) → length ns ≡ 5 → ns ≡ fives ns
five [] h = absurd (omega arith)
five (a ∷ []) h = absurd (omega arith)
five (a ∷ b ∷ []) h = absurd (omega arith)
five (a ∷ b ∷ c ∷ []) h = absurd (omega arith)
five (a ∷ b ∷ c ∷ d ∷ []) h = absurd (omega arith)
five (a ∷ b ∷ c ∷ d ∷ e ∷ []) h = refl
five (a ∷ b ∷ c ∷ d ∷ e ∷ f ∷ ns) h = absurd (omega arith)

record Found (f s ns rest : List ℕ) : Type 0 where
  text : s ≡ fill f (fives ns) ++ rest
  small : Small (fives ns)

found : (f s ns rest : List ℕ) → read_in f s ≡ Some (ns, rest) → Found f s ns rest
found f s ns rest e =
    let q = five ns (read_size f s ns rest e) in
    record { text = read_sound f s ns rest e ∙ ap (λ (l : List ℕ). fill f l ++ rest) q; small = λ i. rw q at (read_small f s ns rest e i) }

whole_found : (f s ns : List ℕ) → whole f s ≡ Some ns → Found f s ns []
whole_found f s ns e = go (read_in f s) refl e
  where
    go : (o : Option (List ℕ × List ℕ)) → read_in f s ≡ o → only o ≡ Some ns → Found f s ns []
    go None q e = absurd (not_found e)
    go (Some (ms, [])) q e =
        let z : ms ≡ ns = cc in
        rw z at (found f s ms [] q)
    go (Some (ms, c ∷ r)) q e = absurd (not_found e)

-- ---- from the form to its text
record Told (s : List ℕ) (f : Form) : Type 0 where
  text : s ≡ text_of f
  numbers : Small (numbers_of f)

either : {A : Type 0} (P : A → Type 0) (b : Bool) (f g : Option A) → IfSome f P → IfSome g P → IfSome (cond b f g) P
either P true f g p q = p
either P false f g p q = q

fits : {A : Type 0} (P : A → Type 0) (f s : List ℕ) (make : List ℕ → A) → ((ns : List ℕ) → Found f s ns [] → P (make ns)) → IfSome (by_format f make s) P
fits P f s make h = go (whole f s) refl
  where
    go : (o : Option (List ℕ)) → whole f s ≡ o → IfSome (option_map make o) P
    go None e = tt
    go (Some ns) e = h ns (whole_found f s ns e)

one_of : {A : Type 0} (P : A → Type 0) (f g : Option A) → IfSome f P → IfSome g P → IfSome (option_or f g) P
one_of P None g p q = q
one_of P (Some x) g p q = p

module _ {line ts rest : List ℕ} (at : Found (bytes "(at 0 (") line ts rest) where
  -- the rest of the line is the call's text by a format f, which has k numbers
  call_told : (f ns : List ℕ) → Found f rest ns [] → (c : Call) (k : ℕ) → call_numbers c ≡ take k (fives ns)
      → text_of (form.At (first ts) c) ≡ 40 ∷ 97 ∷ 116 ∷ 32 ∷ (decimal (first ts) ++ (32 ∷ 40 ∷ fill f (fives ns))) → Told line (form.At (first ts) c)
  unfolding fill
  call_told f ns r c k n e = record {
    text = at.text ∙ ap (λ (l : List ℕ). 40 ∷ 97 ∷ 116 ∷ 32 ∷ l) (append_assoc (decimal (first ts)) (32 ∷ 40 ∷ []) rest ∙ ap (λ (l : List ℕ). decimal (first ts) ++ (32 ∷ 40 ∷ l)) tail) ∙ sym e;
    numbers = small;
  }
    where
      tail : rest ≡ fill f (fives ns)
      tail = r.text ∙ append-nil (fill f (fives ns))

      small : (i : ℕ) → get_or (first ts ∷ call_numbers c) i 0 < 2 ^ 64
      small zero = at.small 0
      small (suc i) = rw n (small_take k (fives ns) r.small i)

  abbrev TellsCall : Call → Type 0
  TellsCall c = Told line (form.At (first ts) c)

  put_told : IfSome (put_in rest) TellsCall
  unfolding put_in fill
  put_told =
      one_of TellsCall _ _
      (fits TellsCall _ rest _ (λ ns r. call_told (bytes "put 0 0 (ttl 0 0)))") ns r (call.PutWithTtl (first ns) (second ns) (record { secs = third ns; nanos = fourth ns })) 4 refl refl))
      (fits TellsCall _ rest _ (λ ns r. call_told (bytes "put 0 0))") ns r (call.Put (first ns) (second ns)) 2 refl refl))

  peek_told : IfSome (peek_in rest) TellsCall
  unfolding peek_in fill
  peek_told =
      one_of TellsCall _ _
      (fits TellsCall _ rest _ (λ ns r. call_told (bytes "peek 0))") ns r (call.Peek (first ns)) 1 refl refl))
      (fits TellsCall _ rest _ (λ ns r. call_told (bytes "purge))") ns r call.Purge 0 refl refl))

  ttl_told : IfSome (ttl_in rest) TellsCall
  unfolding ttl_in fill
  ttl_told = fits TellsCall _ rest _ (λ ns r. call_told (bytes "ttl 0 0 0))") ns r (call.Ttl (first ns) (record { secs = second ns; nanos = third ns })) 3 refl refl)

  by_letter_told : (c : ℕ) → IfSome (by_letter c rest) TellsCall
  unfolding by_letter fill
  by_letter_told c =
      either TellsCall (eqb c 112) _ _
      (one_of TellsCall _ _ put_told peek_told)
      (either TellsCall (eqb c 103) _ _
      (fits TellsCall _ rest _ (λ ns r. call_told (bytes "get 0))") ns r (call.Get (first ns)) 1 refl refl))
      (either TellsCall (eqb c 115) _ _
      (fits TellsCall _ rest _ (λ ns r. call_told (bytes "status 0))") ns r (call.Status (first ns)) 1 refl refl))
      (either TellsCall (eqb c 116) _ _ ttl_told
      (either TellsCall (eqb c 100) _ _
      (one_of TellsCall _ _
      (fits TellsCall _ rest _ (λ ns r. call_told (bytes "drop 0))") ns r (call.Drop (first ns)) 1 refl refl))
      (fits TellsCall _ rest _ (λ ns r. call_told (bytes "due))") ns r call.Due 0 refl refl)))
      (either TellsCall (eqb c 104) _ _
      (fits TellsCall _ rest _ (λ ns r. call_told (bytes "has 0))") ns r (call.Has (first ns)) 1 refl refl))
      (either TellsCall (eqb c 108) _ _
      (fits TellsCall _ rest _ (λ ns r. call_told (bytes "live))") ns r call.Live 0 refl refl))
      (either TellsCall (eqb c 99) _ _
      (fits TellsCall _ rest _ (λ ns r. call_told (bytes "clear))") ns r call.Clear 0 refl refl))
      tt)))))))

call_in_told : (line ts rest : List ℕ) → Found (bytes "(at 0 (") line ts rest → IfSome (option_map (λ c. form.At (first ts) c) (call_in rest)) (Told line)
unfolding call_in
call_in_told line ts [] h = tt
call_in_told line ts (c ∷ rest) h = go (by_letter c (c ∷ rest)) (by_letter_told h c)
  where
    go : (o : Option Call) → IfSome o (λ c. Told line (form.At (first ts) c)) → IfSome (option_map (λ c. form.At (first ts) c) o) (Told line)
    go None t = tt
    go (Some c) t = t

book_told : (line : List ℕ) → IfSome (book_in line) (Told line)
unfolding book_in fill
book_told line =
    one_of (Told line) _ _
    (fits (Told line) _ line _ (λ ns r. record { text = r.text ∙ append-nil (fill (bytes "(book 0 0 0)") (fives ns)); numbers = small_take 3 (fives ns) r.small }))
    (fits (Told line) _ line _ (λ ns r. record { text = r.text ∙ append-nil (fill (bytes "(book 0 0 0 (ttl 0 0))") (fives ns)); numbers = r.small }))

-- ---- a line
spells : (s : List ℕ) → IfSome (form_in s) (Spells s)
unfolding form_in
spells s = go (ltb 200 (length s)) refl (read_in (bytes "(at 0 (") s) refl
  where
    told : length s ≤ 200 → (o : Option Form) → IfSome o (Told s) → IfSome o (Spells s)
    told h None t = tt
    told h (Some f) t = record { size = h; numbers = t.numbers; text = t.text }

    go : (b : Bool) → ltb 200 (length s) ≡ b → (o : Option (List ℕ × List ℕ)) → read_in (bytes "(at 0 (") s ≡ o → IfSome (cond b None (call_or_book o s)) (Spells s)
    go true h o q = tt
    go false h None q = told (ltb-false 200 (length s) h) (book_in s) (book_told s)
    go false h (Some (ts, rest)) q = told (ltb-false 200 (length s) h) (option_map (λ c. form.At (first ts) c) (call_in rest)) (call_in_told s ts rest (found (bytes "(at 0 (") s ts rest q))

reads : (s : List ℕ) → Reads s (form_in s)
reads s = go (form_in s) refl (spells s)
  where
    go : (o : Option Form) → form_in s ≡ o → IfSome o (Spells s) → Reads s o
    go None e p = unreadable (λ f q. not_found (sym e ∙ spelled_read q))
    go (Some f) e p = spelled p

pub parsed : {s : List ℕ} {r : Option Form} → form_in s ≡ r → Reads s r
parsed {s} e = rw e at (reads s)

reads_as : {s : List ℕ} {r : Option Form} → Reads s r → form_in s ≡ r
reads_as (spelled p) = spelled_read p
reads_as {s} (unreadable n) = go (form_in s) refl (spells s)
  where
    go : (o : Option Form) → form_in s ≡ o → IfSome o (Spells s) → o ≡ None
    go None e p = refl
    go (Some f) e p = absurd (n f p)

-- a line is read as one form
pub reads_once : {s : List ℕ} {q r : Option Form} → Reads s q → Reads s r → q ≡ r
reads_once p q = sym (reads_as p) ∙ reads_as q
