-- What the parser's steps come to. That this reads each form from its text, and nothing else, is shown in proofs/.
use Rattle.std.specs.Prelude.{◌≡◌, Option, None, Some, true, cond, List, [], ◌∷◌, ◌++◌, ℕ, suc, ◌<◌, ltb, eqb, length, get_or, set}
use Rattle.std.specs.Borrow.{Bor}
use Rattle.std.specs.Option.{option_map, option_or}
use Rattle.text.specs.Text.{bytes}
use Rattle.text.specs.Reading.{read_from, read_in, plain}
use Rattle.forms.specs.declared.form.Call.{Call}
use Rattle.forms.specs.declared.form.Call.TheVariants as call
use Rattle.forms.specs.declared.form.Form.{Form}
use Rattle.forms.specs.declared.form.Form.TheVariants as form
use Rattle.forms.specs.declared.form.Lifetime.{Lifetime}

-- ---- the numbers that a format finds in a whole text
abbrev pub only : Option (List ℕ × List ℕ) → Option (List ℕ)
only None = None
only (Some (ns, [])) = Some ns
only (Some (ns, c ∷ s)) = None

abbrev pub whole : List ℕ → List ℕ → Option (List ℕ)
whole f s = only (read_in f s)

-- a call's only number, with its name before it and two brackets behind it
abbrev pub numbers_in : Option ℕ → Option (List ℕ)
numbers_in r = option_map (λ n. n ∷ 0 ∷ 0 ∷ 0 ∷ 0 ∷ []) r

pub record ReadsOnly (line name : List ℕ) (r : Option ℕ) : Type 0 where
  pub numbers : plain name ≡ true → numbers_in r ≡ whole (name ++ bytes "0))") line

-- a lifetime's two numbers, behind k others
abbrev pub lifetime_in : ℕ → List ℕ → Option Lifetime → Option (List ℕ)
lifetime_in k ns r = option_map (λ l. set (set ns k l.secs) (suc k) l.nanos) r

pub record ReadsLifetime (line before behind : List ℕ) (r : Option Lifetime) : Type 0 where
  pub numbers : plain before ≡ true → plain behind ≡ true → (k : ℕ) → k < 4 → (ns : List ℕ) → lifetime_in k ns r ≡ only (read_from k ns (before ++ (48 ∷ 32 ∷ 48 ∷ behind)) line)

-- ---- calls, from their name on: the first format that fits
abbrev pub by_format : {A : Type 0} → List ℕ → (List ℕ → A) → List ℕ → Option A
by_format f make s = option_map make (whole f s)

abbrev pub first : List ℕ → ℕ
first ns = get_or ns 0 0

abbrev pub second : List ℕ → ℕ
second ns = get_or ns 1 0

abbrev pub third : List ℕ → ℕ
third ns = get_or ns 2 0

abbrev pub fourth : List ℕ → ℕ
fourth ns = get_or ns 3 0

abbrev pub fifth : List ℕ → ℕ
fifth ns = get_or ns 4 0

unfoldable pub put_in : List ℕ → Option Call
put_in s = option_or (by_format (bytes "put 0 0 (ttl 0 0)))") (λ ns. call.PutWithTtl (first ns) (second ns) (record { secs = third ns; nanos = fourth ns })) s) (by_format (bytes "put 0 0))") (λ ns. call.Put (first ns) (second ns)) s)

-- with its name, and its number
abbrev pub one_in : List ℕ → (ℕ → Call) → List ℕ → Option Call
one_in name make s = by_format (name ++ bytes "0))") (λ ns. make (first ns)) s

-- with its name alone
abbrev pub none_in : List ℕ → Call → List ℕ → Option Call
none_in name c s = by_format name (λ _. c) s

abbrev pub ReadsName : List ℕ → List ℕ → Call → Option Call → Type 0
ReadsName line name c r = plain name ≡ true → r ≡ none_in name c line

unfoldable pub peek_in : List ℕ → Option Call
peek_in s = option_or (one_in (bytes "peek ") call.Peek s) (none_in (bytes "purge))") call.Purge s)

unfoldable pub ttl_in : List ℕ → Option Call
ttl_in s = by_format (bytes "ttl 0 0 0))") (λ ns. call.Ttl (first ns) (record { secs = second ns; nanos = third ns })) s

-- by the first letter
unfoldable pub by_letter : ℕ → List ℕ → Option Call
by_letter c s =
    cond (eqb c 112)
    (option_or (put_in s) (peek_in s))
    (cond (eqb c 103)
    (one_in (bytes "get ") call.Get s)
    (cond (eqb c 115)
    (one_in (bytes "status ") call.Status s)
    (cond (eqb c 116)
    (ttl_in s)
    (cond (eqb c 100)
    (option_or (one_in (bytes "drop ") call.Drop s) (none_in (bytes "due))") call.Due s))
    (cond (eqb c 104)
    (one_in (bytes "has ") call.Has s)
    (cond (eqb c 108) (none_in (bytes "live))") call.Live s) (cond (eqb c 99) (none_in (bytes "clear))") call.Clear s) None)))))))

unfoldable pub call_in : List ℕ → Option Call
call_in [] = None
call_in (c ∷ s) = by_letter c (c ∷ s)

unfoldable pub book_in : List ℕ → Option Form
book_in s = option_or (by_format (bytes "(book 0 0 0)") (λ ns. form.Book (first ns) (second ns) (third ns) None) s) (by_format (bytes "(book 0 0 0 (ttl 0 0))") (λ ns. form.Book (first ns) (second ns) (third ns) (Some (record { secs = fourth ns; nanos = fifth ns }))) s)

-- ---- a line
-- a call's tick, and the text from its name on
abbrev pub tick_in : Option (ℕ × Bor (List ℕ)) → Option (List ℕ × List ℕ)
tick_in r = option_map (λ t. (t.0 ∷ 0 ∷ 0 ∷ 0 ∷ 0 ∷ [], t.1.now)) r

abbrev pub ReadsTick : List ℕ → Option (ℕ × Bor (List ℕ)) → Type 0
ReadsTick line r = tick_in r ≡ read_in (bytes "(at 0 (") line

abbrev pub call_or_book : Option (List ℕ × List ℕ) → List ℕ → Option Form
call_or_book None s = book_in s
call_or_book (Some (ns, rest)) s = option_map (λ c. form.At (first ns) c) (call_in rest)

unfoldable pub form_in : List ℕ → Option Form
form_in s = cond (ltb 200 (length s)) None (call_or_book (read_in (bytes "(at 0 (") s) s)
