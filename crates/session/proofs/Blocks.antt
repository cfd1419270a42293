-- Lines of a block, one after the other: what is read of it and what is written for it grow by a line each.
use mathlib.Core.Path.{◌≡◌, refl, sym, ap, ◌∙◌}
use mathlib.Core.Logic.{◌≢◌}
use mathlib.Core.Bool.{Bool, true, false, cond}
use mathlib.Core.List.{List, [], ◌∷◌, ◌++◌, append_assoc, append-nil}
use Rattle.std.specs.Prelude.{Option, None, Some}
use Rattle.std.specs.List.{position, position_or_len}
use Rattle.std.proofs.lemmas.List.{drop-take}
use Rattle.std.proofs.lemmas.List.Quantifiers.{position-Some}
use Rattle.std.proofs.lemmas.List.Sums.{fails_before_first}
use borrow.Author.Tests.{eqb-true, eqb-false, ltb-false}
use lib.Dec.{eqb, ltb}
use Prim.Native.Nat.{ℕ, suc, ◌+◌, ◌-◌, ◌<◌, ◌≤◌}
use native.Mathlib.Omega.{arith}
use borrow.Rule.Slice.PartMut.{mid_of, put_mid}
use lib.ListN.{length, get_or, take, drop, length-take, length-append, length-drop, take-append-drop, get_or-eq_default}
use lib.Seq.{sets, sets-eq, take-suc, get_or-take, drop-drop, drop-length, take-take}
use Rattle.rings.proofs.Counts.{by_lt}
use Rattle.lazy_heap.proofs.Parts.{part_length}
use Rattle.expiring.proofs.Frames.{rest_is, rest_length}
use Rattle.text.proofs.Laws.{sets_append}
use Rattle.forms.specs.declared.form.Form.{Form}
use Rattle.session.specs.declared.step.Session.{Session}
use Rattle.forms.specs.Forms.{Reads}
use Rattle.forms.specs.Reading.{form_in}
use Rattle.session.specs.Session.{State, step, printed, state_after, Stands, Written, room, Steps}
use Rattle.session.specs.Session as Session
use Rattle.session.specs.Lines.{Unbroken, joined, ReadAs, none, more, Reached}
use Rattle.forms.proofs.Spellings.{parsed}

-- ---- lists of lines
joined_then : (ls : List (List ℕ)) (l : List ℕ) → joined (ls ++ (l ∷ [])) ≡ joined ls ++ (l ++ (10 ∷ []))
unfolding joined
joined_then [] l = refl
joined_then (x ∷ ls) l = ap (λ (z : List ℕ). x ++ 10 ∷ z) (joined_then ls l) ∙ sym (append_assoc x (10 ∷ joined ls) (l ++ (10 ∷ [])))

read_then : {ls : List (List ℕ)} {fs : List (Option Form)} {l : List ℕ} {f : Option Form} → ReadAs ls fs → Unbroken l → Reads l f → ReadAs (ls ++ (l ∷ [])) (fs ++ (f ∷ []))
read_then none u r = more u r none
read_then (more v s t) u r = more v s (read_then t u r)

state_then : (size : ℕ) (st : State) (fs : List (Option Form)) (f : Option Form) → state_after size st (fs ++ (f ∷ [])) ≡ (step size (state_after size st fs) f).0
unfolding state_after
state_then size st [] f = refl
state_then size st (g ∷ fs) f = state_then size (step size st g).0 fs f

printed_then : (size : ℕ) (st : State) (fs : List (Option Form)) (f : Option Form) → printed size st (fs ++ (f ∷ [])) ≡ printed size st fs ++ (step size (state_after size st fs) f).1
unfolding printed state_after
printed_then size st [] f = append-nil (step size st f).1
printed_then size st (g ∷ fs) f = ap (λ (z : List ℕ). (step size st g).1 ++ z) (printed_then size (step size st g).0 fs f) ∙ sym (append_assoc (step size st g).1 (printed size (step size st g).0 fs) _)

-- ---- one text behind another
module _ {out out₁ out₂ : List ℕ} (t u : List ℕ) {n m : ℕ} where
  written_then : Written out t out₁ n → out₂ ≡ sets out₁ n u → m ≡ n + length u → Written out (t ++ u) out₂ m
  written_then w e f = record {
    size = f ∙ ap (λ (z : ℕ). z + length u) w.size ∙ sym (length-append t u);
    bytes = e ∙ ap (λ (z : List ℕ). sets z n u) w.bytes ∙ ap (λ (z : ℕ). sets (sets out 0 t) z u) (let i : n ≡ 0 + length t = omega (arith, w.size) in i) ∙ sym (sets_append out 0 t u);
  }

-- a text at the start of what is lent from a place on
lent_text : (out t : List ℕ) (at : ℕ) → at + length t ≤ length out → put_mid at (length out - at) out (sets (mid_of at (length out - at) out) 0 t) ≡ sets out at t
lent_text out t at h =
    let inside : at ≤ length out = omega arith in
    let all : at + (length out - at) ≡ length out = omega arith in
    let zero-less : 0 + length t ≡ length t = omega arith in
    let fits : 0 + length t ≤ length (drop at out) = omega (arith, length-drop at out) in
    let part : sets (mid_of at (length out - at) out) 0 t ≡ t ++ drop (length t) (drop at out) = ap (λ (z : List ℕ). sets z 0 t) (rest_is out at inside) ∙ sets-eq t (drop at out) 0 fits ∙ ap (λ (z : ℕ). t ++ drop z (drop at out)) zero-less in
    ap (λ (z : List ℕ). take at out ++ (z ++ drop (length out - at) (drop at out))) part
    ∙ ap (λ (z : List ℕ). take at out ++ ((t ++ drop (length t) (drop at out)) ++ z)) (drop-drop (length out - at) at out ∙ ap (λ (z : ℕ). drop z out) all ∙ drop-length out)
    ∙ ap (λ (z : List ℕ). take at out ++ z) (append-nil (t ++ drop (length t) (drop at out)) ∙ ap (λ (z : List ℕ). t ++ z) (drop-drop (length t) at out))
    ∙ sym (append_assoc (take at out) t (drop (at + length t) out))
    ∙ sym (sets-eq t out at h)

lent_size : (out : List ℕ) (at : ℕ) → at ≤ length out → length (mid_of at (length out - at) out) ≡ length out - at
lent_size out at h = part_length out at (length out) h (omega arith)

-- ---- a line, up to the first newline
abbrev is_newline : ℕ → Bool
is_newline x = eqb x 10

module _ (bytes : List ℕ) (from : ℕ) where
  abbrev rest : List ℕ
  rest = drop from bytes

  no_newline : (l : List ℕ) (i : ℕ) → (i < length l → is_newline (get_or l i 0) ≡ false) → get_or l i 0 ≢ 10
  no_newline l i h e = by_lt i (length l)
      (λ q. eqb-false (get_or l i 0) 10 (h q) e)
      (λ q. let z : ◌≡◌ {A = ℕ} 0 10 = sym (get_or-eq_default l 0 q) ∙ e in omega (arith, z))

  pub unbroken_rest : position is_newline rest ≡ None → Unbroken rest
  unbroken_rest e i = no_newline rest i (λ q. fails_before_first is_newline rest i 0 (omega (arith, q, none_left)))
    where
      none_left : length rest ≤ position_or_len is_newline rest
      none_left = go (ltb (position_or_len is_newline rest) (length rest)) refl e
        where
          go : (b : Bool) → ltb (position_or_len is_newline rest) (length rest) ≡ b → cond b (Some (position_or_len is_newline rest)) None ≡ None → length rest ≤ position_or_len is_newline rest
          go true h e = absurd (let z : ◌≡◌ {A = ℕ} 0 1 = cc in omega arith)
          go false h e = ltb-false (position_or_len is_newline rest) (length rest) h

  module _ (size : ℕ) (found : position is_newline rest ≡ Some size) where
    pub line_within : from + size < length bytes
    line_within = let (inside, here, before) = position-Some is_newline rest size 0 found in omega (arith, inside, length-drop from bytes)

    unbroken_line : Unbroken (take size rest)
    unbroken_line i =
        let (inside, here, before) = position-Some is_newline rest size 0 found in
        no_newline (take size rest) i (λ q. by_lt i size (λ h. rw (get_or-take size rest i 0 h) (before i h)) (λ h. absurd (omega (arith, h, q, length-take size rest))))

    taken : take (from + size + 1) bytes ≡ take from bytes ++ (take size rest ++ (10 ∷ []))
    taken =
        let (inside, here, before) = position-Some is_newline rest size 0 found in
        let all : from + size + 1 ≡ from + suc size = omega arith in
        ap (λ (z : ℕ). take z bytes) all
        ∙ sym (take-append-drop from (take (from + suc size) bytes))
        ∙ ap (λ (z : List ℕ). z ++ drop from (take (from + suc size) bytes)) (take-take from (from + suc size) bytes (omega arith))
        ∙ ap (λ (z : List ℕ). take from bytes ++ z) (drop-take from (suc size) bytes ∙ take-suc rest size 0 inside ∙ ap (λ (z : ℕ). take size rest ++ (z ∷ [])) (eqb-true (get_or rest size 0) 10 here))

module _ {ws ws₁ ws₂ bytes out out₁ ys : List ℕ} {s s₁ s₂ : Session} {read written n : ℕ} (size : ℕ) (found : position is_newline (drop read bytes) ≡ Some size) (k : Reached ws s bytes out ws₁ s₁ out₁ (record { read = read; written = written })) (enough : written + room ≤ length out₁) (l : Steps ws₁ s₁ (mid_of read (read + size - read) bytes) (mid_of written (length out₁ - written) out₁) ws₂ s₂ ys n) where
  abbrev line : List ℕ
  line = take size (drop read bytes)

  abbrev out₂ : List ℕ
  out₂ = put_mid written (length out₁ - written) out₁ ys

  reads_form : Reads (mid_of read (read + size - read) bytes) (form_in line)
  reads_form = let e : read + size - read ≡ size = omega arith in rw e (parsed refl)

  lent : length (mid_of written (length out₁ - written) out₁) ≡ length out₁ - written
  lent = lent_size out₁ written (omega arith)

  module _ (st : State) (a : Stands ws s st) where
    follow : Session.Follows (mid_of written (length out₁ - written) out₁) (step (length ws) (state_after (length ws) st k.forms) (form_in line)) ws₂ s₂ ys n
    follow = rw k.safe.words at (l.follows (omega (arith, lent)) _ (k.follows.state st a) (form_in line) reads_form)

    after_state : Stands ws₂ s₂ (state_after (length ws) st (k.forms ++ (form_in line ∷ [])))
    after_state = rw (state_then (length ws) st k.forms (form_in line)) follow.state

    after_text : Written out (printed (length ws) st (k.forms ++ (form_in line ∷ []))) out₂ (written + n)
    after_text =
        let t = (step (length ws) (state_after (length ws) st k.forms) (form_in line)).1 in
        let w = follow.written in
        rw (printed_then (length ws) st k.forms (form_in line))
        (written_then _ _ (k.follows.text st a)
        (ap (λ (z : List ℕ). put_mid written (length out₁ - written) out₁ z) w.bytes ∙ lent_text out₁ t written (omega (arith, w.size, l.safe.within, lent)))
        (ap (λ (z : ℕ). written + z) w.size))

  pub reached_on : Reached ws s bytes out ws₂ s₂ out₂ (record { read = read + size + 1; written = written + n })
  reached_on = record {
    safe = record {
      words = l.safe.words ∙ k.safe.words;
      lent = rest_length out₁ written (omega arith) ys l.safe.lent ∙ k.safe.lent;
      read = omega (arith, line_within bytes read size found);
      written = omega (arith, l.safe.within, lent, k.safe.lent);
    };
    lines = k.lines ++ (line ∷ []);
    forms = k.forms ++ (form_in line ∷ []);
    read = taken bytes read size found ∙ ap (λ (z : List ℕ). z ++ (line ++ (10 ∷ []))) k.read ∙ sym (joined_then k.lines line);
    reads = read_then k.reads (unbroken_line bytes read size found) (parsed refl);
    follows = record { state = after_state; text = after_text };
  }

pub reached_none : (ws : List ℕ) (s : Session) (bytes out : List ℕ) → Reached ws s bytes out ws s out (record { read = 0; written = 0 })
unfolding joined state_after printed
reached_none ws s bytes out = record {
  safe = record { words = refl; lent = refl; read = omega arith; written = omega arith };
  lines = [];
  forms = [];
  read = refl;
  reads = none;
  follows = record { state = λ st a. a; text = λ st a. record { size = refl; bytes = refl } };
}
