-- There is room for every answer, and what is printed is it.
use mathlib.Core.Path.{◌≡◌, refl, sym, ap, ◌∙◌, subst}
use mathlib.Core.List.{List, ◌++◌, append_assoc}
use Prim.Native.Nat.{ℕ, ◌+◌, ◌*◌, ◌≤◌}
use native.Mathlib.Omega.{arith}
use lib.ListN.{length}
use Rattle.expiring_model.specs.declared.answers.Answer.{Answer}
use Rattle.expiring_model.specs.declared.answers.Answer.TheVariants as answer
use Rattle.lazy_heap_model.specs.Model.{heap_len}
use Rattle.std.specs.Prelude.{Result}
use Rattle.std.specs.Result.{result_unwrap_or}
use Rattle.time.specs.declared.refusal.Refusal.{Refusal}
use Rattle.expiring.specs.declared.answers.Reply.{Reply}
use Rattle.expiring.specs.Book.{heap_of, model_of}
use Rattle.expiring.specs.Calls.{HeapLength, DeadlinesHeld}
use Rattle.text.specs.Text.{fill}
use Rattle.text.proofs.Laws.{fill_size, puts_then}
use Rattle.session.specs.declared.answer.Counts.{Counts}
use Rattle.text.specs.Writing.{Puts}
use Rattle.session.specs.Answers.{line_format, line_numbers, line_of, Prints, head_of, tail_of}
use Rattle.session.specs.Session.{room, Written, Tells}

-- the longest format has 43 bytes, and no answer more than five numbers
fits : (a : Answer) (c : Counts) → length (line_format a) + 19 * length (line_numbers a c) ≤ room
fits answer.Nothing c = omega arith
fits (answer.Value v) c = omega arith
fits answer.Yes c = omega arith
fits answer.No c = omega arith
fits answer.Missing c = omega arith
fits answer.Immortal c = omega arith
fits answer.Expired c = omega arith
fits (answer.Live l d) c = omega arith
fits (answer.Count n) c = omega arith
fits (answer.Due k d) c = omega arith
fits (answer.Item k v) c = omega arith
fits (answer.Rank n) c = omega arith
fits answer.Done c = omega arith
fits (answer.Refused why) c = omega arith

pub line_size : (a : Answer) (c : Counts) → length (line_of a c) ≤ room
unfolding line_of
line_size a c = omega (arith, fill_size (line_format a) (line_numbers a c), fits a c)

-- a line is its parts
pub line_parts : (a : Answer) (c : Counts) → head_of a ++ tail_of c ≡ line_of a c
unfolding line_of head_of tail_of fill
line_parts answer.Nothing c = refl
line_parts (answer.Value v) c = simp append_assoc
line_parts answer.Yes c = refl
line_parts answer.No c = refl
line_parts answer.Missing c = refl
line_parts answer.Immortal c = refl
line_parts answer.Expired c = refl
line_parts (answer.Live l d) c = simp append_assoc
line_parts (answer.Count n) c = simp append_assoc
line_parts (answer.Due k d) c = simp append_assoc
line_parts (answer.Item k v) c = simp append_assoc
line_parts (answer.Rank n) c = simp append_assoc
line_parts answer.Done c = refl
line_parts (answer.Refused why) c = simp append_assoc

pub parts_written : (a : Answer) (c : Counts) {h out out₁ out₂ out' : List ℕ} {m n : ℕ} → h ≡ head_of a → Puts out 0 h out₁ m → Puts out₁ m (tail_of c) out₂ n → out₂ ≡ out' → Prints out a c out' n
parts_written a c e p q f = rw (sym f) (rw (line_parts a c) at (puts_then (rw e at p) q))

-- an answer's head, where it is known which answer it is: as it is written, and as a text
pub head_of_lem : {out out' : List ℕ} {n : ℕ} {a b : Answer} → a ≡ b → Puts out 0 (head_of b) out' n → Puts out 0 (head_of a) out' n
head_of_lem e p = rw e p

pub head_is : {a b : Answer} {l : List ℕ} → a ≡ b → l ≡ head_of b → l ≡ head_of a
head_is e p = rw e p

module _ {out out' : List ℕ} (a : Answer) (c : Counts) {n : ℕ} (enough : room ≤ length out) (p : Prints out a c out' n) where
  pub printed : Written out (line_of a c) out' n
  printed = let h : 0 + length (line_of a c) ≤ length out = omega (arith, enough, line_size a c) in record { size = omega (arith, p.ends h); bytes = p.written h }

-- a book's answer, with its counts
module _ {ws out out' : List ℕ} (r : Reply) {n h l : ℕ} {entries held : Result ℕ Refusal} (enough : room ≤ length out) (p : Prints out r.answer (record { discarded = r.discarded; heap = h; held = l }) out' n) where
  pub told : HeapLength ws r.book entries → DeadlinesHeld ws r.book held → h ≡ result_unwrap_or entries 0 → l ≡ result_unwrap_or held 0 → Tells ws r out out' n
  unfolding model_of
  told x y e f = record {
    lent = p.size;
    within = p.within;
    written = λ o. let i : h ≡ heap_len (heap_of ws r.book) = e ∙ ap (λ (z : Result ℕ Refusal). result_unwrap_or z 0) (x.answer o) in let j : l ≡ length (model_of ws r.book 0 0).deadlines = f ∙ ap (λ (z : Result ℕ Refusal). result_unwrap_or z 0) (y.answer o) in subst (λ (z : Counts). Written out (line_of r.answer z) out' n) (ap (λ (z : ℕ). record { discarded = r.discarded; heap = z; held = l }) i ∙ ap (λ (z : ℕ). record { discarded = r.discarded; heap = heap_len (heap_of ws r.book); held = z }) j) (printed r.answer _ enough p);
  }
