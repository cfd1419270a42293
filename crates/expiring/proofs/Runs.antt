-- A list of calls comes to what the model comes to: each call does, on what the one before left.
use mathlib.Core.Path.{◌≡◌, refl, ap, ◌∙◌, subst}
use mathlib.Core.List.{List}
use Prim.Native.Nat.{ℕ, ◌+◌}
use native.Mathlib.Omega.{arith}
use Rattle.time.specs.declared.tick.Tick.{Tick}
use Rattle.std.specs.Prelude.{Option, Result, Ok}
use Rattle.time.specs.declared.duration.Duration.{Duration}
use Rattle.lazy_heap_model.specs.Model.{heap_len, opened}
use Rattle.expiring_model.specs.declared.answers.Answer.{Answer}
use Rattle.expiring.specs.declared.answers.Reply.{Reply}
use Rattle.expiring.specs.declared.expiring.Expiring.{Expiring}
use Rattle.time.specs.declared.refusal.Refusal.{Refusal}
use Rattle.expiring_model.specs.Model.{Book, Call, fresh, answer_of, book_after}
use Rattle.expiring.specs.Book.{IsBook, heap_of, model_of}
use Rattle.expiring.specs.Calls.{Following, Opening}
use Rattle.expiring_model.specs.Model.{default_of}
use Rattle.expiring.specs.Runs.{Run, none, more, AsTheModel}
use Rattle.expiring_model.specs.Lists.{Calls, answers_of, book_at_end}
use Rattle.expiring.proofs.Accounts.{counted, call_accounts}

-- ---- from any book, with whatever was replaced and removed before
abbrev pub ReadsAs : List ℕ → Expiring → Book → Type 0
ReadsAs ws b p = model_of ws b p.replaced p.removed ≡ p

pub record Ran (ws : List ℕ) (b : Expiring) (p : Book) (cs : Calls) (told : List Answer) (n : ℕ) (ws' : List ℕ) (b' : Expiring) : Type 0 where
  pub answers : told ≡ answers_of cs p
  pub model : ReadsAs ws' b' (book_at_end cs p)
  pub book : IsBook ws' b'
  pub sum : n + heap_len (heap_of ws' b') + counted p ≡ heap_len (heap_of ws b) + counted (book_at_end cs p)

module _ {ws ws₁ : List ℕ} {b : Expiring} {t : Tick} {c : Call} {r : Reply} {p : Book} (is : IsBook ws b) (e : ReadsAs ws b p) (o : Following ws b t c ws₁ r) where
  answer_next : r.answer ≡ answer_of t c p
  answer_next = o.answer is p.replaced p.removed ∙ ap (answer_of t c) e

  model_next : ReadsAs ws₁ r.book (book_after t c p)
  model_next = subst (λ (x : Book). ReadsAs ws₁ r.book (book_after t c x)) e (o.model is p.replaced p.removed)

  sum_next : r.discarded + heap_len (heap_of ws₁ r.book) + counted p ≡ heap_len (heap_of ws b) + counted (book_after t c p)
  sum_next = subst (λ (x : Book). r.discarded + heap_len (heap_of ws₁ r.book) + counted x ≡ heap_len (heap_of ws b) + counted (book_after t c x)) e (call_accounts is o p.replaced p.removed)

pub follow : {ws ws' : List ℕ} {b b' : Expiring} {cs : Calls} {told : List Answer} {n : ℕ} (p : Book) → IsBook ws b → ReadsAs ws b p → Run ws b cs told n ws' b' → Ran ws b p cs told n ws' b'
unfolding answers_of book_at_end
follow p is e none = record { answers = refl; model = e; book = is; sum = omega arith }
follow p is e (more {t = t} {c = c} {r = r} {cs = cs} {n = n} o run) =
    let f = follow (book_after t c p) (o.book is) (model_next is e o) run in
    record {
      answers = rw (answer_next is e o, f.answers);
      model = f.model;
      book = f.book;
      sum = omega (arith, f.sum, sum_next is e o);
    }

-- ---- demand 3
pub as_the_model : {ws ws₁ ws' : List ℕ} {c d s : ℕ} {l : Option Duration} {r : Result Expiring Refusal} {b b' : Expiring} {cs : Calls} {told : List Answer} {n : ℕ} → Opening ws c d s l ws₁ r → r ≡ Ok b → Run ws₁ b cs told n ws' b' → AsTheModel (fresh c d (default_of l)) cs told n ws' b'
unfolding fresh opened
as_the_model {c = c} {d = d} {l = l} {b = b} o done run =
    let f = follow (fresh c d (default_of l)) (o.book b done) (o.model b done) run in
    record {
      answers = f.answers;
      model = f.model;
      book = f.book;
      sum = omega (arith, f.sum, ap heap_len (o.heap b done));
    }
