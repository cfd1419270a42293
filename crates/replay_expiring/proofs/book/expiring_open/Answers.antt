-- The opening is the book's own, and what it left is what was stored.
use mathlib.Core.Path.{◌≡◌, refl, sym, ◌∙◌}
use mathlib.Core.List.{List}
use Prim.Native.Nat.{ℕ}
use native.Mathlib.Omega.{arith}
use lib.ListN.{length}
use Rattle.std.proofs.Common.{rules}
use Rattle.std.specs.Prelude.{Option, Result, Ok, Err}
use Rattle.time.specs.declared.refusal.Refusal.{Refusal}
use Rattle.time.specs.declared.duration.Duration.{Duration}
use Rattle.expiring.specs.declared.expiring.Expiring.{Expiring}
use Rattle.expiring.specs.Calls.{no_book, Opening, opening_of}
use Rattle.expiring.proofs.Limits.{err_ok}
use Rattle.expiring.proofs.Storing.{book_stored}
use Rattle.replay.specs.Told.{of_done, of_refusal, of_result, of_call}
use Rattle.replay_expiring.specs.Runs.{Fits, default_by, Opens, opening_with}
use Rattle.replay_expiring.proofs.Laws.{book_past, book_size}
use Rattle.replay_expiring.proofs.book.expiring_open.Goals as goal

none : {ns ws cs out : List ℕ} → (Fits ns cs out → ⊥) → Opens ns ws cs out ns ws out 0
none h = record { few = λ _. (refl, refl, refl, refl); ran = λ f. absurd (h f); opened = λ f. absurd (h f); none = λ f. absurd (h f); answer = λ f. absurd (h f); size = refl; past = λ _ _. refl }

-- the book whose numbers an opening leaves
abbrev left_by : Result Expiring Refusal → Expiring
left_by (Ok b) = b
left_by (Err why) = no_book

module _ {ws ws' : List ℕ} {c d n : ℕ} {l : Option Duration} where
  opened : (r : Result Expiring Refusal) → Opening ws c d n l ws' r → Opening ws c d n l ws' (opening_with (opening_of c d (length ws) l) (left_by r))
  opened (Ok b) o = rw (sym o.outcome) o
  opened (Err why) o = rw (sym o.outcome) o

  left_blank : (r : Result Expiring Refusal) → Opening ws c d n l ws' r → (why : Refusal) → opening_of c d (length ws) l ≡ Err why → left_by r ≡ no_book
  left_blank (Err e) o why h = refl
  left_blank (Ok b) o why h = absurd (err_ok why (sym (o.outcome ∙ h)))

  answered : (r : Result Expiring Refusal) → Opening ws c d n l ws' r → of_result of_done of_refusal r 0 ≡ of_call of_done (opening_of c d (length ws) l)
  answered (Ok b) o = rw (sym o.outcome) refl
  answered (Err why) o = rw (sym o.outcome) refl

pub returns-then-numbers-lt12 : goal.returns-then-numbers-lt12
returns-then-numbers-lt12 c = none (λ f. omega (arith, f.numbers, f.opening, f.answer, c.then-numbers-lt12.either))

pub returns : goal.returns
returns c =
    let ns = c.args.numbers.now in
    let r = c.open-opened.result in
    let e : c.unwrap_or_default.result ≡ left_by r = search rules in
    let l : c.then_some-default_ttl.result ≡ default_by c.args.opening.now = search rules in
    let o = rw l at c.open-opened.ensures in
    record {
      few = λ h. absurd (h (record { numbers = omega (arith, c.if-numbers-lt12.false); opening = omega (arith, c.if-opening-lt6.false); answer = omega (arith, c.if-answer-lt4.false) }));
      ran = λ _. refl;
      opened = λ f. rw (c.store_book.ensures, book_stored ns c.unwrap_or_default.result f.numbers, e) (opened r o);
      none = λ f why h. rw (c.store_book.ensures, book_stored ns c.unwrap_or_default.result f.numbers, e) (left_blank r o why h);
      answer = λ f. rw (c.store_answer.ensures, c.opened.ensures, answered r o) refl;
      size = rw c.store_book.ensures (book_size ns c.unwrap_or_default.result);
      past = λ j h. rw c.store_book.ensures (book_past ns c.unwrap_or_default.result j h);
    }
