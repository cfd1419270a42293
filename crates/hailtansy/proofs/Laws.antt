-- What a function of this crate does is what the book's call does: the numbers that are read back are those that
-- were stored, and without room nothing is touched. A look leaves the model as it is.
use mathlib.Core.Path.{◌≡◌, refl}
use mathlib.Core.List.{List}
use Prim.Native.Nat.{ℕ}
use native.Mathlib.Omega.{arith}
use Rattle.expiring.specs.declared.answers.Reply.{Reply}
use Rattle.lazy_heap_model.specs.declared.counted.Counted.{Counted}
use Rattle.expiring_model.specs.declared.answers.Answer.{Answer}
use Rattle.expiring_model.specs.Model.{Call}
use Rattle.expiring.specs.Calls.{Following}
use Rattle.expiring.specs.Changes.{reply_in, Changing}
use Rattle.replay.specs.Runs.{with_answer}
use Rattle.expiring.specs.Numbers.{book_in, with_book}
use Rattle.replay_expiring.specs.Words.{of_answer}
use Rattle.replay_expiring.specs.Runs.{of_reply}
use Rattle.expiring.proofs.Storing.{book_stored}
use Rattle.replay_expiring.proofs.Laws.{book_past, book_size}
use Rattle.replay_expiring.proofs.Steps.{Look, model_stays, heap_stays}
use Rattle.hailtansy.specs.Calls.{Room, tick_of, told, Called, IsLook, answered, Looked}

-- ---- a call that may change the book
module _ {ns ws out : List ℕ} {t : ℕ} {c : Call} where
  pub not_called : (Room ns out → ⊥) → Called ns ws t c out ns ws out 0
  not_called h = record { few = λ _. (refl, refl, refl, refl); ran = λ r. absurd (h r); reply = λ r. absurd (h r); size = refl; past = λ _ _. refl }

  pub called : {ns' ws' out' : List ℕ} {r : Reply} → Room ns out → Following ws (book_in ns) (tick_of t) c ws' r → ns' ≡ with_book ns r.book → out' ≡ with_answer out 0 (of_reply r) → Called ns ws t c out ns' ws' out' 1
  called {r = r} h o e q = rw (e, q) (record {
    few = λ none. absurd (none h);
    ran = λ _. refl;
    reply = λ _. rw (book_stored ns r.book h.numbers) (told o);
    size = book_size ns r.book;
    past = λ j l. book_past ns r.book j l;
  })

-- the same, on the numbers themselves
pub changed : (ns ns' : List ℕ) {ws ws' out out' : List ℕ} {t : ℕ} {c : Call} {s : Counted Answer} → Room ns out → Changing ns ws (tick_of t) c ns' ws' s → out' ≡ with_answer out 0 (of_answer s.answer s.discarded) → Called ns ws t c out ns' ws' out' 1
changed ns ns' {s = s} h o q = rw q (record {
  few = λ none. absurd (none h);
  ran = λ _. refl;
  reply = λ _. told {r = reply_in ns' s} (o.call h.numbers);
  size = o.stay.size;
  past = λ j l. o.stay.others j (λ e. omega arith) (λ e. omega arith) (λ e. omega arith) (λ e. omega arith) (λ e. omega arith) (λ e. omega arith) (λ e. omega arith) (λ e. omega arith);
})

-- ---- a look
pub is_look : (t : ℕ) {c : Call} → Look c → IsLook t c
is_look t look = record { model = model_stays (tick_of t) look; heap = heap_stays (tick_of t) look }

module _ {ns ws out : List ℕ} {t : ℕ} {c : Call} (look : IsLook t c) where
  pub not_looked : (Room ns out → ⊥) → Looked ns ws t c out out 0
  not_looked h = record { few = λ _. (refl, refl); ran = λ r. absurd (h r); reply = λ r. absurd (h r); model = look.model; heap = look.heap }

  pub looked : {out' : List ℕ} {r : Reply} → Room ns out → Following ws (book_in ns) (tick_of t) c ws r → out' ≡ with_answer out 0 (of_reply r) → Looked ns ws t c out out' 1
  looked h o q = rw q (record {
    few = λ none. absurd (none h);
    ran = λ _. refl;
    reply = λ _. answered o;
    model = look.model;
    heap = look.heap;
  })
