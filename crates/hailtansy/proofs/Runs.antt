-- Calls one by one come to what the plain book comes to: each does, on what the one before left. A look hands no
-- numbers back, and those that it was handed still stand for the plain book, which it leaves as it is.
use mathlib.Core.Path.{◌≡◌, refl, ap, ◌∙◌}
use mathlib.Core.List.{List, [], ◌∷◌}
use Prim.Native.Nat.{ℕ, ◌+◌, ◌^◌, ◌<◌, ◌≤◌}
use native.Mathlib.Omega.{arith}
use lib.ListN.{length, get_or}
use Rattle.std.specs.Prelude.{Ok}
use Rattle.lazy_heap_model.specs.Model.{heap_len, opened}
use Rattle.expiring_model.specs.declared.answers.Answer.{Answer}
use Rattle.expiring.specs.declared.answers.Reply.{Reply}
use Rattle.expiring.specs.declared.expiring.Expiring.{Expiring}
use Rattle.expiring_model.specs.Model.{Book, Call, fresh, answer_of, book_after}
use Rattle.expiring.specs.Book.{IsBook, heap_of}
use Rattle.expiring_model.specs.Model.{default_of}
use Rattle.expiring_model.specs.Lists.{Calls, answers_of, book_at_end}
use Rattle.expiring.proofs.Accounts.{counted}
use Rattle.expiring.proofs.Runs.{ReadsAs}
use Rattle.replay.specs.Runs.{with_answer}
use Rattle.expiring.specs.Numbers.{book_in}
use Rattle.replay_expiring.specs.Words.{of_answer}
use Rattle.replay_expiring.specs.Runs.{of_reply, told_of, told_in, discarded_in, words_of, Fits, Opens, default_by, outcome_by, opening_with}
use Rattle.replay_expiring.proofs.Runs.{told_then, discarded_then}
use Rattle.replay_expiring.proofs.Steps.{within, Step}
use Rattle.replay_expiring.proofs.Steps as steps
use Rattle.hailtansy.specs.Calls.{tick_of, Told, told, Answered, answered, Looked}
use Rattle.hailtansy.specs.Runs.{Series, none, call, look, told_in_all, discarded_in_all, AsThePlainBook}

-- ---- one call, with its answer written
record Written (t : ℕ) (c : Call) (ws : List ℕ) (b : Expiring) (p : Book) (out₁ ws₁ : List ℕ) (b₁ : Expiring) : Type 0 where
  answer : told_in out₁ 1 ≡ told_of (of_answer (answer_of (tick_of t) c p) 0) ∷ []
  model : ReadsAs ws₁ b₁ (book_after (tick_of t) c p)
  book : IsBook ws₁ b₁
  sum : discarded_in out₁ 1 + heap_len (heap_of ws₁ b₁) + counted p ≡ heap_len (heap_of ws b) + counted (book_after (tick_of t) c p)

module _ {ws : List ℕ} (out : List ℕ) {b : Expiring} {t : ℕ} {c : Call} {p : Book} (room : 4 ≤ length out) where
  written : {ws₁ : List ℕ} {b₁ : Expiring} (r : Reply) → Step (tick_of t) c ws b p r.answer r.discarded ws₁ b₁ → Written t c ws b p (with_answer out 0 (of_reply r)) ws₁ b₁
  unfolding told_in discarded_in
  written r s = record {
    answer = told_then out 0 r.answer r.discarded room ∙ ap (λ (a : Answer). told_of (of_answer a 0) ∷ []) s.answer;
    model = s.model;
    book = s.book;
    sum = omega (arith, s.sum, discarded_then out 0 r.answer r.discarded room);
  }

  module _ (is : IsBook ws b) (e : ReadsAs ws b p) where
    changed : {ws₁ out₁ : List ℕ} {b₁ : Expiring} → Told t c ws b out ws₁ b₁ out₁ → Written t c ws b p out₁ ws₁ b₁
    changed (told {r = r} o) = written r (steps.changed is e o)

    looked : {ns out₁ : List ℕ} {k : ℕ} → p.expirations < 2 ^ 64 → Looked ns ws t c out out₁ k → Answered t c ws b out out₁ → Written t c ws b p out₁ ws b
    looked h l (answered {r = r} o) = written r (steps.looked is e (l.model p h) l.heap o)

-- ---- a series
record Came (ns ws : List ℕ) (p : Book) (cs : Calls) (outs : List (List ℕ)) (ns' ws' : List ℕ) : Type 0 where
  answers : told_in_all outs ≡ words_of (answers_of cs p)
  model : ReadsAs ws' (book_in ns') (book_at_end cs p)
  book : IsBook ws' (book_in ns')
  sum : discarded_in_all outs + heap_len (heap_of ws' (book_in ns')) + counted p ≡ heap_len (heap_of ws (book_in ns)) + counted (book_at_end cs p)

then : {ns ws ns₁ ws₁ out₁ ns' ws' : List ℕ} {t : ℕ} {c : Call} {p : Book} {cs : Calls} {outs : List (List ℕ)} → Written t c ws (book_in ns) p out₁ ws₁ (book_in ns₁) → Came ns₁ ws₁ (book_after (tick_of t) c p) cs outs ns' ws' → Came ns ws p ((tick_of t, c) ∷ cs) (out₁ ∷ outs) ns' ws'
unfolding answers_of book_at_end told_in_all discarded_in_all words_of
then s f = record { answers = rw (s.answer, f.answers); model = f.model; book = f.book; sum = omega (arith, s.sum, f.sum) }

came : {ns ws ns' ws' : List ℕ} {cs : Calls} {outs : List (List ℕ)} (p : Book) → IsBook ws (book_in ns) → ReadsAs ws (book_in ns) p → p.expirations < 2 ^ 64 → Series ns ws cs outs ns' ws' → Came ns ws p cs outs ns' ws'
unfolding answers_of book_at_end told_in_all discarded_in_all words_of
came p is e h none = record { answers = refl; model = e; book = is; sum = omega arith }
came p is e h (call {out = out} {t = t} {c = c} room k rest) =
    let s = changed out room.answer is e (k.reply room) in
    then s (came (book_after (tick_of t) c p) s.book s.model (within (tick_of t) c p h) rest)
came p is e h (look {out = out} {t = t} {c = c} room k rest) =
    let s = looked out room.answer is e h k (k.reply room) in
    then s (came (book_after (tick_of t) c p) s.book s.model (within (tick_of t) c p h) rest)

-- ---- demand 3: calls one by one on what an opening left
pub as_the_plain_book : {ns ws how said ns₁ ws₁ said₁ ns' ws' : List ℕ} {n : ℕ} {cs : Calls} {outs : List (List ℕ)} → Fits ns how said → Opens ns ws how said ns₁ ws₁ said₁ n → outcome_by how ws ≡ Ok tt → Series ns₁ ws₁ cs outs ns' ws' → AsThePlainBook (fresh (get_or how 0 0) (get_or how 1 0) (default_of (default_by how))) cs outs ns' ws'
unfolding fresh opened
as_the_plain_book {ws = ws} {how = how} {ns₁ = ns₁} fits opens done series =
    let o = opens.opened fits in
    let is : opening_with (outcome_by how ws) (book_in ns₁) ≡ Ok (book_in ns₁) = rw done refl in
    let f = came (fresh (get_or how 0 0) (get_or how 1 0) (default_of (default_by how))) (o.book (book_in ns₁) is) (o.model (book_in ns₁) is) (omega arith) series in
    record {
      answers = f.answers;
      model = f.model;
      book = f.book;
      sum = omega (arith, f.sum, ap heap_len (o.heap (book_in ns₁) is));
    }
