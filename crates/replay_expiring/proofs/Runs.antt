-- The answers that a list of calls writes are the plain book's: each is written where none of the others is, and
-- each call comes to what it comes to on the plain book.
use mathlib.Core.Path.{◌≡◌, refl, ap, ◌∙◌}
use mathlib.Core.Bool.{Bool, true, false, cond}
use mathlib.Core.List.{List, [], ◌∷◌, ◌++◌}
use mathlib.Core.Logic.{◌≢◌}
use Prim.Native.Nat.{ℕ, zero, suc, ◌+◌, ◌*◌, ◌^◌, ◌<◌, ◌≤◌}
use native.Mathlib.Omega.{arith}
use native.Mathlib.Numerals.{add-one}
use lib.Dec.{eqb}
use lib.ListN.{length, get_or, set, length-set}
use lib.Seq.{get_or-set_same, get_or-set_other}
use borrow.Author.Tests.{ne_eqb}
use Rattle.time.specs.declared.tick.Tick.{Tick}
use Rattle.time.specs.declared.duration.Duration.{Duration}
use Rattle.std.specs.Prelude.{Ok}
use Rattle.lazy_heap_model.specs.Model.{heap_len, opened}
use Rattle.expiring_model.specs.declared.answers.Answer.{Answer}
use Rattle.expiring_model.specs.declared.answers.Answer.TheVariants as answer
use Rattle.expiring.specs.declared.answers.Reply.{Reply}
use Rattle.expiring_model.specs.Model.{Book, Call, fresh, answer_of, book_after}
use Rattle.expiring.specs.Book.{IsBook, heap_of}
use Rattle.expiring_model.specs.Model.{default_of}
use Rattle.expiring_model.specs.Lists.{Calls, answers_of, book_at_end}
use Rattle.expiring.proofs.Accounts.{counted}
use Rattle.expiring.proofs.Runs.{ReadsAs}
use Rattle.replay.specs.declared.answer.Answer as replay
use Rattle.replay.specs.Runs.{with_answer}
use Rattle.replay_expiring.specs.declared.call.Asked.{Asked}
use Rattle.replay_expiring.specs.Words.{changing, asked_at, call_of, call_in, of_answer}
use Rattle.expiring.specs.Numbers.{book_in}
use Rattle.replay_expiring.specs.Runs.{of_reply, Turn, changed, looked, Run, none, more, Replayed, Fits, default_by, outcome_by, opening_with, Opens, calls_in, Told, told_of, told_in, discarded_in, words_of, AsThePlainBook}
use Rattle.replay_expiring.proofs.Laws.{changed_stored, changed_past}
use Rattle.expiring.proofs.Storing.{changed_size}
use Rattle.replay_expiring.proofs.Steps.{Look, at_contains, at_peek, at_ttl_status, at_recency_rank, at_live_len, at_expirations, at_peek_lru, model_stays, heap_stays, within, Step}
use Rattle.replay_expiring.proofs.Steps as steps

-- ---- the i-th answer in words
answer_size : (out : List ℕ) (i : ℕ) (a : replay.Answer) → length (with_answer out i a) ≡ length out
unfolding with_answer
answer_size out i a = simp length-set

before : (out : List ℕ) (i j : ℕ) (a : replay.Answer) → j + 1 ≤ 4 * i → get_or (with_answer out i a) j 0 ≡ get_or out j 0
unfolding with_answer
before out i j a h =
    let a0 : j ≢ 4 * i = omega arith in
    let a1 : j ≢ 4 * i + 1 = omega arith in
    let a2 : j ≢ 4 * i + 2 = omega arith in
    let a3 : j ≢ 4 * i + 3 = omega arith in
    simp get_or-set_other

module _ (out : List ℕ) (i : ℕ) (a : replay.Answer) (h : 4 * i + 4 ≤ length out) where
  code_at : get_or (with_answer out i a) (4 * i) 0 ≡ a.code
  unfolding with_answer
  code_at =
      let n1 : 4 * i ≢ 4 * i + 1 = omega arith in
      let n2 : 4 * i ≢ 4 * i + 2 = omega arith in
      let n3 : 4 * i ≢ 4 * i + 3 = omega arith in
      simp get_or-set_other (get_or-set_same out (4 * i) a.code 0 (omega arith))

  first_at : get_or (with_answer out i a) (4 * i + 1) 0 ≡ a.first
  unfolding with_answer
  first_at =
      let n2 : 4 * i + 1 ≢ 4 * i + 2 = omega arith in
      let n3 : 4 * i + 1 ≢ 4 * i + 3 = omega arith in
      simp get_or-set_other (get_or-set_same (set out (4 * i) a.code) (4 * i + 1) a.first 0 (simp length-set (omega arith)))

  second_at : get_or (with_answer out i a) (4 * i + 2) 0 ≡ a.second
  unfolding with_answer
  second_at =
      let n3 : 4 * i + 2 ≢ 4 * i + 3 = omega arith in
      simp get_or-set_other (get_or-set_same (set (set out (4 * i) a.code) (4 * i + 1) a.first) (4 * i + 2) a.second 0 (simp length-set (omega arith)))

  third_at : get_or (with_answer out i a) (4 * i + 3) 0 ≡ a.third
  unfolding with_answer
  third_at = get_or-set_same (set (set (set out (4 * i) a.code) (4 * i + 1) a.first) (4 * i + 2) a.second) (4 * i + 3) a.third 0 (simp length-set (omega arith))

-- ---- the answers before it
told_kept : (out : List ℕ) (i k : ℕ) (a : replay.Answer) → k ≤ i → told_in (with_answer out i a) k ≡ told_in out k
unfolding told_in
told_kept out i zero a h = refl
told_kept out i (suc k) a h = rw (told_kept out i k a (omega arith), before out i (4 * k) a (omega arith), before out i (4 * k + 1) a (omega arith), before out i (4 * k + 2) a (omega arith)) refl

discarded_kept : (out : List ℕ) (i k : ℕ) (a : replay.Answer) → k ≤ i → discarded_in (with_answer out i a) k ≡ discarded_in out k
unfolding discarded_in
discarded_kept out i zero a h = refl
discarded_kept out i (suc k) a h = rw (discarded_kept out i k a (omega arith), before out i (4 * k + 3) a (omega arith)) refl

-- ---- one answer more
words_then : (l : List Answer) (a : Answer) → words_of (l ++ (a ∷ [])) ≡ words_of l ++ (told_of (of_answer a 0) ∷ [])
unfolding words_of
words_then [] a = refl
words_then (x ∷ l) a = ap (λ (z : List Told). told_of (of_answer x 0) ∷ z) (words_then l a)

-- an answer's words but for the last do not depend on it
told_alike : (a : Answer) (d : ℕ) → told_of (of_answer a d) ≡ told_of (of_answer a 0)
told_alike answer.Nothing d = refl
told_alike (answer.Value v) d = refl
told_alike answer.Yes d = refl
told_alike answer.No d = refl
told_alike answer.Missing d = refl
told_alike answer.Immortal d = refl
told_alike answer.Expired d = refl
told_alike (answer.Live l t) d = refl
told_alike (answer.Count n) d = refl
told_alike (answer.Due k t) d = refl
told_alike (answer.Item k v) d = refl
told_alike (answer.Rank n) d = refl
told_alike answer.Done d = refl
told_alike (answer.Refused why) d = refl

third_of : (a : Answer) (d : ℕ) → (of_answer a d).third ≡ d
third_of answer.Nothing d = refl
third_of (answer.Value v) d = refl
third_of answer.Yes d = refl
third_of answer.No d = refl
third_of answer.Missing d = refl
third_of answer.Immortal d = refl
third_of answer.Expired d = refl
third_of (answer.Live l t) d = refl
third_of (answer.Count n) d = refl
third_of (answer.Due k t) d = refl
third_of (answer.Item k v) d = refl
third_of (answer.Rank n) d = refl
third_of answer.Done d = refl
third_of (answer.Refused why) d = refl

module _ (out : List ℕ) (k : ℕ) (a : Answer) (d : ℕ) (h : 4 * k + 4 ≤ length out) where
  pub told_then : told_in (with_answer out k (of_answer a d)) (suc k) ≡ told_in out k ++ (told_of (of_answer a 0) ∷ [])
  unfolding told_in
  told_then = rw (told_kept out k k (of_answer a d) (omega arith), code_at out k (of_answer a d) h, first_at out k (of_answer a d) h, second_at out k (of_answer a d) h) (ap (λ (z : Told). told_in out k ++ (z ∷ [])) (told_alike a d))

  pub discarded_then : discarded_in (with_answer out k (of_answer a d)) (suc k) ≡ discarded_in out k + d
  unfolding discarded_in
  discarded_then = rw (discarded_kept out k k (of_answer a d) (omega arith), third_at out k (of_answer a d) h, third_of a d) refl

-- ---- the operations from `changing` on look
either : (q : Bool) {c d : Call} → Look c → Look d → Look (cond q c d)
either true l m = l
either false l m = m

looking : (o k v : ℕ) (d : Duration) → changing ≤ o → Look (call_of o k v d)
unfolding call_of
looking o k v d h =
    let look = either (eqb o 10) (at_contains {k = k}) (either (eqb o 11) (at_peek {k = k}) (either (eqb o 12) (at_ttl_status {k = k}) (either (eqb o 13) (at_recency_rank {k = k}) (either (eqb o 14) at_live_len (either (eqb o 15) at_expirations at_peek_lru))))) in
    rw (ne_eqb o 0 (omega arith), ne_eqb o 1 (omega arith), ne_eqb o 2 (omega arith), ne_eqb o 3 (omega arith), ne_eqb o 4 (omega arith), ne_eqb o 5 (omega arith), ne_eqb o 6 (omega arith), ne_eqb o 7 (omega arith), ne_eqb o 8 (omega arith), ne_eqb o 9 (omega arith)) look

-- ---- a call more, of the plain book
answers_then : (cs : Calls) (t : Tick) (c : Call) (p : Book) → answers_of (cs ++ ((t, c) ∷ [])) p ≡ answers_of cs p ++ (answer_of t c (book_at_end cs p) ∷ [])
unfolding answers_of book_at_end
answers_then [] t c p = refl
answers_then ((u, d) ∷ cs) t c p = rw (answers_then cs t c (book_after u d p)) refl

end_then : (cs : Calls) (t : Tick) (c : Call) (p : Book) → book_at_end (cs ++ ((t, c) ∷ [])) p ≡ book_after t c (book_at_end cs p)
unfolding book_at_end
end_then [] t c p = refl
end_then ((u, d) ∷ cs) t c p = end_then cs t c (book_after u d p)

-- ---- a run comes to what the plain book comes to, with its answers written
record Came (cs ns ws : List ℕ) (p : Book) (out : List ℕ) (k : ℕ) (ns' ws' out' : List ℕ) : Type 0 where
  answers : told_in out' k ≡ words_of (answers_of (calls_in cs k) p)
  model : ReadsAs ws' (book_in ns') (book_at_end (calls_in cs k) p)
  book : IsBook ws' (book_in ns')
  sum : discarded_in out' k + heap_len (heap_of ws' (book_in ns')) + counted p ≡ heap_len (heap_of ws (book_in ns)) + counted (book_at_end (calls_in cs k) p)
  expirations : (book_at_end (calls_in cs k) p).expirations < 2 ^ 64
  numbers : length ns' ≡ length ns
  size : length out' ≡ length out

module _ {cs ns ws out : List ℕ} {p : Book} {k : ℕ} {ns' ws' out' : List ℕ} where
  then : {ns'' ws'' : List ℕ} (r : Reply) → Came cs ns ws p out k ns' ws' out' → 4 * k + 4 ≤ length out → length ns'' ≡ length ns' → Step (asked_at cs k).tick (call_in (asked_at cs k)) ws' (book_in ns') (book_at_end (calls_in cs k) p) r.answer r.discarded ws'' (book_in ns'') → Came cs ns ws p out (suc k) ns'' ws'' (with_answer out' k (of_reply r))
  unfolding calls_in
  then r f h e s =
      let t = (asked_at cs k).tick in
      let c = call_in (asked_at cs k) in
      let room : 4 * k + 4 ≤ length out' = omega (arith, f.size) in
      let end = end_then (calls_in cs k) t c p in
      record {
        answers = told_then out' k r.answer r.discarded room ∙ rw (f.answers, answers_then (calls_in cs k) t c p, words_then (answers_of (calls_in cs k) p) (answer_of t c (book_at_end (calls_in cs k) p)), s.answer) refl;
        model = rw end s.model;
        book = s.book;
        sum = rw end (omega (arith, f.sum, s.sum, discarded_then out' k r.answer r.discarded room));
        expirations = rw end (within t c (book_at_end (calls_in cs k) p) f.expirations);
        numbers = e ∙ f.numbers;
        size = answer_size out' k _ ∙ f.size;
      }

  turned : {ns'' ws'' out'' : List ℕ} → Came cs ns ws p out k ns' ws' out' → 4 * k + 4 ≤ length out → 12 ≤ length ns → Turn (asked_at cs k) k ns' ws' out' ns'' ws'' out'' → Came cs ns ws p out (suc k) ns'' ws'' out''
  turned f h n (changed {r = r} l o) =
      let back = changed_stored ns' (omega (arith, f.numbers)) f.book o in
      then r f h (changed_size ns' r.book) (rw back (steps.changed f.book f.model o))
  turned f h n (looked {r = r} l o) =
      let a = asked_at cs k in
      let look = looking a.operation a.key a.value a.ttl l in
      then r f h refl (steps.looked f.book f.model (model_stays a.tick look (book_at_end (calls_in cs k) p) f.expirations) (heap_stays a.tick look) o)

module _ {cs ns ws out : List ℕ} (p : Book) (n : 12 ≤ length ns) (is : IsBook ws (book_in ns)) (e : ReadsAs ws (book_in ns) p) (x : p.expirations < 2 ^ 64) where
  at_first : Came cs ns ws p out 0 ns ws out
  unfolding calls_in told_in discarded_in words_of answers_of book_at_end
  at_first = record { answers = refl; model = e; book = is; sum = omega arith; expirations = x; numbers = refl; size = refl }

  came : {k : ℕ} {ns' ws' out' : List ℕ} → Run cs ns ws out k ns' ws' out' → 4 * k ≤ length out → Came cs ns ws p out k ns' ws' out'
  came none h = at_first
  came (more {k = k} run t) h = rw (add-one k) (turned (came run (omega arith)) (omega arith) n t)

-- ---- the numbers past the book's own
turn_past : {a : Asked} {i : ℕ} {ns ws out ns' ws' out' : List ℕ} → Turn a i ns ws out ns' ws' out' → (j : ℕ) → 12 ≤ j → get_or ns' j 0 ≡ get_or ns j 0
turn_past {ns = ns} (changed {r = r} l o) j h = changed_past ns r.book j h
turn_past (looked l o) j h = refl

pub run_past : {cs ns ws out ns' ws' out' : List ℕ} {k : ℕ} → Run cs ns ws out k ns' ws' out' → (j : ℕ) → 12 ≤ j → get_or ns' j 0 ≡ get_or ns j 0
run_past none j h = refl
run_past (more run t) j h = turn_past t j h ∙ run_past run j h

-- ---- demand 3: calls from outside on what an opening from outside left
pub as_the_plain_book : {ns ws how said ns₁ ws₁ said₁ cs out ns' ws' out' : List ℕ} {n k : ℕ} → Fits ns how said → Opens ns ws how said ns₁ ws₁ said₁ n → outcome_by how ws ≡ Ok tt → Replayed ns₁ ws₁ cs out ns' ws' out' k → AsThePlainBook (fresh (get_or how 0 0) (get_or how 1 0) (default_of (default_by how))) cs k ns' ws' out'
unfolding fresh opened
as_the_plain_book {ws = ws} {how = how} {ns₁ = ns₁} fits opens done ran =
    let enough : 12 ≤ length ns₁ = omega (arith, opens.size, fits.numbers) in
    let o = opens.opened fits in
    let is : opening_with (outcome_by how ws) (book_in ns₁) ≡ Ok (book_in ns₁) = rw done refl in
    let f = came (fresh (get_or how 0 0) (get_or how 1 0) (default_of (default_by how))) enough (o.book (book_in ns₁) is) (o.model (book_in ns₁) is) (omega arith) (ran.run enough) (omega (arith, (ran.ended enough).within)) in
    record {
      answers = f.answers;
      model = f.model;
      book = f.book;
      sum = omega (arith, f.sum, ap heap_len (o.heap (book_in ns₁) is));
    }
