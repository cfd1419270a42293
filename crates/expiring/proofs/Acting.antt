-- From what a call does to the two parts of a book to what the model says of the call.
use mathlib.Core.Path.{◌≡◌, refl, sym, ap, ◌∙◌}
use mathlib.Core.Bool.{Bool, true, false, true≢false, cond}
use mathlib.Core.Logic.{inl, inr}
use mathlib.Core.List.{List}
use Prim.Native.Nat.{ℕ, ◌^◌, ◌<◌}
use native.Mathlib.Omega.{arith}
use lib.ListN.{length}
use Rattle.limits.specs.Limits.{book_limits}
use Rattle.time.specs.declared.tick.Tick.{Tick}
use Rattle.time.specs.declared.refusal.Refusal.{Refusal}
use Rattle.time.specs.declared.refusal.Refusal.TheVariants.{InvalidNanos, KeyLimitReached}
use Rattle.time.specs.declared.duration.TtlTicks.{TtlTicks}
use Rattle.std.specs.Prelude.{Option, Result, Ok, Err, IsErr, IsErrAnd, ⊤}
use Rattle.lazy_heap_model.specs.declared.counted.Counted.{Counted}
use Rattle.lazy_heap_model.specs.Model.{Heap}
use Rattle.fast_lru_model.specs.Model.{Items}
use Rattle.expiration_index.specs.Model.{Pairs}
use Rattle.expiring_model.specs.declared.answers.Answer.{Answer}
use Rattle.expiring_model.specs.declared.answers.Answer.TheVariants as answers
use Rattle.expiring.specs.declared.answers.Reply.{Reply}
use Rattle.expiring.specs.declared.expiring.Expiring.{Expiring}
use Rattle.expiring_model.specs.Model.{Book, Call, Change, keep, set, drop, drop_expired, drop_all, look, change_of, pairs_after, stored_after, expired_by, answered, bad_nanos, sets_beyond, refusal_of, accepted, answer_of, book_after}
use Rattle.expiring_model.specs.Discards.{discards, heap_after, discarded_by, heap_by}
use Rattle.expiring.specs.Book.{capacity_of, limit_of, IsBook, heap_of, model_of}
use Rattle.expiring.specs.Calls.{cause_of, Following, Looking, Updating}
use Rattle.expiring.specs.Steps.{with_expired, replying, stored_of, deadlines_of, saturating_sum, Moved, beyond, Acting}
use Rattle.lazy_heap.proofs.Calling.{handed_on}
use Rattle.expiring.proofs.Frames.{kept_same}
use Rattle.expiring.proofs.Limits.{err_ok, same_err, no_book_lem}

pub same_refusal : {v w : Refusal} → answers.Refused v ≡ answers.Refused w → v ≡ w
same_refusal e = cc

-- an answer that is no refusal
abbrev pub Accepted : Answer → Type 0
Accepted a = (why : Refusal) → a ≡ answers.Refused why → ⊥

abbrev refuses : Answer → Bool
refuses (answers.Refused why) = true
refuses answers.Nothing = false
refuses (answers.Value v) = false
refuses answers.Yes = false
refuses answers.No = false
refuses answers.Missing = false
refuses answers.Immortal = false
refuses answers.Expired = false
refuses (answers.Live l d) = false
refuses (answers.Count n) = false
refuses (answers.Due k d) = false
refuses (answers.Item k v) = false
refuses (answers.Rank n) = false
refuses answers.Done = false

pub no_refusal : (a : Answer) → refuses a ≡ false → Accepted a
no_refusal a e why q = true≢false (sym (ap refuses q) ∙ e)

-- ---- what the model says of a call, by whether it refuses
module _ (t : Tick) (c : Call) (m : Book) where
  answer_refused : {why : Refusal} → refusal_of t c m ≡ Err why → answer_of t c m ≡ answers.Refused why
  unfolding answer_of
  answer_refused e = rw e

  answer_done : refusal_of t c m ≡ Ok tt → answer_of t c m ≡ answered t c m
  unfolding answer_of
  answer_done e = rw e

  book_refused : {why : Refusal} → refusal_of t c m ≡ Err why → book_after t c m ≡ m
  unfolding book_after
  book_refused e = rw e

  book_done : refusal_of t c m ≡ Ok tt → book_after t c m ≡ accepted t c m
  unfolding book_after
  book_done e = rw e

  module _ (h : Heap) where
    discards_refused : {why : Refusal} → refusal_of t c m ≡ Err why → discarded_by t c m h ≡ 0
    unfolding discarded_by
    discards_refused e = rw e

    discards_done : refusal_of t c m ≡ Ok tt → discarded_by t c m h ≡ discards (change_of t c m) h
    unfolding discarded_by
    discards_done e = rw e

    heap_refused : {why : Refusal} → refusal_of t c m ≡ Err why → heap_by t c m h ≡ h
    unfolding heap_by
    heap_refused e = rw e

    heap_done : refusal_of t c m ≡ Ok tt → heap_by t c m h ≡ heap_after (change_of t c m) h
    unfolding heap_by
    heap_done e = rw e

pub same_book : {c c' d d' e e' r x : ℕ} {l l' : Option TtlTicks} {s s' : Items} {p p' : Pairs} → c ≡ c' → d ≡ d' → l ≡ l' → s ≡ s' → p ≡ p' → e ≡ e'
    → ◌≡◌ {A = Book} (record { capacity = c; limit = d; lifetime = l; stored = s; deadlines = p; expirations = e; replaced = r; removed = x }) (record { capacity = c'; limit = d'; lifetime = l'; stored = s'; deadlines = p'; expirations = e'; replaced = r; removed = x })
same_book a b c d e f = cc

beyond_is : (ch : Change) (ws : List ℕ) (b : Expiring) (m n : ℕ) → sets_beyond ch (model_of ws b m n) ≡ beyond ch ws b
unfolding model_of
beyond_is keep ws b m n = refl
beyond_is (set k d) ws b m n = refl
beyond_is (drop k) ws b m n = refl
beyond_is (drop_expired t) ws b m n = refl
beyond_is drop_all ws b m n = refl
beyond_is look ws b m n = refl

reads_at : (ws : List ℕ) (b : Expiring) {p q : Book} → p ≡ q → model_of ws b q.replaced q.removed ≡ q → model_of ws b p.replaced p.removed ≡ p
reads_at ws b e h = rw e h

reads_itself : (ws : List ℕ) (b : Expiring) (m n : ℕ) → model_of ws b (model_of ws b m n).replaced (model_of ws b m n).removed ≡ model_of ws b m n
unfolding model_of
reads_itself ws b m n = refl

-- ---- refusals 1, 2 and 3
module _ (ws : List ℕ) (b : Expiring) (t : Tick) (c : Call) where
  no_cause : book_limits (capacity_of b) (limit_of b) (length ws) ≡ Ok tt → bad_nanos c ≡ false → cause_of b (length ws) c ≡ Ok tt
  unfolding cause_of
  no_cause l n = rw (l, n)

  cause_limits : {why : Refusal} → book_limits (capacity_of b) (limit_of b) (length ws) ≡ Err why → cause_of b (length ws) c ≡ Err why
  unfolding cause_of
  cause_limits l = rw l

  cause_nanos : book_limits (capacity_of b) (limit_of b) (length ws) ≡ Ok tt → bad_nanos c ≡ true → cause_of b (length ws) c ≡ Err InvalidNanos
  unfolding cause_of
  cause_nanos l n = rw (l, n)

  -- turned back by a cause: no book has cause 1 or 2, and the model turns back cause 3 too
  turned_back : {why : Refusal} → cause_of b (length ws) c ≡ Err why → (IsBook ws b → (m n : ℕ) → refusal_of t c (model_of ws b m n) ≡ Err why) → Following ws b t c ws (replying b (answers.Refused why))
  turned_back {why} e f = record {
    caused = λ w q. ap answers.Refused (let x : why ≡ w = same_err (sym e ∙ q) in x);
    only = λ w q. inl (let x : why ≡ w = same_refusal q in e ∙ ap Err x);
    refused = λ w q. (refl, refl, refl);
    book = λ o. o;
    answer = λ o m n. sym (answer_refused t c _ (f o m n));
    model = λ o m n. reads_at ws b (book_refused t c _ (f o m n)) (reads_itself ws b m n);
    discarded = λ o m n. sym (discards_refused t c _ (heap_of ws b) (f o m n));
    heap = λ o m n. sym (heap_refused t c _ (heap_of ws b) (f o m n));
    kept = kept_same (capacity_of b) (limit_of b) ws;
  }

  pub follow_limits : {why : Refusal} → book_limits (capacity_of b) (limit_of b) (length ws) ≡ Err why → Following ws b t c ws (replying b (answers.Refused why))
  follow_limits e = turned_back (cause_limits e) (λ o. absurd (no_book_lem ws b e o))

  pub follow_nanos : book_limits (capacity_of b) (limit_of b) (length ws) ≡ Ok tt → bad_nanos c ≡ true → Following ws b t c ws (replying b (answers.Refused InvalidNanos))
  unfolding refusal_of
  follow_nanos l n = turned_back (cause_nanos l n) (λ o x y. refusal x y)
    where
      refusal : (x y : ℕ) → refusal_of t c (model_of ws b x y) ≡ Err InvalidNanos
      refusal x y = rw n

  -- ---- a call that is not turned back by a cause
  module _ (limits : book_limits (capacity_of b) (limit_of b) (length ws) ≡ Ok tt) (nanos : bad_nanos c ≡ false) {ch : Change} {s : Items} {n : ℕ} {a : Answer} {ws' : List ℕ} {r : Reply} (act : Acting ws b ch s n a ws' r)
      (change : IsBook ws b → (x y : ℕ) → change_of t c (model_of ws b x y) ≡ ch) (stored : IsBook ws b → (x y : ℕ) → stored_after t c (model_of ws b x y) ≡ s)
      (expired : IsBook ws b → (x y : ℕ) → expired_by t c (model_of ws b x y) ≡ n) (answer : IsBook ws b → (x y : ℕ) → answered t c (model_of ws b x y) ≡ a) where
    refusal : IsBook ws b → (x y : ℕ) → refusal_of t c (model_of ws b x y) ≡ cond (beyond ch ws b) (Err KeyLimitReached) (Ok tt)
    unfolding refusal_of
    refusal o x y = rw (nanos, change o x y, beyond_is ch ws b x y)

    -- the book after it
    model_done : IsBook ws b → beyond ch ws b ≡ false → (x y : ℕ) → model_of ws' r.book (accepted t c (model_of ws b x y)).replaced (accepted t c (model_of ws b x y)).removed ≡ accepted t c (model_of ws b x y)
    unfolding accepted model_of
    model_done o e x y =
        same_book act.capacity act.limit act.lifetime (act.stored o e ∙ sym (stored o x y)) (act.deadlines o e ∙ ap (λ (z : Change). pairs_after z (deadlines_of ws b)) (sym (change o x y)))
        (act.expirations o e ∙ ap (saturating_sum b.expirations) (sym (expired o x y)))

    pub follow : Following ws b t c ws' r
    follow = record {
      caused = λ why e. absurd (err_ok why (sym e ∙ no_cause limits nanos));
      only = λ why e. inr (no_cause limits nanos, act.only why e);
      refused = act.refused;
      book = act.book;
      answer = λ o x y. by o (λ e. act.full o e ∙ sym (answer_refused t c _ (full o e x y))) (λ e. act.answer o e ∙ sym (answer o x y) ∙ sym (answer_done t c _ (done o e x y)));
      model = λ o x y. by o (λ e. reads_at ws' r.book (book_refused t c _ (full o e x y)) (let q = act.refused _ (act.full o e) in rw (q.0, q.2) (reads_itself ws b x y))) (λ e. reads_at ws' r.book (book_done t c _ (done o e x y)) (model_done o e x y));
      discarded = λ o x y. by o (λ e. (act.refused _ (act.full o e)).1 ∙ sym (discards_refused t c _ (heap_of ws b) (full o e x y))) (λ e. act.discarded o e ∙ ap (λ (z : Change). discards z (heap_of ws b)) (sym (change o x y)) ∙ sym (discards_done t c _ (heap_of ws b) (done o e x y)));
      heap = λ o x y. by o (λ e. (let q = act.refused _ (act.full o e) in rw (q.0, q.2)) ∙ sym (heap_refused t c _ (heap_of ws b) (full o e x y))) (λ e. act.heap o e ∙ ap (λ (z : Change). heap_after z (heap_of ws b)) (sym (change o x y)) ∙ sym (heap_done t c _ (heap_of ws b) (done o e x y)));
      kept = act.kept;
    }
      where
        full : IsBook ws b → beyond ch ws b ≡ true → (x y : ℕ) → refusal_of t c (model_of ws b x y) ≡ Err KeyLimitReached
        full o e x y = refusal o x y ∙ rw e

        done : IsBook ws b → beyond ch ws b ≡ false → (x y : ℕ) → refusal_of t c (model_of ws b x y) ≡ Ok tt
        done o e x y = refusal o x y ∙ rw e

        by : {P : Type 0} → IsBook ws b → (beyond ch ws b ≡ true → P) → (beyond ch ws b ≡ false → P) → P
        by {P} o f g = go (beyond ch ws b) refl
          where
            go : (z : Bool) → beyond ch ws b ≡ z → P
            go true e = f e
            go false e = g e

-- what is handed on where the numbers are refused
module _ {ws : List ℕ} {b : Expiring} {t : Tick} {c : Call} {why : Refusal} {r : Result ⊤ Refusal} where
  pub look_limits : (said : Result Answer Refusal) → r ≡ book_limits (capacity_of b) (limit_of b) (length ws) → r ≡ Err why → IsErr said × IsErrAnd said (λ e. e ≡ why) → Looking ws b t c said
  look_limits said l e q = rw (handed_on q) (follow_limits ws b t c (sym l ∙ e))

  pub update_limits : (said : Result (Counted Answer) Refusal) → r ≡ book_limits (capacity_of b) (limit_of b) (length ws) → r ≡ Err why → IsErr said × IsErrAnd said (λ e. e ≡ why) → Updating ws b t c ws b said
  update_limits said l e q = rw (handed_on q) (follow_limits ws b t c (sym l ∙ e))

-- ---- what steps come to
module _ {ws ws' : List ℕ} {b b' : Expiring} {ch : Change} {f : Items → Items} {d : ℕ} (move : Moved ws b ch f ws' b' d) (free : IsBook ws b → beyond ch ws b ≡ false) where
  -- with n more expirations counted
  pub acting_expired : (n : ℕ) {k : ℕ} {s : Items} {a u : Answer} → Accepted u → (IsBook ws b → f (stored_of ws b) ≡ s) → (IsBook ws b → n ≡ k) → (IsBook ws b → u ≡ a) → Acting ws b ch s k a ws' (record { book = with_expired b' n; answer = u; discarded = d })
  acting_expired n v stored count answer = record {
    only = λ why e. absurd (v why e);
    refused = λ why e. absurd (v why e);
    full = λ o e. absurd (true≢false (sym e ∙ free o));
    capacity = move.capacity;
    limit = move.limit;
    lifetime = move.lifetime;
    book = λ o. record { list = (move.book o).list; index = (move.book o).index };
    answer = λ o e. answer o;
    expirations = λ o e. ap (λ (x : ℕ). saturating_sum x n) move.expirations ∙ ap (saturating_sum b.expirations) (count o);
    stored = λ o e. move.stored o ∙ stored o;
    deadlines = λ o e. move.deadlines o;
    heap = λ o e. move.heap o;
    discarded = λ o e. move.discarded o;
    kept = move.kept;
  }

  -- with none; the book's count is a word
  pub acting : b.expirations < 2 ^ 64 → {k : ℕ} {s : Items} {a u : Answer} → Accepted u → (IsBook ws b → f (stored_of ws b) ≡ s) → (IsBook ws b → 0 ≡ k) → (IsBook ws b → u ≡ a) → Acting ws b ch s k a ws' (record { book = b'; answer = u; discarded = d })
  acting w v stored count answer = record {
    only = λ why e. absurd (v why e);
    refused = λ why e. absurd (v why e);
    full = λ o e. absurd (true≢false (sym e ∙ free o));
    capacity = move.capacity;
    limit = move.limit;
    lifetime = move.lifetime;
    book = move.book;
    answer = λ o e. answer o;
    expirations = λ o e. move.expirations ∙ omega (arith, w, count o);
    stored = λ o e. move.stored o ∙ stored o;
    deadlines = λ o e. move.deadlines o;
    heap = λ o e. move.heap o;
    discarded = λ o e. move.discarded o;
    kept = move.kept;
  }

-- and where there is no room for another deadline
pub acting_full : (ws : List ℕ) (b : Expiring) {ch : Change} {s : Items} {n : ℕ} {a : Answer} {ws' : List ℕ} {b' : Expiring} {why : Refusal} → why ≡ KeyLimitReached → (b' ≡ b) × (ws' ≡ ws) → (IsBook ws b → beyond ch ws b ≡ true) → Acting ws b ch s n a ws' (replying b' (answers.Refused why))
acting_full ws b {ch} w (e, f) full = rw (w, e, f) (record {
  only = λ why q. sym (same_refusal q);
  refused = λ why q. (refl, refl, refl);
  full = λ o q. refl;
  capacity = refl;
  limit = refl;
  lifetime = refl;
  book = λ o. o;
  answer = λ o q. absurd (true≢false (sym (full o) ∙ q));
  expirations = λ o q. absurd (true≢false (sym (full o) ∙ q));
  stored = λ o q. absurd (true≢false (sym (full o) ∙ q));
  deadlines = λ o q. absurd (true≢false (sym (full o) ∙ q));
  heap = λ o q. absurd (true≢false (sym (full o) ∙ q));
  discarded = λ o q. absurd (true≢false (sym (full o) ∙ q));
  kept = kept_same (capacity_of b) (limit_of b) ws;
})
