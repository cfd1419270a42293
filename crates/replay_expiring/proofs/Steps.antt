-- One call comes to what it comes to on the plain book. After a look that holds of the book as it was, since the
-- plain book and the heap stay as they are.
use mathlib.Core.Path.{◌≡◌, refl, ap, ◌∙◌}
use mathlib.Core.List.{List, [], ◌∷◌}
use Prim.Native.Nat.{ℕ, ◌+◌, ◌-◌, ◌^◌, ◌<◌, min}
use native.Mathlib.Omega.{arith}
use Rattle.time.specs.declared.tick.Tick.{Tick}
use Rattle.std.specs.Prelude.{Result, Ok, Err, ⊤}
use Rattle.time.specs.declared.refusal.Refusal.{Refusal}
use Rattle.lazy_heap_model.specs.Model.{Heap, heap_len}
use Rattle.expiring_model.specs.declared.answers.Answer.{Answer}
use Rattle.expiring.specs.declared.answers.Reply.{Reply}
use Rattle.expiring.specs.declared.expiring.Expiring.{Expiring}
use Rattle.expiring_model.specs.Model.{Book, Call, contains, peek, ttl_status, recency_rank, live_len, expirations, peek_lru, change_of, pairs_after, replaced_by, removed_by, stored_after, expired_by, bad_nanos, refusal_of, accepted, answer_of, book_after}
use Rattle.expiring_model.specs.Discards.{heap_after, heap_by}
use Rattle.expiring.specs.Book.{IsBook, heap_of}
use Rattle.expiring.specs.Calls.{Following}
use Rattle.expiring_model.specs.Lists.{answers_of, book_at_end}
use Rattle.expiring.specs.Runs as book
use Rattle.expiring.proofs.Accounts.{counted}
use Rattle.expiring.proofs.Runs.{ReadsAs, Ran, follow}

-- ---- a look
pub data Look : Call → Type 0 where
  at_contains : {k : ℕ} → Look (contains k)
  at_peek : {k : ℕ} → Look (peek k)
  at_ttl_status : {k : ℕ} → Look (ttl_status k)
  at_recency_rank : {k : ℕ} → Look (recency_rank k)
  at_live_len : Look live_len
  at_expirations : Look expirations
  at_peek_lru : Look peek_lru

same : (p : Book) → p.expirations < 2 ^ 64 → record { capacity = p.capacity; limit = p.limit; lifetime = p.lifetime; stored = p.stored; deadlines = p.deadlines; expirations = min (p.expirations + 0) (2 ^ 64 - 1); replaced = p.replaced + 0; removed = p.removed + 0 } ≡ p
same p h =
    let e : min (p.expirations + 0) (2 ^ 64 - 1) ≡ p.expirations = omega arith in
    let r : p.replaced + 0 ≡ p.replaced = omega arith in
    let m : p.removed + 0 ≡ p.removed = omega arith in
    rw (e, r, m)

pub model_stays : {c : Call} (t : Tick) → Look c → (p : Book) → p.expirations < 2 ^ 64 → book_after t c p ≡ p
unfolding book_after refusal_of bad_nanos change_of accepted stored_after pairs_after replaced_by removed_by expired_by
model_stays t at_contains p h = same p h
model_stays t at_peek p h = same p h
model_stays t at_ttl_status p h = same p h
model_stays t at_recency_rank p h = same p h
model_stays t at_live_len p h = same p h
model_stays t at_expirations p h = same p h
model_stays t at_peek_lru p h = same p h

pub heap_stays : {c : Call} (t : Tick) → Look c → (p : Book) (h : Heap) → heap_by t c p h ≡ h
unfolding heap_by heap_after refusal_of bad_nanos change_of
heap_stays t at_contains p h = refl
heap_stays t at_peek p h = refl
heap_stays t at_ttl_status p h = refl
heap_stays t at_recency_rank p h = refl
heap_stays t at_live_len p h = refl
heap_stays t at_expirations p h = refl
heap_stays t at_peek_lru p h = refl

-- expirations stop where they are to
pub within : (t : Tick) (c : Call) (p : Book) → p.expirations < 2 ^ 64 → (book_after t c p).expirations < 2 ^ 64
unfolding book_after accepted
within t c p h = go (refusal_of t c p) refl
  where
    go : (o : Result ⊤ Refusal) → refusal_of t c p ≡ o → (book_after t c p).expirations < 2 ^ 64
    go (Ok done) q = rw q (omega arith)
    go (Err why) q = rw q h

-- ---- a call with the answer a and n entries discarded, on a book that stands for p
pub record Step (t : Tick) (c : Call) (ws : List ℕ) (b : Expiring) (p : Book) (a : Answer) (n : ℕ) (ws₁ : List ℕ) (b₁ : Expiring) : Type 0 where
  pub answer : a ≡ answer_of t c p
  pub model : ReadsAs ws₁ b₁ (book_after t c p)
  pub book : IsBook ws₁ b₁
  pub sum : n + heap_len (heap_of ws₁ b₁) + counted p ≡ heap_len (heap_of ws b) + counted (book_after t c p)

module _ {ws : List ℕ} {b : Expiring} {t : Tick} {c : Call} {p : Book} (is : IsBook ws b) (e : ReadsAs ws b p) where
  pub changed : {ws₁ : List ℕ} {r : Reply} → Following ws b t c ws₁ r → Step t c ws b p r.answer r.discarded ws₁ r.book
  unfolding answers_of book_at_end
  changed {ws₁ = ws₁} {r = r} o =
      let ran : Ran ws b p ((t, c) ∷ []) (r.answer ∷ []) (r.discarded + 0) ws₁ r.book = follow p is e (book.more o book.none) in
      record { answer = cc ran.answers; model = ran.model; book = ran.book; sum = omega (arith, ran.sum) }

  pub looked : {r : Reply} → book_after t c p ≡ p → ((q : Book) (h : Heap) → heap_by t c q h ≡ h) → Following ws b t c ws r → Step t c ws b p r.answer r.discarded ws b
  looked same stays o =
      let s = changed o in
      let heap = ap heap_len (o.heap is p.replaced p.removed ∙ stays _ (heap_of ws b)) in
      record { answer = s.answer; model = rw same e; book = is; sum = omega (arith, s.sum, heap) }
