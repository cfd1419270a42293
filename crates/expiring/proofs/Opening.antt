-- A fresh book: a fresh list, and behind it a fresh index.
use mathlib.Core.Path.{◌≡◌, refl, sym, ap, ◌∙◌}
use mathlib.Core.List.{List, []}
use Prim.Native.Nat.{ℕ, ◌+◌, ◌-◌, ◌*◌, ◌<◌, ◌≤◌}
use native.Mathlib.Omega.{arith}
use lib.ListN.{length}
use lib.ListN as words
use borrow.Author.Tests.{le-ltb}
use borrow.Rule.Slice.PartMut.{mid_of, put_mid}
use Rattle.std.specs.Prelude.{Option, Some, None, Result, Ok, Err, IsOk}
use Rattle.std.specs.Option.{option_transpose}
use Rattle.limits.specs.Limits.{list_limits, book_limits}
use Rattle.time.specs.declared.duration.Duration.{Duration}
use Rattle.time.specs.declared.duration.TtlTicks.{TtlTicks}
use Rattle.time.specs.Duration.{ticks_of}
use Rattle.time.specs.declared.refusal.Refusal.{Refusal}
use Rattle.lazy_heap_model.specs.Model.{Heap}
use Rattle.lazy_heap_model.specs.Model as heap
use Rattle.lazy_heap.specs.Answers.{outcome_of}
use Rattle.lazy_heap.proofs.Laws as lazy
use Rattle.lazy_heap.proofs.Parts.{part_length}
use Rattle.fast_lru.specs.declared.lru.FastLru.{FastLru}
use Rattle.fast_lru.specs.Lru as lru
use Rattle.fast_lru.specs.Calls as lists
use Rattle.fast_lru.proofs.Laws as listLaws
use Rattle.expiration_index.specs.declared.index.ExpirationIndex.{ExpirationIndex}
use Rattle.expiration_index.specs.Index as index
use Rattle.expiration_index.specs.Calls as calls
use Rattle.expiring.specs.declared.expiring.Expiring.{Expiring}
use Rattle.expiring_model.specs.Model.{fresh, of_ticks, default_of}
use Rattle.expiring.specs.Book.{start, Room, limit_of, rest, model_of}
use Rattle.expiring.specs.Calls.{by_duration, opening_of, Opening}
use Rattle.expiring.specs.Steps.{defaulted_by, Opened}
use Rattle.expiring.proofs.Frames.{rest_back, rest_length, rest_before, rest_kept, kept_then, kept_list, kept_same}
use Rattle.expiring.proofs.Acting.{same_book}
use Rattle.expiring.proofs.Limits.{err_ok, same_value, never_refused}

-- ---- the default lifetime
ticks_refused : (x : Result TtlTicks Refusal) {why : Refusal} → option_transpose (Some x) ≡ Err why → outcome_of x ≡ Err why
ticks_refused (Ok l) {why} e = absurd (err_ok why (sym e))
ticks_refused (Err w) e = cc

by_duration_lem : (l : Option Duration) {why : Refusal} → defaulted_by l ≡ Err why → by_duration l ≡ Err why
by_duration_lem (Some d) e = ticks_refused (ticks_of d) e
by_duration_lem None {why} e = absurd (err_ok why (sym e))

ticks_done : (x : Result TtlTicks Refusal) {t : Option TtlTicks} → option_transpose (Some x) ≡ Ok t → (outcome_of x ≡ Ok tt) × (of_ticks x ≡ t)
ticks_done (Ok l) e = (refl, same_value e)
ticks_done (Err w) e = absurd (err_ok w e)

by_default_lem : (l : Option Duration) {t : Option TtlTicks} → defaulted_by l ≡ Ok t → (by_duration l ≡ Ok tt) × (default_of l ≡ t)
by_default_lem (Some d) e = ticks_done (ticks_of d) e
by_default_lem None e = (refl, same_value e)

-- ---- refusals
module _ (ws : List ℕ) (c d s : ℕ) (l : Option Duration) where
  opening_refused : {why : Refusal} → opening_of c d (length ws) l ≡ Err why → Opening ws c d s l ws (Err why)
  opening_refused {why} e = record {
    outcome = sym e;
    refused = λ w q. refl;
    book = λ b q. absurd (err_ok why q);
    model = λ b q. absurd (err_ok why q);
    heap = λ b q. absurd (err_ok why q);
    kept = kept_same c d ws;
  }

  pub opening_limits : {why : Refusal} → book_limits c d (length ws) ≡ Err why → Opening ws c d s l ws (Err why)
  unfolding opening_of
  opening_limits e = opening_refused (rw e)

  pub opening_nanos : book_limits c d (length ws) ≡ Ok tt → {why : Refusal} → defaulted_by l ≡ Err why → Opening ws c d s l ws (Err why)
  unfolding opening_of
  opening_nanos limits e = opening_refused (rw limits (by_duration_lem l e))

  pub opening_done : book_limits c d (length ws) ≡ Ok tt → {t : Option TtlTicks} → defaulted_by l ≡ Ok t → {ws' : List ℕ} {b : Expiring} → Opened ws c d s t ws' b → Opening ws c d s l ws' (Ok b)
  unfolding opening_of
  opening_done limits e {b = b} o = record {
    outcome = sym (rw limits (by_default_lem l e).0);
    refused = λ why q. absurd (err_ok why (sym q));
    book = λ x q. rw (sym (same_value q)) o.book;
    model = λ x q. rw (sym (same_value q)) (o.model ∙ ap (fresh c d) (sym (by_default_lem l e).1));
    heap = λ x q. rw (sym (same_value q)) o.heap;
    kept = o.kept;
  }

-- ---- a list, and an index behind it. Where there is room for both, neither is refused.
module _ {l c d : ℕ} (r : Room l c d) where
  pub list_open : list_limits c l ≡ Ok tt
  unfolding list_limits
  list_open = rw (le-ltb 4096 c r.capacity, le-ltb l (64 + 8 * c) (omega (arith, r.words)))

  pub list_answers : {ws ws' : List ℕ} {x : Result FastLru Refusal} → length ws ≡ l → lists.Opening ws c ws' x → IsOk x
  list_answers {x = Ok y} n o = refl
  list_answers {ws} {x = Err why} n o = absurd (err_ok why (sym (o.only why refl) ∙ ap (list_limits c) n ∙ list_open))

module _ {ws ws₁ ys : List ℕ} {c d s : ℕ} (room : Room (length ws) c d) {x : Result FastLru Refusal} (p : lists.Opening ws c ws₁ x) {y : Result ExpirationIndex Refusal} (q : calls.Opening (mid_of (start c) (length ws₁ - start c) ws₁) d s ys y) where
  fits : start c ≤ length ws₁
  fits = omega (arith, p.kept.size, room.words)

  behind : outcome_of y ≡ Ok tt
  behind = q.outcome ∙ lazy.room_limits (record { some = room.some; limit = room.limit; words = omega (arith, part_length ws₁ (start c) (length ws₁) fits (omega arith), p.kept.size, room.words) })

  pub index_answers : IsOk y
  index_answers = never_refused y behind

  module _ (t : Option TtlTicks) {l : FastLru} (e : x ≡ Ok l) {i : ExpirationIndex} (f : y ≡ Ok i) where
    new : lists.IsNew c ws₁ l
    new = p.opened l e

    abbrev book : Expiring
    book = record { inner = l; index = i; default_ttl = t; expirations = 0 }

    abbrev ws₂ : List ℕ
    ws₂ = put_mid (start c) (length ws₁ - start c) ws₁ ys

    rest_then : rest ws₂ book ≡ ys
    rest_then = ap (λ (n : ℕ). words.drop (start n) ws₂) new.capacity ∙ rest_back ws₁ (start c) fits ys q.kept.size

    same : (j : ℕ) → j < 64 + 8 * l.map.capacity → words.get_or ws₂ j 0 ≡ words.get_or ws₁ j 0
    same j h = rest_before ws₁ (start c) fits ys q.kept.size j (omega (arith, h, new.capacity))

    list_then : lru.IsList ws₂ l × (lru.model_of ws₂ l ≡ [])
    list_then =
        let n = rest_length ws₁ (start c) fits ys q.kept.size in
        (listLaws.list_frame new.list ws₂ (omega (arith, n, fits, new.capacity)) same, listLaws.model_frame new.list ws₂ (omega (arith, n, fits, new.capacity)) same ∙ new.model)

    limit : limit_of book ≡ d
    unfolding heap.opened
    limit = ap (λ (h : Heap). h.limit) (q.heap i f)

    pub opened_within : Opened ws c d s t ws₂ book
    unfolding model_of fresh
    opened_within = record {
      book = record { list = list_then.0; index = rw rest_then (q.index i f) };
      model = same_book new.capacity limit refl list_then.1 (ap (λ (w : List ℕ). index.model_of w i) rest_then ∙ q.model i f) refl;
      heap = ap (λ (w : List ℕ). index.heap_of w i) rest_then ∙ q.heap i f;
      kept = kept_then refl refl (kept_list c d p.kept) (rest_kept ws₁ (start c) fits ys q.kept.size c d refl q.kept);
    }
