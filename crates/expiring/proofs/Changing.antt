-- From what the layers below promise of a step to what it does to the book that the numbers tell.
use mathlib.Core.Path.{◌≡◌, refl, sym, ap, subst, ◌∙◌}
use mathlib.Core.Bool.{true, false, cond}
use mathlib.Core.List.{List, ◌++◌}
use Prim.Native.Nat.{ℕ, ◌^◌, ◌<◌, ◌≤◌}
use native.Mathlib.Omega.{arith}
use borrow.Author.Tests.{lt-ltb, le-ltb}
use Rattle.rings.proofs.Counts.{by_lt}
use lib.ListN.{length, get_or, take}
use lib.ListN as numbers
use lib.Seq.{length-take-le, get_or-take}
use Rattle.std.specs.Prelude.{Option, None, Result, Ok, Err, ⊤}
use Rattle.std.specs.Result.{result_unwrap_or}
use Rattle.limits.specs.Limits.{book_limits}
use Rattle.time.specs.declared.tick.Tick.{Tick}
use Rattle.time.specs.declared.refusal.Refusal.TheVariants.{TooFewWords, InvalidNanos}
use Rattle.time.specs.declared.refusal.Refusal.{Refusal}
use Rattle.time.specs.declared.duration.TtlTicks.{TtlTicks}
use Rattle.lazy_heap_model.specs.declared.counted.Counted.{Counted}
use Rattle.fast_lru.specs.declared.lru.FastLru.{FastLru}
use Rattle.fast_lru_model.specs.Model.{Items, inserted}
use Rattle.fast_lru_model.specs.Model as list
use Rattle.fast_lru.specs.Calls as lru
use Rattle.expiration_index.specs.declared.index.ExpirationIndex.{ExpirationIndex}
use Rattle.expiration_index.specs.Calls as calls
use Rattle.expiring_model.specs.declared.answers.Answer.{Answer}
use Rattle.expiring_model.specs.declared.answers.Answer.TheVariants as answers
use Rattle.expiring.specs.declared.answers.Reply.{Reply}
use Rattle.expiring.specs.declared.expiring.Expiring.{Expiring}
use Rattle.expiring_model.specs.Model.{Call, Change, keep, drop, bad_nanos}
use Rattle.expiring.specs.Book.{capacity_of, limit_of, IsBook}
use Rattle.expiring.specs.Calls.{Following}
use Rattle.expiring.specs.Numbers.{lru_in, index_in, book_in, with_lru, with_deadlines, with_held, with_expiration, with_book}
use Rattle.expiring_answers.specs.Answers.{of_found, come_by}
use Rattle.expiring.specs.Steps.{stored_of, DeadlineOf, Moved, same, Dating, beyond, expired_in, value_of, unless, Acting, Inserting}
use Rattle.expiring.specs.Changes.{RoomIn, Ready, Stay, reply_in, saying, admitted, too_few_numbers, Setting, Dropping, Valuing, Putting, Concluding, Changing}
use Rattle.expiring.proofs.Moving.{lent, back, index_kept, moved_drop, moved_later}
use Rattle.expiring.proofs.Acting.{follow_limits, follow_nanos}
use Rattle.expiring.proofs.Limits.{err_ok, same_err, limits_room, room_limits}
use Rattle.expiring.proofs.Calling.{conclude}
use Rattle.expiring.proofs.Valuing.{value_of_lem, moved_values, said_changing, dating, removed_held}
use Rattle.expiring.proofs.Storing.{lru_stored, deadlines_stored, held_stored, book_stored, expiration_stored, stay_same, stay_lru, stay_deadlines, stay_held, stay_expiration, book_front, book_back, stay_front}

-- ---- the index's numbers, and then its part of the words
module _ {ns ws : List ℕ} (ready : Ready ns (length ws)) {k : ℕ} {ys : List ℕ} {x : ExpirationIndex} {r : Result (Counted (Option Tick)) Refusal} where
  pub setting : {t : Tick} → calls.Setting (lent ws (book_in ns)) (index_in ns) k t ys x r → Setting ns ws k t (with_deadlines ns x) (back ws (book_in ns) ys) r
  setting {t} o = record {
    stay = stay_deadlines ns x;
    size = (index_kept ws (book_in ns) ready.room x o.kept).size;
    dating = subst (λ b. Dating ws (book_in ns) k t (back ws (book_in ns) ys) b r) (sym (deadlines_stored ns x ready.numbers o.limit)) (dating ws (book_in ns) ready.room k t o);
  }

  pub dropping_of : {y : Counted (Option Tick)} → calls.Removing (lent ws (book_in ns)) (index_in ns) k ys x r → r ≡ Ok y → Dropping ns ws k (with_held ns x) (back ws (book_in ns) ys) y.answer
  dropping_of o e = record {
    stay = stay_held ns x;
    size = (index_kept ws (book_in ns) ready.room x o.call.kept).size;
    moved = subst (λ b. Moved ws (book_in ns) (drop k) same (back ws (book_in ns) ys) b 0) (sym (held_stored ns x ready.numbers o.numbers)) (moved_drop ws (book_in ns) ready.room o);
    held = removed_held ws (book_in ns) ready.room o e;
  }

-- ---- the list's
module _ {ns ws ws' : List ℕ} (h : 12 ≤ length ns) {k : ℕ} {f : Items → Items} {l : FastLru} {r : Result (Option ℕ) Refusal} where
  pub valuing : lru.Changing ws (lru_in ns) (list.value_of k) f ws' l r → Valuing ns ws k f (with_lru ns l) ws' (result_unwrap_or r None)
  valuing o = record {
    stay = stay_lru ns l;
    moved = subst (λ b. Moved ws (book_in ns) keep f ws' b 0) (sym (lru_stored ns l h o.capacity)) (moved_values {b = book_in ns} o);
    value = said_changing {b = book_in ns} o None;
  }

-- ---- the expirations
module _ {ns : List ℕ} (x : Option ℕ) (old : Option Tick) (t : Tick) where
  pub concluding_expired : 12 ≤ length ns → come_by (Ok old) t ≡ true → Concluding ns x old t (with_expiration ns) answers.Nothing
  concluding_expired h e = record { stay = stay_expiration ns; reply = λ d. rw e (ap (λ (b : Expiring). record { book = b; answer = answers.Nothing; discarded = d }) (expiration_stored ns h)) }

-- ---- first the deadline, then the value, and then what the call comes to
module _ (ns : List ℕ) {ns₁ ns₂ ns₃ ws ws₁ ws₂ : List ℕ} {ch : Change} {d k : ℕ} {old : Option Tick} {x : Option ℕ} {t : Tick} {a : Answer} (move : Moved ws (book_in ns) ch same ws₁ (book_in ns₁) d) (free : IsBook ws (book_in ns) → beyond ch ws (book_in ns) ≡ false) (held : DeadlineOf ws (book_in ns) k old) (word : get_or ns 11 0 < 2 ^ 64) (done : Concluding ns₂ x old t ns₃ a) where
  pub concludes : {f : Items → Items} → Valuing ns₁ ws₁ k f ns₂ ws₂ x → Acting ws (book_in ns) ch (f (stored_of ws (book_in ns))) (cond (expired_in ws (book_in ns) t k) 1 0) (unless (expired_in ws (book_in ns) t k) (value_of ws (book_in ns) k)) ws₂ (reply_in ns₃ (record { answer = a; discarded = d }))
  concludes {f} p =
      subst (λ r. Acting ws (book_in ns) ch (f (stored_of ws (book_in ns))) (cond (expired_in ws (book_in ns) t k) 1 0) (unless (expired_in ws (book_in ns) t k) (value_of ws (book_in ns) k)) ws₂ r) (sym (done.reply d))
      (conclude t x (moved_later move p.moved) free held (λ is. ap (λ (v : Option ℕ). of_found (Ok v)) (p.value (move.book is) ∙ ap (list.value_of k) (move.stored is)) ∙ value_of_lem k (stored_of ws (book_in ns))) word)

  pub put_after : (v : ℕ) → Putting ns₁ ws₁ k v ns₂ ws₂ x → Inserting ws (book_in ns) t k v ch ws₂ (reply_in ns₃ (record { answer = a; discarded = d }))
  put_after v p =
      subst (λ c. Acting ws (book_in ns) ch (inserted c (record { key = k; value = v }) (stored_of ws (book_in ns))) (cond (expired_in ws (book_in ns) t k) 1 0) (unless (expired_in ws (book_in ns) t k) (value_of ws (book_in ns) k)) ws₂ (reply_in ns₃ (record { answer = a; discarded = d }))) move.capacity
      (concludes p)

-- ---- calls
pub ready_in : (ns : List ℕ) {size : ℕ} → 12 ≤ length ns → book_limits (capacity_of (book_in ns)) (limit_of (book_in ns)) size ≡ Ok tt → Ready ns size
ready_in ns h l = record { numbers = h; room = limits_room _ _ _ l }

-- the first of twelve numbers or more
pub front_size : (ns : List ℕ) {front : List ℕ} → 12 ≤ length ns → front ≡ take 12 ns → 12 ≤ length front
front_size ns h e = omega (arith, ap length e, length-take-le 12 ns h)

pub admitted_ready : (ns : List ℕ) {size : ℕ} → admitted ns size ≡ Ok tt → Ready ns size
unfolding admitted
admitted_ready ns {size} e =
    by_lt (length ns) 12 (λ few. absurd (err_ok TooFewWords (sym (rw (lt-ltb (length ns) 12 few)) ∙ e)))
    (λ h. ready_in ns h (sym (rw (le-ltb (length ns) 12 h)) ∙ e))

-- the limits of a book that was read are those of the one that the numbers tell
pub limits_in_lem : (ns : List ℕ) {b : Expiring} → b ≡ book_in ns → (size : ℕ) {o o' : Result ⊤ Refusal} → o ≡ book_limits (capacity_of b) (limit_of b) size → o ≡ o' → book_limits (capacity_of (book_in ns)) (limit_of (book_in ns)) size ≡ o'
limits_in_lem ns e size {o} {o'} l q = subst (λ b. book_limits (capacity_of b) (limit_of b) size ≡ o') e (sym l ∙ q)

-- the first twelve of them tell the same book
pub room_front : (ns : List ℕ) {front : List ℕ} {size : ℕ} → front ≡ take 12 ns → Ready ns size → RoomIn front size
room_front ns {front} {size} e ready = limits_room (capacity_of (book_in front)) (limit_of (book_in front)) size (limits_in_lem front (sym (ap book_in e ∙ book_front ns ready.numbers)) size refl (room_limits ready.room))

pub word_front : (ns : List ℕ) {front : List ℕ} → front ≡ take 12 ns → get_or ns 11 0 < 2 ^ 64 → get_or front 11 0 < 2 ^ 64
word_front ns e w = rw (e, get_or-take 12 ns 11 0 (omega arith)) w

-- fewer than twelve numbers, and enough of them
module _ {ns ws : List ℕ} {t : Tick} {c : Call} where
  pub changing_refused : {r : Counted Answer} → length ns < 12 → r ≡ too_few_numbers → Changing ns ws t c ns ws r
  changing_refused few e = record { refused = λ _. (e, refl, refl); call = λ h. absurd (omega arith); stay = stay_same ns }

  pub changing : {ns' ws' : List ℕ} {r : Counted Answer} → 12 ≤ length ns → Stay ns ns' → Following ws (book_in ns) t c ws' (reply_in ns' r) → Changing ns ws t c ns' ws' r
  changing h s o = record { refused = λ few. absurd (omega arith); call = λ _. o; stay = s }

  -- and a book's own refusal
  pub turned_back : {why : Refusal} → admitted ns (length ws) ≡ Err why → Changing ns ws t c ns ws (saying (answers.Refused why))
  unfolding admitted
  turned_back {why} e =
      by_lt (length ns) 12
      (λ few. changing_refused few (ap (λ (w : Refusal). saying (answers.Refused w)) (same_err (sym e ∙ rw (lt-ltb (length ns) 12 few)))))
      (λ h. changing h (stay_same ns) (follow_limits ws (book_in ns) t c (sym (rw (le-ltb (length ns) 12 h)) ∙ e)))

-- a call on the first twelve numbers of an admitted book is one on all of them
module _ (ns ws : List ℕ) {first : List ℕ} (e : admitted ns (length ws) ≡ Ok tt) (front : first ≡ take 12 ns) where
  pub limits_front : book_limits (capacity_of (book_in first)) (limit_of (book_in first)) (length ws) ≡ Ok tt
  limits_front = room_limits (room_front ns front (admitted_ready ns e))

  module _ {t : Tick} {c : Call} where
    pub on_front : (ns' : List ℕ) {ws' : List ℕ} {r : Counted Answer} → Stay first ns' → Following ws (book_in first) t c ws' (reply_in ns' r) → Changing ns ws t c (ns' ++ numbers.drop 12 ns) ws' r
    on_front ns' {ws'} {r} s o =
        let h = (admitted_ready ns e).numbers in
        let long : 12 ≤ length ns' = omega (arith, s.size, front_size ns h front) in
        changing h (stay_front ns ns' h (subst (λ l. Stay l ns') front s))
        (subst (λ b. Following ws (book_in ns) t c ws' (record { book = b; answer = r.answer; discarded = r.discarded })) (sym (book_back ns' (numbers.drop 12 ns) long))
        (subst (λ b. Following ws b t c ws' (reply_in ns' r)) (ap book_in front ∙ book_front ns h) o))

    -- with a lifetime that is no duration
    pub nanos_front : {why : Refusal} → bad_nanos c ≡ true → why ≡ InvalidNanos → Changing ns ws t c (first ++ numbers.drop 12 ns) ws (saying (answers.Refused why))
    nanos_front bad q = on_front first (stay_same first) (rw q (follow_nanos _ (book_in first) _ _ limits_front bad))

-- a book that was read is the one that the numbers tell
pub default_in_lem : (ns : List ℕ) {b : Expiring} → b ≡ book_in ns → {l : Option TtlTicks} → b.default_ttl ≡ l → (book_in ns).default_ttl ≡ l
default_in_lem ns e q = sym (ap (λ (b : Expiring). b.default_ttl) e) ∙ q

-- a reply whose numbers were stored
module _ {ws ws' : List ℕ} {b : Expiring} {t : Tick} {c : Call} {a : Answer} {d : ℕ} where
  pub told_in_lem : (ns : List ℕ) {b' : Expiring} → b' ≡ book_in ns → Following ws b t c ws' (record { book = b'; answer = a; discarded = d }) → Following ws b t c ws' (reply_in ns (record { answer = a; discarded = d }))
  told_in_lem ns e o = subst (λ b'. Following ws b t c ws' (record { book = b'; answer = a; discarded = d })) e o

-- a call on the numbers of a book
pub told_of : (ns ns₁ : List ℕ) {ws ws' : List ℕ} {b : Expiring} {t : Tick} {c : Call} {r : Reply} → 12 ≤ length ns → ns₁ ≡ with_book ns b → Following ws (book_in ns₁) t c ws' r → Following ws b t c ws' r
told_of ns ns₁ {ws} {ws'} {b} {t} {c} {r} h e o = subst (λ b. Following ws b t c ws' r) (ap book_in e ∙ book_stored ns b h) o
