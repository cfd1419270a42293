-- Each call, as the model says it.
use mathlib.Core.Path.{◌≡◌, refl, sym, ap, ◌∙◌}
use mathlib.Core.Bool.{Bool, true, false, ◌&&◌}
use mathlib.Core.List.{List}
use Prim.Native.Nat.{ℕ, ◌-◌, ◌^◌, ◌<◌}
use lib.ListN.{length}
use borrow.Author.Tests.{eq-eqb, ne_eqb}
use Rattle.std.specs.Prelude.{Option, Some, None, Result, Ok, Err, ⊤}
use Rattle.limits.specs.Limits.{book_limits}
use Rattle.time.specs.declared.tick.Tick.{Tick}
use Rattle.time.specs.declared.duration.Duration.{Duration}
use Rattle.time.specs.declared.duration.TtlTicks.{TtlTicks}
use Rattle.time.specs.declared.refusal.Refusal.{Refusal}
use Rattle.time.specs.Duration.{is_zero, is_duration, millis_of}
use Rattle.time.specs.Deadline.{deadline_from, remaining_at}
use Rattle.lazy_heap_model.specs.declared.counted.Counted.{Counted}
use Rattle.fast_lru.specs.declared.lru.FastLru.{FastLru}
use Rattle.fast_lru_model.specs.Model.{Item, to_front, popped, last, oldest_of}
use Rattle.fast_lru_model.specs.Model as list
use Rattle.fast_lru.specs.Calls as lru
use Rattle.expiration_index.specs.declared.index.ExpirationIndex.{ExpirationIndex}
use Rattle.expiration_index.specs.Model.{Pair, next, next_due, pair_in, deadline_in, deadline_of}
use Rattle.expiration_index.specs.Model as pairs
use Rattle.expiration_index.specs.Index as index
use Rattle.expiration_index.specs.Calls as calls
use Rattle.expiring_model.specs.declared.answers.Answer.{Answer}
use Rattle.expiring_model.specs.declared.answers.Answer.TheVariants as answers
use Rattle.expiring.specs.declared.answers.Reply.{Reply}
use Rattle.expiring.specs.declared.expiring.Expiring.{Expiring}
use Rattle.expiring_model.specs.Model.{Call, contains, peek, get, insert, remove, clear, insert_with_ttl, ttl_status, set_ttl, live_len, expirations, next_deadline, touch, recency_rank, pop_lru, peek_lru, keep, set, drop, drop_all, is_expired, change_of, stored_after, expired_by, answered, bad_nanos, value_unless_expired, item_in, due_in, rank_in, tell, status_in, lives_at}
use Rattle.expiring.specs.Book.{Room, capacity_of, limit_of, IsBook, model_of}
use Rattle.expiring.specs.Calls.{Following}
use Rattle.expiring_answers.specs.Answers.{of_found, of_told, of_oldest, of_rank, of_due, status_of}
use Rattle.expiring.specs.Steps.{with_list, with_index, with_expired, replying, stored_of, deadlines_of, DeadlineOf, Expired, Stored, StoredCount, ExpiredCount, Moved, same, Dating, Inserting, Removing}
use Rattle.expiring.proofs.Limits.{same_value}
use Rattle.expiring.proofs.Moving.{moved_then, moved_same, moved_look, lent, back, lent_is, lent_index}
use Rattle.expiring.proofs.Acting.{Accepted, no_refusal, follow, acting, acting_expired, acting_full}
use Rattle.expiring.proofs.Valuing.{found_accepted, value_of_lem, moved_values}
use Rattle.expiring.proofs.Calling.{nothing_accepted}

-- ---- answers that are no refusals
pub tell_accepted : (x : Bool) → Accepted (tell x)
tell_accepted true = no_refusal answers.Yes refl
tell_accepted false = no_refusal answers.No refl

pub count_accepted : (n : ℕ) → Accepted (answers.Count n)
count_accepted n = no_refusal (answers.Count n) refl

done_accepted : Accepted answers.Done
done_accepted = no_refusal answers.Done refl

missing_accepted : Accepted answers.Missing
missing_accepted = no_refusal answers.Missing refl

told_accepted : (x : Result Bool Refusal) → Accepted (of_told x)
told_accepted (Ok true) = no_refusal answers.Yes refl
told_accepted (Ok false) = no_refusal answers.No refl
told_accepted (Err why) = no_refusal answers.No refl

rank_accepted : (x : Result (Option ℕ) Refusal) → Accepted (of_rank x)
rank_accepted (Ok (Some n)) = no_refusal (answers.Rank n) refl
rank_accepted (Ok None) = no_refusal answers.Nothing refl
rank_accepted (Err why) = no_refusal answers.Nothing refl

oldest_accepted : (x : Result (Option (ℕ × ℕ)) Refusal) → Accepted (of_oldest x)
oldest_accepted (Ok (Some (k, v))) = no_refusal (answers.Item k v) refl
oldest_accepted (Ok None) = no_refusal answers.Nothing refl
oldest_accepted (Err why) = no_refusal answers.Nothing refl

due_accepted : (x : Result (Option (ℕ × Tick)) Refusal) → Accepted (of_due x)
due_accepted (Ok (Some (k, d))) = no_refusal (answers.Due k d) refl
due_accepted (Ok None) = no_refusal answers.Nothing refl
due_accepted (Err why) = no_refusal answers.Nothing refl

lives_accepted : (d : Tick) (x : Option TtlTicks) → Accepted (lives_at d x)
lives_accepted d None = no_refusal answers.Expired refl
lives_accepted d (Some l) = no_refusal (answers.Live l d) refl

status_accepted : (x : Result (Option Tick) Refusal) (t : Tick) → Accepted (status_of x t)
status_accepted (Ok (Some d)) t = lives_accepted d (remaining_at d t)
status_accepted (Ok None) t = no_refusal answers.Immortal refl
status_accepted (Err why) t = no_refusal answers.Immortal refl

-- ---- the answers of the layers below
and_true : (x : Bool) → (x && true) ≡ x
and_true true = refl
and_true false = refl

and-false : (x : Bool) → (x && false) ≡ false
and-false true = refl
and-false false = refl

told_in : (x : Bool) → of_told (Ok x) ≡ tell x
told_in true = refl
told_in false = refl

rank_in_lem : (x : Option ℕ) → of_rank (Ok x) ≡ rank_in x
rank_in_lem None = refl
rank_in_lem (Some n) = refl

oldest_in : (x : Option Item) → of_oldest (Ok (list.item_in x)) ≡ item_in x
oldest_in None = refl
oldest_in (Some i) = refl

due_in_lem : (x : Option Pair) → of_due (Ok (pair_in x)) ≡ due_in x
due_in_lem None = refl
due_in_lem (Some p) = refl

status_in_lem : (x : Option Pair) (t : Tick) → status_of (Ok (deadline_in x)) t ≡ status_in t x
status_in_lem None t = refl
status_in_lem (Some p) t = refl

-- ---- calls that are not turned back by a cause
module _ (ws : List ℕ) (b : Expiring) (t : Tick) (limits : book_limits (capacity_of b) (limit_of b) (length ws) ≡ Ok tt) (word : b.expirations < 2 ^ 64) where
  -- one that changes nothing
  module _ (c : Call) (nanos : bad_nanos c ≡ false) (change : (x y : ℕ) → change_of t c (model_of ws b x y) ≡ keep) (stored : (x y : ℕ) → stored_after t c (model_of ws b x y) ≡ stored_of ws b) (expired : (x y : ℕ) → expired_by t c (model_of ws b x y) ≡ 0) where
    follow_same : {u : Answer} → Accepted u → (IsBook ws b → (x y : ℕ) → answered t c (model_of ws b x y) ≡ u) → Following ws b t c ws (replying b u)
    follow_same v answer = follow ws b t c limits nanos (acting (moved_same ws b) (λ o. refl) word v (λ o. refl) (λ o. refl) (λ o. refl)) (λ o. change) (λ o. stored) (λ o. expired) answer

  pub follow_contains : {k : ℕ} {e : Bool} → Expired ws b t k e → e ≡ true → Following ws b t (contains k) ws (replying b answers.No)
  unfolding change_of stored_after expired_by answered bad_nanos model_of is_expired
  follow_contains {k} x y = follow_same (contains k) refl (λ m n. refl) (λ m n. refl) (λ m n. refl) (tell_accepted false) (λ o m n. rw (sym (x.answer o), y) (ap tell (and-false (list.has k (stored_of ws b)))))

  pub follow_contained : {k : ℕ} {e : Bool} {r : Result Bool Refusal} {u : Answer} → Expired ws b t k e → e ≡ false → lru.Containing ws b.inner k r → u ≡ of_told r → Following ws b t (contains k) ws (replying b u)
  unfolding change_of stored_after expired_by answered bad_nanos model_of is_expired
  follow_contained {k} {e} {r} x y a u =
      rw u (follow_same (contains k) refl (λ m n. refl) (λ m n. refl) (λ m n. refl) (told_accepted r) (λ o m n. rw (sym (x.answer o), y) (ap tell (and_true (list.has k (stored_of ws b))) ∙ sym (ap of_told (a.answer o.list) ∙ told_in (list.has k (stored_of ws b))))))

  pub follow_peek : {k : ℕ} {e : Bool} → Expired ws b t k e → e ≡ true → Following ws b t (peek k) ws (replying b answers.Nothing)
  unfolding change_of stored_after expired_by answered bad_nanos model_of is_expired value_unless_expired
  follow_peek {k} x y = follow_same (peek k) refl (λ m n. refl) (λ m n. refl) (λ m n. refl) nothing_accepted (λ o m n. rw (sym (x.answer o), y))

  pub follow_peeked : {k : ℕ} {e : Bool} {r : Result (Option ℕ) Refusal} {u : Answer} → Expired ws b t k e → e ≡ false → lru.Peeking ws b.inner k r → u ≡ of_found r → Following ws b t (peek k) ws (replying b u)
  unfolding change_of stored_after expired_by answered bad_nanos model_of is_expired value_unless_expired
  follow_peeked {k} {e} {r} x y a u =
      rw u (follow_same (peek k) refl (λ m n. refl) (λ m n. refl) (λ m n. refl) (found_accepted r) (λ o m n. rw (sym (x.answer o), y) (sym (ap of_found (a.answer o.list) ∙ value_of_lem k (stored_of ws b)))))

  -- ---- `get`
  pub follow_get_expired : {k : ℕ} {e : Bool} {ws' : List ℕ} {b' : Expiring} → Expired ws b t k e → e ≡ true → Moved ws b (drop k) (list.without k) ws' b' 0 → Following ws b t (get k) ws' (replying (with_expired b' 1) answers.Nothing)
  unfolding change_of stored_after expired_by answered bad_nanos model_of is_expired value_unless_expired
  follow_get_expired {k} x y d =
      follow ws b t (get k) limits refl (acting_expired d (λ o. refl) 1 nothing_accepted (λ o. refl) (λ o. refl) (λ o. refl))
      (λ o m n. rw (sym (x.answer o), y)) (λ o m n. rw (sym (x.answer o), y)) (λ o m n. rw (sym (x.answer o), y)) (λ o m n. rw (sym (x.answer o), y))

  pub follow_got : {k : ℕ} {e : Bool} {ws' : List ℕ} {b' : Expiring} {r : Option ℕ} {u : Answer} → Expired ws b t k e → e ≡ false → Moved ws b keep (to_front k) ws' b' 0 → (IsBook ws b → r ≡ list.value_of k (stored_of ws b)) → u ≡ of_found (Ok r) → Following ws b t (get k) ws' (replying b' u)
  unfolding change_of stored_after expired_by answered bad_nanos model_of is_expired value_unless_expired
  follow_got {k} {r = r} x y m a u =
      rw u (follow ws b t (get k) limits refl (acting m (λ o. refl) word (found_accepted (Ok r)) (λ o. refl) (λ o. refl) (λ o. refl))
      (λ o m n. rw (sym (x.answer o), y)) (λ o m n. rw (sym (x.answer o), y)) (λ o m n. rw (sym (x.answer o), y)) (λ o m n. rw (sym (x.answer o), y) (sym (ap (λ (v : Option ℕ). of_found (Ok v)) (a o) ∙ value_of_lem k (stored_of ws b)))))

  -- ---- `remove` and `insert`
  pub follow_remove : {k : ℕ} {ws' : List ℕ} {r : Reply} → Removing ws b t k ws' r → Following ws b t (remove k) ws' r
  unfolding change_of stored_after expired_by answered bad_nanos model_of is_expired value_unless_expired
  follow_remove {k} a = follow ws b t (remove k) limits refl a (λ o m n. refl) (λ o m n. refl) (λ o m n. refl) (λ o m n. refl)

  pub follow_insert_default : {k v : ℕ} {l : TtlTicks} {d : Tick} {ws' : List ℕ} {r : Reply} → b.default_ttl ≡ Some l → d ≡ deadline_from t l → Inserting ws b t k v (set k d) ws' r → Following ws b t (insert k v) ws' r
  unfolding change_of stored_after expired_by answered bad_nanos model_of is_expired value_unless_expired
  follow_insert_default {k} {v} e f a = follow ws b t (insert k v) limits refl a (λ o m n. rw (e, f)) (λ o m n. refl) (λ o m n. refl) (λ o m n. refl)

  pub follow_insert : {k v : ℕ} {ws' : List ℕ} {r : Reply} → b.default_ttl ≡ None → Inserting ws b t k v (drop k) ws' r → Following ws b t (insert k v) ws' r
  unfolding change_of stored_after expired_by answered bad_nanos model_of is_expired value_unless_expired
  follow_insert {k} {v} e a = follow ws b t (insert k v) limits refl a (λ o m n. rw e) (λ o m n. refl) (λ o m n. refl) (λ o m n. refl)

  pub follow_timed_zero : {k v : ℕ} {d : Duration} {ws' : List ℕ} {r : Reply} → is_duration d ≡ true → is_zero d ≡ true → Removing ws b t k ws' r → Following ws b t (insert_with_ttl k v d) ws' r
  unfolding change_of stored_after expired_by answered bad_nanos model_of is_expired value_unless_expired
  follow_timed_zero {k} {v} {d} i z a = follow ws b t (insert_with_ttl k v d) limits (rw i) a (λ o m n. rw z) (λ o m n. rw z) (λ o m n. refl) (λ o m n. refl)

  pub follow_timed : {k v : ℕ} {d : Duration} {l : TtlTicks} {x : Tick} {ws' : List ℕ} {r : Reply} → is_duration d ≡ true → is_zero d ≡ false → l ≡ record { 0 = millis_of d } → x ≡ deadline_from t l → Inserting ws b t k v (set k x) ws' r → Following ws b t (insert_with_ttl k v d) ws' r
  unfolding change_of stored_after expired_by answered bad_nanos model_of is_expired value_unless_expired
  follow_timed {k} {v} {d} i z e f a = follow ws b t (insert_with_ttl k v d) limits (rw i) a (λ o m n. rw (z, f, e)) (λ o m n. rw z) (λ o m n. refl) (λ o m n. refl)

  -- ---- `clear`
  pub follow_clear : {ws₁ ws₂ : List ℕ} {l : FastLru} {r : Result ⊤ Refusal} {b₂ : Expiring} {n : ℕ} → lru.Clearing ws b.inner ws₁ l r → Moved ws₁ (with_list b l) drop_all same ws₂ b₂ n → Following ws b t clear ws₂ (record { book = b₂; answer = answers.Done; discarded = n })
  unfolding change_of stored_after expired_by answered bad_nanos model_of
  follow_clear a m =
      follow ws b t clear limits refl
      (acting (moved_then (moved_values {b = b} a) m) (λ o. refl) word done_accepted (λ o. refl) (λ o. refl) (λ o. refl))
      (λ o x y. refl) (λ o x y. refl) (λ o x y. refl) (λ o x y. refl)

  -- ---- `ttl_status`
  pub follow_status_missing : {k : ℕ} {s : Bool} → Stored ws b k s → s ≡ false → Following ws b t (ttl_status k) ws (replying b answers.Missing)
  unfolding change_of stored_after expired_by answered bad_nanos model_of
  follow_status_missing {k} s y = follow_same (ttl_status k) refl (λ m n. refl) (λ m n. refl) (λ m n. refl) missing_accepted (λ o m n. rw (sym (s.answer o), y))

  pub follow_status : {k : ℕ} {s : Bool} {d : Option Tick} {u : Answer} → Stored ws b k s → s ≡ true → DeadlineOf ws b k d → u ≡ status_of (Ok d) t → Following ws b t (ttl_status k) ws (replying b u)
  unfolding change_of stored_after expired_by answered bad_nanos model_of deadline_of
  follow_status {k} {s} {d} s₁ y a u =
      rw u (follow_same (ttl_status k) refl (λ m n. refl) (λ m n. refl) (λ m n. refl) (status_accepted (Ok d) t) (λ o m n. rw (sym (s₁.answer o), y) (sym (ap (λ (x : Option Tick). status_of (Ok x) t) (a.answer o) ∙ status_in_lem (pairs.lookup k (deadlines_of ws b)) t))))

  -- ---- `live_len` and `expirations`
  pub follow_live : {s e : ℕ} {u : Answer} → StoredCount ws b s → ExpiredCount ws b t e → u ≡ answers.Count (s - e) → Following ws b t live_len ws (replying b u)
  unfolding change_of stored_after expired_by answered bad_nanos model_of
  follow_live {s} {e} a x u = rw u (follow_same live_len refl (λ m n. refl) (λ m n. refl) (λ m n. refl) (count_accepted (s - e)) (λ o m n. rw (sym (a.answer o), sym (x.answer o))))

  pub follow_expirations : Following ws b t expirations ws (replying b (answers.Count b.expirations))
  unfolding change_of stored_after expired_by answered bad_nanos model_of
  follow_expirations = follow_same expirations refl (λ m n. refl) (λ m n. refl) (λ m n. refl) (count_accepted b.expirations) (λ o m n. refl)

  -- ---- `next_deadline`
  pub follow_next : (room : Room (length ws) (capacity_of b) (limit_of b)) {ys : List ℕ} {x : ExpirationIndex} {r : Result (Counted (Option (ℕ × Tick))) Refusal} {y : Counted (Option (ℕ × Tick))} {u : Answer} → calls.NextDeadline (lent ws b) b.index ys x r → r ≡ Ok y → u ≡ of_due (Ok y.answer) → Following ws b t next_deadline (back ws b ys) (record { book = with_index b x; answer = u; discarded = y.discarded })
  unfolding change_of stored_after expired_by answered bad_nanos model_of next_due
  follow_next room {y = y} a e u =
      rw u (follow ws b t next_deadline limits refl (acting (moved_look ws b room a e) (λ o. refl) word (due_accepted (Ok y.answer)) (λ o. refl) (λ o. refl) (λ o. refl))
      (λ o m n. refl) (λ o m n. refl) (λ o m n. refl) (λ o m n. sym (ap (λ (c : Counted (Option (ℕ × Tick))). of_due (Ok c.answer)) (same_value (sym e ∙ a.answer (lent_index ws b room o))) ∙ due_in_lem (next (index.model_of (lent ws b) b.index)) ∙ ap (λ (l : List ℕ). due_in (next (index.model_of l b.index))) (lent_is ws b room))))

  -- ---- the list's own
  pub follow_touch : {k : ℕ} {ws' : List ℕ} {l : FastLru} {r : Result Bool Refusal} {u : Answer} → lru.Touching ws b.inner k ws' l r → u ≡ of_told r → Following ws b t (touch k) ws' (replying (with_list b l) u)
  unfolding change_of stored_after expired_by answered bad_nanos model_of
  follow_touch {k} {r = r} a u =
      rw u (follow ws b t (touch k) limits refl (acting (moved_values {b = b} a) (λ o. refl) word (told_accepted r) (λ o. refl) (λ o. refl) (λ o. refl))
      (λ o m n. refl) (λ o m n. refl) (λ o m n. refl) (λ o m n. sym (ap of_told (a.answer o.list) ∙ told_in (list.has k (stored_of ws b)))))

  pub follow_rank : {k : ℕ} {r : Result (Option ℕ) Refusal} {u : Answer} → lru.Ranking ws b.inner k r → u ≡ of_rank r → Following ws b t (recency_rank k) ws (replying b u)
  unfolding change_of stored_after expired_by answered bad_nanos model_of
  follow_rank {k} {r} a u = rw u (follow_same (recency_rank k) refl (λ m n. refl) (λ m n. refl) (λ m n. refl) (rank_accepted r) (λ o m n. sym (ap of_rank (a.answer o.list) ∙ rank_in_lem (list.rank_of k (stored_of ws b)))))

  pub follow_pop : {ws' : List ℕ} {l : FastLru} {r : Result (Option (ℕ × ℕ)) Refusal} {u : Answer} → lru.Popping ws b.inner ws' l r → u ≡ of_oldest r → Following ws b t pop_lru ws' (replying (with_list b l) u)
  unfolding change_of stored_after expired_by answered bad_nanos model_of oldest_of
  follow_pop {r = r} a u =
      rw u (follow ws b t pop_lru limits refl (acting (moved_values {b = b} a) (λ o. refl) word (oldest_accepted r) (λ o. refl) (λ o. refl) (λ o. refl))
      (λ o m n. refl) (λ o m n. refl) (λ o m n. refl) (λ o m n. sym (ap of_oldest (a.answer o.list) ∙ oldest_in (last (stored_of ws b)))))

  pub follow_oldest : {r : Result (Option (ℕ × ℕ)) Refusal} {u : Answer} → lru.PeekingOldest ws b.inner r → u ≡ of_oldest r → Following ws b t peek_lru ws (replying b u)
  unfolding change_of stored_after expired_by answered bad_nanos model_of oldest_of
  follow_oldest {r} a u = rw u (follow_same peek_lru refl (λ m n. refl) (λ m n. refl) (λ m n. refl) (oldest_accepted r) (λ o m n. sym (ap of_oldest (a.answer o.list) ∙ oldest_in (last (stored_of ws b)))))

  -- ---- `set_ttl`
  module _ (k : ℕ) (d : Duration) (i : is_duration d ≡ true) {s : Bool} (held : Stored ws b k s) where
    pub follow_ttl_missing : s ≡ false → Following ws b t (set_ttl k d) ws (replying b answers.No)
    unfolding change_of stored_after expired_by answered bad_nanos model_of is_expired
    follow_ttl_missing y =
        follow ws b t (set_ttl k d) limits (rw i) (acting (moved_same ws b) (λ o. refl) word (tell_accepted false) (λ o. refl) (λ o. refl) (λ o. refl))
        (λ o m n. rw (sym (held.answer o), y)) (λ o m n. rw (sym (held.answer o), y)) (λ o m n. rw (sym (held.answer o), y)) (λ o m n. rw (sym (held.answer o), y))

    module _ (y : s ≡ true) {e : Bool} (x : Expired ws b t k e) where
      pub follow_ttl_expired : {ws' : List ℕ} {b' : Expiring} → e ≡ true → Moved ws b (drop k) (list.without k) ws' b' 0 → Following ws b t (set_ttl k d) ws' (replying (with_expired b' 1) answers.No)
      unfolding change_of stored_after expired_by answered bad_nanos model_of is_expired
      follow_ttl_expired z v =
          follow ws b t (set_ttl k d) limits (rw i) (acting_expired v (λ o. refl) 1 (tell_accepted false) (λ o. refl) (λ o. refl) (λ o. refl))
          (λ o m n. rw (sym (held.answer o), y, sym (x.answer o), z)) (λ o m n. rw (sym (held.answer o), y, sym (x.answer o), z)) (λ o m n. rw (sym (held.answer o), y, sym (x.answer o), z)) (λ o m n. rw (sym (held.answer o), y, sym (x.answer o), z))

      module _ (z : e ≡ false) where
        pub follow_ttl_zero : {ws' : List ℕ} {b' : Expiring} → millis_of d ≡ 0 → Moved ws b (drop k) (list.without k) ws' b' 0 → Following ws b t (set_ttl k d) ws' (replying b' answers.No)
        unfolding change_of stored_after expired_by answered bad_nanos model_of is_expired
        follow_ttl_zero q v =
            follow ws b t (set_ttl k d) limits (rw i) (acting v (λ o. refl) word (tell_accepted false) (λ o. refl) (λ o. refl) (λ o. refl))
            (λ o m n. rw (sym (held.answer o), y, sym (x.answer o), z, eq-eqb (millis_of d) 0 q)) (λ o m n. rw (sym (held.answer o), y, sym (x.answer o), z, eq-eqb (millis_of d) 0 q)) (λ o m n. rw (sym (held.answer o), y, sym (x.answer o), z)) (λ o m n. rw (sym (held.answer o), y, sym (x.answer o), z, eq-eqb (millis_of d) 0 q))

        module _ (q : millis_of d ≡ 0 → ⊥) {l : TtlTicks} (f : millis_of d ≡ l.0) {ws' : List ℕ} {b' : Expiring} {r : Result (Counted (Option Tick)) Refusal} (a : Dating ws b k (deadline_from t l) ws' b' r) where
          change : IsBook ws b → (m n : ℕ) → change_of t (set_ttl k d) (model_of ws b m n) ≡ set k (deadline_from t l)
          unfolding change_of model_of is_expired
          change o m n = rw (sym (held.answer o), y, sym (x.answer o), z, ne_eqb (millis_of d) 0 q, f)

          pub follow_ttl_full : {why : Refusal} → r ≡ Err why → Following ws b t (set_ttl k d) ws' (replying b' (answers.Refused why))
          unfolding stored_after expired_by answered bad_nanos model_of is_expired
          follow_ttl_full {why} u =
              follow ws b t (set_ttl k d) limits (rw i) (acting_full ws b {s = stored_of ws b} {n = 0} {a = answers.Yes} (a.only why u) (a.refused why u) (a.full why u)) change
              (λ o m n. rw (sym (held.answer o), y, sym (x.answer o), z, ne_eqb (millis_of d) 0 q)) (λ o m n. rw (sym (held.answer o), y, sym (x.answer o), z)) (λ o m n. rw (sym (held.answer o), y, sym (x.answer o), z, ne_eqb (millis_of d) 0 q))

          pub follow_ttl_set : {e : Counted (Option Tick)} → r ≡ Ok e → Following ws b t (set_ttl k d) ws' (record { book = b'; answer = answers.Yes; discarded = e.discarded })
          unfolding stored_after expired_by answered bad_nanos model_of is_expired
          follow_ttl_set {e} u =
              follow ws b t (set_ttl k d) limits (rw i) (acting (a.moved e u) (a.free e u) word (tell_accepted true) (λ o. refl) (λ o. refl) (λ o. refl)) change
              (λ o m n. rw (sym (held.answer o), y, sym (x.answer o), z, ne_eqb (millis_of d) 0 q)) (λ o m n. rw (sym (held.answer o), y, sym (x.answer o), z)) (λ o m n. rw (sym (held.answer o), y, sym (x.answer o), z, ne_eqb (millis_of d) 0 q))
