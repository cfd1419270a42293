-- Taking one expired deadline after the other: each is held and expired, and when there is no next one all are gone.
use mathlib.Core.Path.{◌≡◌, refl, sym, ap, ◌∙◌}
use mathlib.Core.Bool.{Bool, true, false, true≢false, cond, ◌||◌, or-true}
use mathlib.Core.Logic.{⊎_elim}
use mathlib.Core.List.{[], ◌∷◌, Memᴰ}
use mathlib.Core.List.Memᴰ.{cases_cons}
use mathlib.Core.List.Memᴰ.{head}
use mathlib.Core.List.Memᴰ.{not-nil}
use mathlib.Core.List.Memᴰ.{tail}
use Prim.Native.Nat.{ℕ, ◌+◌, ◌<◌}
use native.Mathlib.Omega.{arith}
use lib.Dec.{eqb, ltb}
use borrow.Author.Tests.{eq-eqb, ne_eqb, lt-leb, leb-false, ltb-true, ltb-false}
use Rattle.std.specs.Prelude.{Option, Some, None}
use Rattle.time.specs.declared.tick.Tick.{Tick}
use Rattle.time.specs.Deadline.{is_expired_at}
use Rattle.expiration_index.specs.Model.{Pair, Pairs, has, without, sooner, soonest, next, if_expired, next_expired, without_expired, expired_count, unexpired, Distinct}

-- ---- the next due is one of the pairs, and none is due before it
soonest_mem : (p : Pair) (l : Pairs) → Memᴰ (soonest p l) (p ∷ l)
soonest_mem p [] = head refl
soonest_mem p (q ∷ l) = go (ltb q.deadline.0 p.deadline.0) (soonest_mem p l) (soonest_mem q l)
  where
    go : (b : Bool) → Memᴰ (soonest p l) (p ∷ l) → Memᴰ (soonest q l) (q ∷ l) → Memᴰ (soonest (cond b q p) l) (p ∷ (q ∷ l))
    go true m n = tail n
    go false m n = ⊎_elim (λ e. head e) (λ i. tail (tail i)) (cases_cons m)

next_mem : (l : Pairs) (p : Pair) → next l ≡ Some p → Memᴰ p l
unfolding next
next_mem [] p e = absurd (let z : ◌≡◌ {A = ℕ} 0 1 = cc in omega arith)
next_mem (q ∷ l) p e = let same : soonest q l ≡ p = cc in rw (sym same) (soonest_mem q l)

module _ (t : Tick) where
  live_later : (p : Pair) → t.0 < p.deadline.0 → is_expired_at p.deadline t ≡ false
  unfolding is_expired_at
  live_later p h = lt-leb p.deadline.0 t.0 h

  later_live : (p : Pair) → is_expired_at p.deadline t ≡ false → t.0 < p.deadline.0
  unfolding is_expired_at
  later_live p e = leb-false p.deadline.0 t.0 e

  soonest_later : (p : Pair) (l : Pairs) → t.0 < (soonest p l).deadline.0 → (t.0 < p.deadline.0) × (expired_count t l ≡ 0)
  unfolding expired_count
  soonest_later p [] h = (h, refl)
  soonest_later p (q ∷ l) h = go (ltb q.deadline.0 p.deadline.0) refl (soonest_later (sooner p q) l h)
    where
      go : (b : Bool) → ltb q.deadline.0 p.deadline.0 ≡ b → (t.0 < (cond b q p).deadline.0) × (expired_count t l ≡ 0) → (t.0 < p.deadline.0) × (cond (is_expired_at q.deadline t) 1 0 + expired_count t l ≡ 0)
      go true e o = (omega (arith, ltb-true q.deadline.0 p.deadline.0 e, o.0), rw (live_later q o.0) (omega (arith, o.1)))
      go false e o = (o.0, rw (live_later q (omega (arith, ltb-false q.deadline.0 p.deadline.0 e, o.0))) (omega (arith, o.1)))

  -- with no expired one next, none is expired
  pub none_expired : (l : Pairs) → next_expired t l ≡ None → expired_count t l ≡ 0
  unfolding next_expired next expired_count
  none_expired [] e = refl
  none_expired (p ∷ l) e = go (is_expired_at (soonest p l).deadline t) refl e
    where
      go : (b : Bool) → is_expired_at (soonest p l).deadline t ≡ b → cond b (Some (soonest p l)) None ≡ None → expired_count t (p ∷ l) ≡ 0
      go true q w = absurd (let z : ◌≡◌ {A = ℕ} 0 1 = cc in omega arith)
      go false q w = let o = soonest_later p l (later_live (soonest p l) q) in rw (live_later p o.0) (omega (arith, o.1))

  pub unexpired_all : (l : Pairs) → expired_count t l ≡ 0 → unexpired t l ≡ l
  unfolding unexpired expired_count
  unexpired_all [] e = refl
  unexpired_all (p ∷ l) e = go (is_expired_at p.deadline t) e (unexpired_all l)
    where
      go : (b : Bool) → cond b 1 0 + expired_count t l ≡ 0 → (expired_count t l ≡ 0 → unexpired t l ≡ l) → cond b (unexpired t l) (p ∷ unexpired t l) ≡ p ∷ l
      go true q ih = absurd (omega arith)
      go false q ih = ap (λ (m : Pairs). p ∷ m) (ih (omega arith))

-- ---- a pair taken out
mem_has : (l : Pairs) (p : Pair) → Memᴰ p l → has p.key l ≡ true
unfolding has
mem_has [] p m = absurd (not-nil m)
mem_has (x ∷ l) p m = ⊎_elim here (λ i. rw (mem_has l p i) (or-true (eqb x.key p.key))) (cases_cons m)
  where
    here : p ≡ x → has p.key (x ∷ l) ≡ true
    here e = rw (eq-eqb x.key p.key (ap (λ (q : Pair). q.key) (sym e)))

pub without_missing : (k : ℕ) (l : Pairs) → has k l ≡ false → without k l ≡ l
unfolding has without
without_missing k [] h = refl
without_missing k (x ∷ l) h = go (eqb x.key k) h (without_missing k l)
  where
    go : (b : Bool) → (b || has k l) ≡ false → (has k l ≡ false → without k l ≡ l) → cond b (without k l) (x ∷ without k l) ≡ x ∷ l
    go true q ih = absurd (true≢false q)
    go false q ih = ap (λ (m : Pairs). x ∷ m) (ih q)

-- an expired pair of a list, and the list without it
record Out (t : Tick) (l : Pairs) (p : Pair) : Type 0 where
  pub count : expired_count t (without p.key l) + 1 ≡ expired_count t l
  pub rest : unexpired t (without p.key l) ≡ unexpired t l

taken_out : (t : Tick) (l : Pairs) (p : Pair) → Distinct l → Memᴰ p l → is_expired_at p.deadline t ≡ true → Out t l p
unfolding without expired_count unexpired
taken_out t [] p d m e = absurd (not-nil m)
taken_out t (x ∷ l) p d m e = ⊎_elim here (λ i. there i (taken_out t l p d.1 i e)) (cases_cons m)
  where
    here : p ≡ x → Out t (x ∷ l) p
    here s =
        let k : x.key ≡ p.key = ap (λ (q : Pair). q.key) (sym s) in
        let w : without p.key l ≡ l = without_missing p.key l (ap (λ (j : ℕ). has j l) (sym k) ∙ d.0) in
        let f : is_expired_at x.deadline t ≡ true = ap (λ (q : Pair). is_expired_at q.deadline t) (sym s) ∙ e in
        record { count = rw (eq-eqb x.key p.key k, f, w) (omega arith); rest = rw (eq-eqb x.key p.key k, f, w) }

    there : Memᴰ p l → Out t l p → Out t (x ∷ l) p
    there i o =
        let other = ne_eqb x.key p.key (λ k. true≢false (sym (mem_has l p i) ∙ ap (λ (j : ℕ). has j l) (sym k) ∙ d.0)) in
        record { count = rw other (omega (arith, o.count)); rest = rw (other, o.rest) }

module _ (t : Tick) (l : Pairs) (p : Pair) (e : next_expired t l ≡ Some p) where
  -- what is taken is held and expired
  taken_next : (next l ≡ Some p) × (is_expired_at p.deadline t ≡ true)
  unfolding next_expired
  taken_next = go (next l) refl e
    where
      by : (q : Pair) → next l ≡ Some q → (b : Bool) → is_expired_at q.deadline t ≡ b → cond b (Some q) None ≡ Some p → (next l ≡ Some p) × (is_expired_at p.deadline t ≡ true)
      by q n true f w = let s : q ≡ p = cc in (n ∙ ap Some s, ap (λ (x : Pair). is_expired_at x.deadline t) (sym s) ∙ f)
      by q n false f w = absurd (let z : ◌≡◌ {A = ℕ} 0 1 = cc in omega arith)

      go : (o : Option Pair) → next l ≡ o → if_expired t o ≡ Some p → (next l ≡ Some p) × (is_expired_at p.deadline t ≡ true)
      go None n w = absurd (let z : ◌≡◌ {A = ℕ} 0 1 = cc in omega arith)
      go (Some q) n w = by q n (is_expired_at q.deadline t) refl w

  pub taken_held : has p.key l ≡ true
  taken_held = mem_has l p (next_mem l p taken_next.0)

  pub taken_expired : is_expired_at p.deadline t ≡ true
  taken_expired = taken_next.1

  module _ (d : Distinct l) where
    less_out : Out t l p
    less_out = taken_out t l p d (next_mem l p taken_next.0) taken_next.1

    -- one less is expired then, and the others are as they were
    pub taken_count : expired_count t (without_expired t l) + 1 ≡ expired_count t l
    unfolding without_expired
    taken_count = rw e less_out.count

    pub taken_unexpired : unexpired t (without_expired t l) ≡ unexpired t l
    unfolding without_expired
    taken_unexpired = rw e less_out.rest
