-- What a call comes to whose answer is the value that a key had.
use mathlib.Core.Path.{◌≡◌, refl, sym}
use mathlib.Core.Bool.{Bool, true, false, cond}
use mathlib.Core.List.{List}
use Prim.Native.Nat.{ℕ, ◌^◌, ◌<◌}
use Rattle.std.specs.Prelude.{Option, Ok}
use Rattle.time.specs.declared.tick.Tick.{Tick}
use Rattle.fast_lru_model.specs.Model.{Items}
use Rattle.expiring_model.specs.declared.answers.Answer.TheVariants as answers
use Rattle.expiring.specs.declared.expiring.Expiring.{Expiring}
use Rattle.expiring_model.specs.Model.{Change}
use Rattle.expiring.specs.Book.{IsBook}
use Rattle.expiring_answers.specs.Answers.{of_found, come_by}
use Rattle.expiring.specs.Steps.{stored_of, DeadlineOf, Moved, beyond, expired_in, value_of, unless, Acting, concluding}
use Rattle.expiring.proofs.Asking.{expired_by_lem}
use Rattle.expiring.proofs.Valuing.{found_accepted}
use Rattle.expiring.proofs.Acting.{Accepted, no_refusal, acting_expired, acting}

pub nothing_accepted : Accepted answers.Nothing
nothing_accepted = no_refusal answers.Nothing refl

-- with what the list found of a key, and the deadline that the key had
module _ {ws ws' : List ℕ} {b b' : Expiring} {ch : Change} {f : Items → Items} {d : ℕ} (t : Tick) {k : ℕ} {old : Option Tick} (x : Option ℕ) (move : Moved ws b ch f ws' b' d) (free : IsBook ws b → beyond ch ws b ≡ false) (dated : DeadlineOf ws b k old) (value : IsBook ws b → of_found (Ok x) ≡ value_of ws b k) (word : b.expirations < 2 ^ 64) where
  pub conclude : Acting ws b ch (f (stored_of ws b)) (cond (expired_in ws b t k) 1 0) (unless (expired_in ws b t k) (value_of ws b k)) ws' (concluding b' x old t d)
  conclude = go (come_by (Ok old) t) refl
    where
      go : (e : Bool) → come_by (Ok old) t ≡ e → Acting ws b ch (f (stored_of ws b)) (cond (expired_in ws b t k) 1 0) (unless (expired_in ws b t k) (value_of ws b k)) ws' (concluding b' x old t d)
      go true e = let y = expired_by_lem t dated (sym e) in rw e (acting_expired move free 1 nothing_accepted (λ o. refl) (λ o. rw (sym (y.answer o))) (λ o. rw (sym (y.answer o))))
      go false e = let y = expired_by_lem t dated (sym e) in rw e (acting move free word (found_accepted (Ok x)) (λ o. refl) (λ o. rw (sym (y.answer o))) (λ o. rw (sym (y.answer o)) (value o)))
