-- What stands in the words, as the layers below tell it.
use mathlib.Core.Path.{◌≡◌, sym, ◌∙◌}
use mathlib.Core.Bool.{Bool}
use mathlib.Core.List.{List}
use Prim.Native.Nat.{ℕ}
use lib.ListN.{length}
use Rattle.std.specs.Prelude.{Option, Some, None, Result, Ok, Err}
use Rattle.limits.specs.Limits.{book_limits}
use Rattle.time.specs.declared.tick.Tick.{Tick}
use Rattle.time.specs.declared.refusal.Refusal.{Refusal}
use Rattle.expiration_index.specs.Model.{Pair, deadline_in, deadline_of}
use Rattle.expiration_index.specs.Model as pairs
use Rattle.expiration_index.specs.Calls as calls
use Rattle.expiring.specs.declared.expiring.Expiring.{Expiring}
use Rattle.expiring_model.specs.Model.{has_come}
use Rattle.expiring.specs.Book.{Room, capacity_of, limit_of, rest, model_of}
use Rattle.expiring.specs.Calls.{Counting, DeadlinesHeld, HeapLength}
use Rattle.expiring_answers.specs.Answers.{come_by}
use Rattle.expiring.specs.Steps.{deadlines_of, DeadlineOf, Expired, ExpiredCount}
use Rattle.expiring.proofs.Limits.{same_value, room_limits, no_book_lem}
use Rattle.expiring.proofs.Moving.{rest_limits}

-- ---- deadlines
module _ {ws : List ℕ} {b : Expiring} where
  pub asking_deadline : {k : ℕ} {r : Result (Option Tick) Refusal} {d : Option Tick} → calls.DeadlineOf (rest ws b) b.index k r → r ≡ Ok d → DeadlineOf ws b k d
  asking_deadline a e = record { answer = λ o. same_value (sym e ∙ a.answer o.index) }

  pub asking_expired : {t : Tick} {r : Result ℕ Refusal} {n : ℕ} → calls.ExpiredCount (rest ws b) b.index t r → r ≡ Ok n → ExpiredCount ws b t n
  asking_expired a e = record { answer = λ o. same_value (sym e ∙ a.answer o.index) }

  counted : Room (length ws) (capacity_of b) (limit_of b) → {n : ℕ} {r : Result ℕ Refusal} → calls.Asking (rest ws b) b.index n r → Counting ws b n r
  counted room a = record { outcome = a.outcome ∙ rest_limits ws b room ∙ sym (room_limits room); answer = λ o. a.answer o.index }

  pub counted_held : Room (length ws) (capacity_of b) (limit_of b) → {r : Result ℕ Refusal} → calls.Length (rest ws b) b.index r → DeadlinesHeld ws b r
  unfolding model_of
  counted_held room a = counted room a

  pub counted_entries : Room (length ws) (capacity_of b) (limit_of b) → {r : Result ℕ Refusal} → calls.HeapLength (rest ws b) b.index r → HeapLength ws b r
  counted_entries room a = counted room a

come : (t : Tick) (x : Option Pair) (d : Option Tick) → d ≡ deadline_in x → come_by (Ok d) t ≡ has_come t x
come t None d e = rw e
come t (Some p) d e = rw e

module _ {ws : List ℕ} {b : Expiring} {k : ℕ} {d : Option Tick} (t : Tick) (a : DeadlineOf ws b k d) where
  pub expired_by_lem : {r : Bool} → r ≡ come_by (Ok d) t → Expired ws b t k r
  unfolding deadline_of
  expired_by_lem e = record { answer = λ o. e ∙ come t (pairs.lookup k (deadlines_of ws b)) d (a.answer o) }

-- a refused count
pub counted_none : {ws : List ℕ} {b : Expiring} {n : ℕ} {why : Refusal} → book_limits (capacity_of b) (limit_of b) (length ws) ≡ Err why → Counting ws b n (Err why)
counted_none {ws} {b} e = record { outcome = sym e; answer = λ o. absurd (no_book_lem ws b e o) }
