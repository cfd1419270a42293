-- What the layers' answers are to the book. A refusal reads as if there were nothing.
use Rattle.std.specs.Prelude.{ℕ, Bool, true, false, Option, Some, None, Result, Ok, Err}
use Rattle.time.specs.declared.tick.Tick.{Tick}
use Rattle.time.specs.declared.refusal.Refusal.{Refusal}
use Rattle.time.specs.Deadline.{is_expired_at, remaining_at}
use Rattle.expiring_model.specs.declared.answers.Answer.{Answer}
use Rattle.expiring_model.specs.declared.answers.Answer.TheVariants as answer
use Rattle.expiring_model.specs.Model.{lives_at}

abbrev pub of_found : Result (Option ℕ) Refusal → Answer
of_found (Ok (Some v)) = answer.Value v
of_found (Ok None) = answer.Nothing
of_found (Err why) = answer.Nothing

abbrev pub of_told : Result Bool Refusal → Answer
of_told (Ok true) = answer.Yes
of_told (Ok false) = answer.No
of_told (Err why) = answer.No

abbrev pub of_oldest : Result (Option (ℕ × ℕ)) Refusal → Answer
of_oldest (Ok (Some (k, v))) = answer.Item k v
of_oldest (Ok None) = answer.Nothing
of_oldest (Err why) = answer.Nothing

abbrev pub of_rank : Result (Option ℕ) Refusal → Answer
of_rank (Ok (Some n)) = answer.Rank n
of_rank (Ok None) = answer.Nothing
of_rank (Err why) = answer.Nothing

abbrev pub of_due : Result (Option (ℕ × Tick)) Refusal → Answer
of_due (Ok (Some (k, d))) = answer.Due k d
of_due (Ok None) = answer.Nothing
of_due (Err why) = answer.Nothing

abbrev pub status_of : Result (Option Tick) Refusal → Tick → Answer
status_of (Ok (Some d)) t = lives_at d (remaining_at d t)
status_of (Ok None) t = answer.Immortal
status_of (Err why) t = answer.Immortal

abbrev pub come_by : Result (Option Tick) Refusal → Tick → Bool
come_by (Ok (Some d)) t = is_expired_at d t
come_by (Ok None) t = false
come_by (Err why) t = false
