-- Deadlines: document 01, "time.rs" and the plain book's `ttl_status`.
use Rattle.std.specs.Prelude.{◌+◌, ◌-◌, ◌^◌, min, Bool, cond, nat_le, Option, Some, None}
use Rattle.time.specs.declared.tick.Tick.{Tick}
use Rattle.time.specs.declared.duration.TtlTicks.{TtlTicks}

-- tick + lifetime, capped at u64::MAX - 1
unfoldable pub deadline_from : Tick → TtlTicks → Tick
deadline_from t l = record { 0 = min (t.0 + l.0) (2 ^ 64 - 2) }

-- expired means deadline <= tick
unfoldable pub is_expired_at : Tick → Tick → Bool
is_expired_at deadline t = nat_le deadline.0 t.0

-- nothing once it has come, or else deadline - tick
unfoldable pub remaining_at : Tick → Tick → Option TtlTicks
remaining_at deadline t = cond (is_expired_at deadline t) None (Some (record { 0 = deadline.0 - t.0 }))
