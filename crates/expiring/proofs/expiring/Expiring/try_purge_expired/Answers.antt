use Rattle.expiring.proofs.Acting.{update_limits}
use Rattle.expiring.proofs.expiring.Expiring.try_purge_expired.Goals as goal

pub returns-in_err-limits : goal.returns-in_err-limits
returns-in_err-limits c = update_limits _ c.limits.ensures.told c.in_err-limits.was c.from_residual.ensures
