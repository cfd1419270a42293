use Rattle.std.proofs.Common.{arith}
use Rattle.replay.specs.Runs.{none}
use Rattle.replay_fast_lru.proofs.layer.ListLayer.run.Goals as goal

pub loop-i-init : goal.loop-i-init
loop-i-init c = (omega arith, none)
