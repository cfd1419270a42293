-- The run is that of the calls with room for an answer.
use mathlib.Core.Path.{refl}
use native.Mathlib.Omega.{arith}
use Rattle.replay_expiring.proofs.Runs.{run_past}
use Rattle.replay_expiring.proofs.list.expiring_replay.Goals as goal

pub returns-then-numbers-lt12 : goal.returns-then-numbers-lt12
returns-then-numbers-lt12 c = record { few = λ _. (refl, refl, refl, refl); ended = λ h. absurd (omega arith); run = λ h. absurd (omega arith); past = λ _ _. refl }

pub returns : goal.returns
returns c =
    let ran = c.run.ensures in
    record {
      few = λ h. absurd (omega (arith, c.if-numbers-lt12.false));
      ended = λ _. rw c.room-room.ensures at ran.0;
      run = λ _. ran.1;
      past = run_past ran.1;
    }
