use mathlib.Core.Path.{◌≡◌}
use Prim.Native.Nat.{◌-◌}
use Rattle.linked_hash_map.specs.Words.{filled}
use Rattle.linked_hash_map.proofs.map.empty_words.Given as goal

abbrev pub invariant-loop-i : goal.invariant-loop-i
invariant-loop-i l = filled l.words l.n l.i (l.n - l.i) ≡ filled l.initial.words l.n 0 l.n
