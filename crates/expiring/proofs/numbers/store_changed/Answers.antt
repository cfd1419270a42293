use mathlib.Core.Path.{◌≡◌}
use lib.ListN.{take}
use Rattle.expiring.specs.Numbers.{with_changed}
use Rattle.expiring.proofs.Storing.{changed_front}
use Rattle.expiring.proofs.numbers.store_changed.Goals as goal

pub returns : goal.returns
unfolding with_changed
returns c =
    let front : c.unwrap-numbers.result.now ≡ take 12 c.args.numbers.now = (rw c.unwrap-numbers.ensures at c.first_chunk_mut.ensures.cases).same in
    rw (c.store_index.ensures, c.store_list.ensures, front) (changed_front c.args.numbers.now c.args.book c.requires)
