use mathlib.Core.Path.{sym, ◌∙◌}
use Rattle.lazy_heap.proofs.Best.{popping_within, popping_top}
use Rattle.lazy_heap.proofs.heap.LazyMinHeap.take_best.Goals as goal

pub returns : goal.returns
returns c =
    let ok = sym c.admitted.ensures ∙ c.in_ok-admitted.was in record {
      within = rw (c.best_of.ensures, c.within-best.ensures.within) (popping_within c.settle-discarded.ensures c.top.ensures ok c.args.score (rw c.within-best.ensures.within at c.take_top.ensures));
      all = λ all. rw (c.best_of.ensures, c.within-best.ensures.all all) (popping_top c.settle-discarded.ensures c.top.ensures ok (rw (c.within-best.ensures.all all) at c.take_top.ensures));
    }
