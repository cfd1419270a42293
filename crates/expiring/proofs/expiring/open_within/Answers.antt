use Rattle.expiring.proofs.Opening.{list_answers, index_answers, opened_within}
use mathlib.Core.Path.{refl}
use Rattle.expiring.proofs.expiring.open_within.Goals as goal

pub unwrap-inner-requires : goal.unwrap-inner-requires
unwrap-inner-requires c = list_answers c.requires refl c.new.ensures

pub unwrap-index-requires : goal.unwrap-index-requires
unwrap-index-requires c = index_answers c.requires c.new.ensures c.open.ensures

pub returns : goal.returns
returns c = opened_within c.requires c.new.ensures c.open.ensures _ c.unwrap-inner.ensures c.unwrap-index.ensures
