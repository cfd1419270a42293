-- What the closure says is said by the call which it stands for.
use Rattle.std.proofs.Common.{rules}
use Rattle.hailtansy.proofs.Laws.{not_called, changed}
use Rattle.hailtansy.proofs.tell.change.Goals as goal

pub returns-then-not-has_room : goal.returns-then-not-has_room
returns-then-not-has_room g c t c' made = not_called (c.has_room.ensures.no (search rules))

pub returns : goal.returns
returns g c t c' made = changed _ _ (c.has_room.ensures.yes (search rules)) (made _ _ _ _ _ c.call-said.ensures) c.store_said.ensures
