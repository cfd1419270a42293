-- The closure's reply is that of the call which it stands for.
use Rattle.std.proofs.Common.{rules}
use Rattle.hailtansy.proofs.Laws.{not_looked, looked}
use Rattle.hailtansy.proofs.tell.look.Goals as goal

pub returns-then-not-has_room : goal.returns-then-not-has_room
returns-then-not-has_room g c ws t c' look made = not_looked look (c.has_room.ensures.no (search rules))

pub returns : goal.returns
returns g c ws t c' look made = looked look (c.has_room.ensures.yes (search rules)) (made c.call-reply.result (search rules)) c.store_answer.ensures
