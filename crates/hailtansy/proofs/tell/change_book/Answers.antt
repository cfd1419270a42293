-- The closure's reply is that of the call which it stands for.
use Rattle.std.proofs.Common.{rules}
use Rattle.hailtansy.proofs.Laws.{not_called, called}
use Rattle.hailtansy.proofs.tell.change_book.Goals as goal

pub returns-then-not-has_room : goal.returns-then-not-has_room
returns-then-not-has_room g c t c' made = not_called (c.has_room.ensures.no (search rules))

pub returns : goal.returns
returns g c t c' made = called (c.has_room.ensures.yes (search rules)) (made _ _ _ (rw c.book_in.ensures at c.call-reply.ensures)) c.store_book.ensures c.store_answer.ensures
