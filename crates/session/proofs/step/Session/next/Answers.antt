use Rattle.session.proofs.Stepping.{continues}
use Rattle.session.proofs.step.Session.next.Goals as goal

pub returns : goal.returns
returns c = continues c.reply_to-reply.ensures c.tell.ensures
