use Rattle.session.proofs.Replies.{asked_close}
use Rattle.session.proofs.session.Session.close.Goals as goal

pub returns-clause-asked : goal.returns-clause-asked
returns-clause-asked g c = asked_close _ _ _ _ _ _ c.count.ensures c.in_ok-given.ensures.asked
