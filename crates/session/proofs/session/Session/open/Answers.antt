use Rattle.session.proofs.Replies.{asked_open}
use Rattle.session.proofs.session.Session.open.Goals as goal

pub returns-clause-asked : goal.returns-clause-asked
returns-clause-asked g c = asked_open _ _ _ _ _ c.args.pattern c.in_ok-ask.ensures.asked
