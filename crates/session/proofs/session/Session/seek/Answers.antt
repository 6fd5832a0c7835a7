use Rattle.session.proofs.Replies.{asked_seek}
use Rattle.session.proofs.session.Session.seek.Goals as goal

pub returns-clause-asked : goal.returns-clause-asked
returns-clause-asked g c = asked_seek _ _ _ _ _ c.args.mark _ c.count.ensures c.in_ok-jumped.ensures.asked
