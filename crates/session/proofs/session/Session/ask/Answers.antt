use Rattle.session.proofs.Replies.{refused_reply}
use Rattle.session.proofs.TableFollows.{one_asked}
use Rattle.session.proofs.session.Session.ask.Goals as goal

pub returns-clause-asked : goal.returns-clause-asked
returns-clause-asked g c =
    let l = g.S.QuadSource in
    let s = c.args.self.now.source.now in
    let told = c.ask.ensures in
    one_asked (l.means s) (g.met.S.QuadSource.ascending s) (g.met.S.QuadSource.ids s) c.args.self.now.table _ c.args.cursor c.args.ask _ told.outcome told.after (λ refused. told.kept (refused_reply _ refused))
