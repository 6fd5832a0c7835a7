use Rattle.std.proofs.Common.{refl}
use Rattle.session.proofs.TableFollows.{tally_follows}
use Rattle.session.proofs.session.Session.tally.Goals as goal

pub returns : goal.returns
returns g c =
    let q = g.S.QuadSource in
    let s = c.args.self.now.source.now in
    record { answer = refl; law = tally_follows (q.means s) (g.met.S.QuadSource.ascending s) (g.met.S.QuadSource.ids s) c.args.self.now.table }
