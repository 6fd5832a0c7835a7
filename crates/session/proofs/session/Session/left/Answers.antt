use Rattle.std.proofs.lemmas.Result.{err_from_is_err_and}
use Rattle.session.proofs.Replies.{asked_left}
use Rattle.session.proofs.TableFollows.{left_asked}
use Rattle.session.proofs.session.Session.left.Goals as goal

pub returns-in_err-left : goal.returns-in_err-left
returns-in_err-left g c =
    let l = g.S.QuadSource in
    let s = c.args.self.now.source.now in
    let p = err_from_is_err_and c.from_residual.result c.from_residual.ensures.1 in
    rw (p.1, p.2) (record { asked = left_asked (l.means s) (g.met.S.QuadSource.ascending s) (g.met.S.QuadSource.ids s) c.args.self.now.table c.args.cursor _ c.in_err-left.ensures.outcome })

pub returns : goal.returns
returns g c =
    let l = g.S.QuadSource in
    let s = c.args.self.now.source.now in
    let t = c.args.self.now.table in
    let told = asked_left (l.means s) t c.args.cursor c.in_ok-left.left _ c.count.ensures c.in_ok-left.ensures.outcome in
    record { asked = left_asked (l.means s) (g.met.S.QuadSource.ascending s) (g.met.S.QuadSource.ids s) t c.args.cursor _ told }
