use Rattle.std.proofs.Common.{[], sym, refl, subst}
use Rattle.session.specs.Keeps.{Keeps}
use Rattle.session.proofs.TableFollows.{keeps_none}
use Rattle.session.proofs.session.Session.attach.Goals as goal

pub returns : goal.returns
returns g c =
    let q = g.S.QuadSource in
    let s = c.args.source.now in
    record { source = refl; closed = c.new.ensures; law = subst (Keeps (q.means s) []) (sym c.new.ensures) (keeps_none (q.means s) (g.met.S.QuadSource.ascending s) (g.met.S.QuadSource.ids s)) }
