use Rattle.std.proofs.Common.{sym}
use Rattle.session.proofs.Counting.{first_graph}
use Rattle.session.proofs.cursor.Cursor.advance.Goals as goal

pub right_after-requires : goal.right_after-requires
right_after-requires g c =
    let s = c.args.source.now in
    let src = g.S.QuadSource in
    first_graph (src.means s) (g.met.S.QuadSource.ascending s) (g.met.S.QuadSource.ids s) c.args.self.now.pattern c.args.mark c.in-Some.quad (sym c.in-Some.ensures)
