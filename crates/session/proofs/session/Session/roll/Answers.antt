use Rattle.std.proofs.Common.{arith}
use Rattle.session.proofs.TableFollows.{roll_follows}
use Rattle.session.proofs.session.Session.roll.Goals as goal

pub returns : goal.returns
returns g c =
    let q = g.S.QuadSource in
    let s = c.args.self.now.source.now in
    let told = c.roll.ensures in
    record {
      answer = told.answer;
      wrote = told.wrote;
      rest = told.rest;
      law = roll_follows (q.means s) (g.met.S.QuadSource.ascending s) (g.met.S.QuadSource.ids s) c.args.self.now.table c.args.buffer.now _ _ (omega arith) told.answer told.wrote;
    }
