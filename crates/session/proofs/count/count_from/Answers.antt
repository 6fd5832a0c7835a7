use Rattle.std.proofs.Common.{length, ap, ◌∙◌, arith}
use Rattle.quads.specs.Counts.{capped}
use Rattle.quads.proofs.Marks.{between_top}
use Rattle.session.proofs.count.count_from.Goals as goal

pub returns : goal.returns
returns g c =
    let s = c.args.source.now in
    let src = g.S.QuadSource in
    c.count_between.ensures
    ∙ ap (λ qs. capped (length qs)) (between_top (src.means s) (g.met.S.QuadSource.ascending s) (g.met.S.QuadSource.ids s) c.args.pattern c.args.from _ (omega arith))
