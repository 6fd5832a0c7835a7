use Rattle.std.proofs.Common.{◌≡◌, ◌+◌, ◌<◌, length, sym, subst, arith}
use Rattle.quads.specs.Listings.{matching, not_below}
use Rattle.quads.specs.Marks.{between}
use Rattle.session.proofs.Counting.{first_graph, first_less, count_none, count_past, count_full, count_more}
use Rattle.session.proofs.count.count_between.Goals as goal
use Rattle.session.proofs.count.count_between.Goals.{then-not-is_below-via-then-not-is_below, then-not-is_below-via-else-not-is_below+then-count}

pub returns-then-not-is_below : goal.returns-then-not-is_below
returns-then-not-is_below g c =
    let s = c.args.source.now in
    let src = g.S.QuadSource in
    elim c.then-not-is_below.branch [
      | then-not-is_below-via-then-not-is_below w ↦ count_past (src.means s) (g.met.S.QuadSource.ascending s) (g.met.S.QuadSource.ids s) c.args.pattern c.loop-quad.mark c.args.to c.loop-quad.count _
          c.loop-quad.invariant.1 c.in-Some.quad c.loop-quad.invariant.0 (sym c.in-Some.ensures) (sym w.if-not-is_below.ensures)
      | then-not-is_below-via-else-not-is_below+then-count w ↦ count_full (src.means s) (g.met.S.QuadSource.ascending s) (g.met.S.QuadSource.ids s) c.args.pattern c.loop-quad.mark c.args.to c.loop-quad.count _
          c.loop-quad.invariant.1 w.if-count.true
    ]

pub right_after-mark-requires : goal.right_after-mark-requires
right_after-mark-requires g c =
    let s = c.args.source.now in
    let src = g.S.QuadSource in
    first_graph (src.means s) (g.met.S.QuadSource.ascending s) (g.met.S.QuadSource.ids s) c.args.pattern c.loop-quad.mark c.in-Some.quad (sym c.in-Some.ensures)

pub loop-quad-smaller : goal.loop-quad-smaller
loop-quad-smaller g c =
    let s = c.args.source.now in
    let src = g.S.QuadSource in
    subst (λ m. length (not_below m (matching (src.means s) c.args.pattern)) < length (not_below c.loop-quad.mark (matching (src.means s) c.args.pattern)))
    (sym c.right_after-mark.ensures)
    (first_less (src.means s) (g.met.S.QuadSource.ascending s) (g.met.S.QuadSource.ids s) c.args.pattern c.loop-quad.mark c.in-Some.quad (sym c.in-Some.ensures))

pub loop-quad-preserved : goal.loop-quad-preserved
loop-quad-preserved g c =
    let s = c.args.source.now in
    let src = g.S.QuadSource in (
      omega arith,
      subst (λ m. c.loop-quad.count + 1 + length (between m c.args.to (matching (src.means s) c.args.pattern)) ≡ length (between c.args.from c.args.to (matching (src.means s) c.args.pattern)))
          (sym c.right_after-mark.ensures)
          (count_more (src.means s) (g.met.S.QuadSource.ascending s) (g.met.S.QuadSource.ids s) c.args.pattern c.loop-quad.mark c.args.to c.loop-quad.count _
          c.loop-quad.invariant.1 c.in-Some.quad (sym c.in-Some.ensures) (sym c.if-not-is_below.ensures)),
    )

pub returns : goal.returns
returns g c =
    let s = c.args.source.now in
    let src = g.S.QuadSource in
    count_none (src.means s) (g.met.S.QuadSource.ascending s) (g.met.S.QuadSource.ids s) c.args.pattern c.loop-quad.mark c.args.to c.loop-quad.count _
    c.loop-quad.invariant.1 c.loop-quad.invariant.0 (sym c.in_default.ensures)
