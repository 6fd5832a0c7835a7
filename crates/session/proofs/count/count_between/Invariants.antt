use Rattle.std.proofs.Common.{◌≡◌, ◌+◌, ◌≤◌, length}
use Rattle.quads.specs.Listings.{matching, not_below}
use Rattle.quads.specs.Marks.{between}
use Rattle.session.proofs.count.count_between.Given as goal

-- what was counted and what is left between the marks make up the whole
abbrev pub invariant-loop-quad : goal.invariant-loop-quad
invariant-loop-quad g l =
    let all = matching (g.S.QuadSource.means l.source) l.pattern in
    (l.count ≤ 4294967295) × (l.count + length (between l.mark l.to all) ≡ length (between l.initial.mark l.to all))

abbrev pub decreases-loop-quad : goal.decreases-loop-quad
decreases-loop-quad g l = length (not_below l.mark (matching (g.S.QuadSource.means l.source) l.pattern))
