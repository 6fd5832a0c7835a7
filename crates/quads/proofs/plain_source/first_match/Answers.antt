use Rattle.std.proofs.Common.{get_or, sym, ap, ◌∙◌}
use Rattle.quads.specs.PlainLists.{nowhere}
use Rattle.quads.specs.Quads.{quad_below}
use Rattle.quads.proofs.Spans.{no_match_later}
use Rattle.quads.proofs.plain_source.first_match.Goals as goal

pub returns-then-is_below : goal.returns-then-is_below
returns-then-is_below c =
    sym (no_match_later c.args.pattern c.args.quads.now c.loop-quad.quad-index nowhere c.requires.ascending c.requires.ids c.loop-quad-test.true
    (ap (λ m. quad_below m (get_or c.args.quads.now c.loop-quad.quad-index nowhere)) (sym c.highest-highest.ensures) ∙ sym c.if-is_below.ensures))
    ∙ c.loop-quad.invariant
