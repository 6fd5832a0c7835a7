use Rattle.std.proofs.Common.{cond, ap, ◌∙◌}
use Rattle.quads.specs.Quads.{quad_below}
use Rattle.quads.proofs.Derived.{larger}
use Rattle.quads.proofs.pattern.Pattern.start.Goals as goal

pub returns : goal.returns
returns c = c.max.ensures ∙ larger _ _ ∙ ap (λ lowest. cond (quad_below c.args.mark lowest) lowest c.args.mark) c.filled.ensures
