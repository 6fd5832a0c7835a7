use Rattle.std.proofs.Common.{◌≡◌, drop, filter}
use Rattle.ordered.specs.Lists.{foremost}
use Rattle.quads.specs.Patterns.{matches}
use Rattle.quads.proofs.plain_source.first_match.Given as goal

-- what is left has the same first match as the whole
abbrev pub invariant-loop-quad : goal.invariant-loop-quad
invariant-loop-quad l = foremost (filter (matches l.pattern) (drop l.quad-index l.quads)) ≡ foremost (filter (matches l.pattern) l.quads)
