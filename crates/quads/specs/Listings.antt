-- What a quad source means, and what it answers. Assumes nothing.
use Rattle.std.specs.Prelude.{not, List, filter, Option}
use Rattle.ordered.specs.Lists.{foremost}
use Rattle.quads.specs.Quads.{quad_below}
use Rattle.quads.specs.Patterns.{matches}
use Rattle.quads.specs.declared.quad.Quad.{Quad}
use Rattle.quads.specs.declared.pattern.Pattern.{Pattern}

-- what a quad source means: the quads that it lists, in order
pub record Listing : Type 0 where
  pub quads : List Quad

-- the quads of the listing that match the pattern, in order
unfoldable pub matching : Listing → Pattern → List Quad
matching l p = filter (matches p) l.quads

-- the part of a list of quads that is not below the mark
unfoldable pub not_below : Quad → List Quad → List Quad
not_below mark qs = filter (λ q. not (quad_below q mark)) qs

-- the first matching quad not below the mark, or none
unfoldable pub first_from : Listing → Pattern → Quad → Option Quad
first_from l p mark = foremost (not_below mark (matching l p))
