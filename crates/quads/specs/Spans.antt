-- Between which quads those that match a pattern lie. Assumes nothing.
use Rattle.std.specs.Prelude.{ℕ, cond}
use Rattle.quads.specs.Quads.{quad_of, quad_below}
use Rattle.quads.specs.declared.quad.Quad.{Quad}
use Rattle.quads.specs.declared.pattern.Place.{Place}
use Rattle.quads.specs.declared.pattern.Place.TheVariants.{Any, Given}
use Rattle.quads.specs.declared.pattern.Pattern.{Pattern}

-- the given number, or another where the place is open
abbrev pub number_or : Place → ℕ → ℕ
number_or Any other = other
number_or (Given id) other = id

-- the given numbers, with another at the open places
abbrev pub filled : Pattern → ℕ → Quad
filled p other = quad_of (number_or p.s other) (number_or p.p other) (number_or p.o other) (number_or p.g other)

-- no matching quad is below the one or above the other
abbrev pub lowest_of : Pattern → Quad
lowest_of p = filled p 0

abbrev pub highest_of : Pattern → Quad
highest_of p = filled p 4294967295

-- the mark, or the lowest match's bound where that is above it
abbrev pub start_of : Pattern → Quad → Quad
start_of p mark = cond (quad_below mark (lowest_of p)) (lowest_of p) mark
