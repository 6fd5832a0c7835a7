-- Marks: where a search begins. Assumes nothing.
use Rattle.std.specs.Prelude.{◌+◌, List, filter}
use Rattle.quads.specs.Quads.{quad_below}
use Rattle.quads.specs.Listings.{not_below}
use Rattle.quads.specs.declared.quad.Quad.{Quad}

-- the mark that no quad is below: (0, 0, 0, 0)
abbrev pub lowest : Quad
lowest = record { s = 0; p = 0; o = 0; g = 0 }

-- the mark right after a quad: the same with g + 1
unfoldable pub right_after : Quad → Quad
right_after q = record { s = q.s; p = q.p; o = q.o; g = q.g + 1 }

-- the part of a list of quads from one mark on and below another
unfoldable pub between : Quad → Quad → List Quad → List Quad
between from to qs = filter (λ q. quad_below q to) (not_below from qs)
