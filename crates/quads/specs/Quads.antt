-- Quads, IDs and the order of quads. Assumes nothing.
use Rattle.std.specs.Prelude.{ℕ, Bool, ◌&&◌, ◌||◌, ◌==◌, nat_le, nat_lt}
use Rattle.quads.specs.declared.quad.Quad.{Quad}

-- the quad, or the mark, of these four numbers
abbrev pub quad_of : ℕ → ℕ → ℕ → ℕ → Quad
quad_of s p o g = record { s = s; p = p; o = o; g = g }

-- an ID is a number from 1 to 1,048,576
abbrev pub is_id : ℕ → Bool
is_id n = nat_le 1 n && nat_le n 1048576

-- all four numbers are IDs
unfoldable pub has_ids : Quad → Bool
has_ids q = is_id q.s && is_id q.p && is_id q.o && is_id q.g

-- the first numbers decide, and where they are equal what comes after them does
abbrev pub below_or : ℕ → ℕ → Bool → Bool
below_or a b rest = nat_lt a b || (a == b && rest)

-- quads, and marks like them, are ordered by s, then p, then o, then g
unfoldable pub quad_below : Quad → Quad → Bool
quad_below x y = below_or x.s y.s (below_or x.p y.p (below_or x.o y.o (nat_lt x.g y.g)))

-- the two quads have the same four numbers
unfoldable pub same_quad : Quad → Quad → Bool
same_quad x y = x.s == y.s && x.p == y.p && x.o == y.o && x.g == y.g
