-- Which quads a pattern matches. Assumes nothing.
use Rattle.std.specs.Prelude.{ℕ, Bool, true, ◌&&◌, ◌==◌}
use Rattle.quads.specs.Quads.{is_id}
use Rattle.quads.specs.declared.quad.Quad.{Quad}
use Rattle.quads.specs.declared.pattern.Place.{Place}
use Rattle.quads.specs.declared.pattern.Place.TheVariants.{Any, Given}
use Rattle.quads.specs.declared.pattern.Pattern.{Pattern}

-- a place that is any fits every number; a given ID fits itself alone, and a given number that is no ID fits none
abbrev pub fits : Place → ℕ → Bool
fits Any n = true
fits (Given id) n = is_id id && n == id

-- a quad matches if each of its numbers fits its place
unfoldable pub matches : Pattern → Quad → Bool
matches p q = fits p.s q.s && fits p.p q.p && fits p.o q.o && fits p.g q.g

-- the place is open, or gives an ID
abbrev pub any_or_id : Place → Bool
any_or_id Any = true
any_or_id (Given id) = is_id id

-- every number that the pattern gives is an ID
unfoldable pub asks_ids : Pattern → Bool
asks_ids p = any_or_id p.s && any_or_id p.p && any_or_id p.o && any_or_id p.g
