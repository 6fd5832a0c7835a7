-- Which lists of quads are a plain list, and what checking one answers. Assumes nothing.
use Rattle.std.specs.Prelude.{ℕ, ◌-◌, Bool, cond, not, ◌&&◌, ◌||◌, List, [], length, Some, None, Ok, Err, Option, Result, nat_lt, slice_index_or}
use Rattle.ordered.specs.Lists.{each, first_place}
use Rattle.ordered.specs.Order.{strictly_ascends}
use Rattle.quads.specs.Quads.{has_ids, quad_below}
use Rattle.quads.specs.Listings.{Listing}
use Rattle.quads.specs.declared.quad.Quad.{Quad}
use Rattle.quads.specs.declared.check.ListRefusal.{ListRefusal}
use Rattle.quads.specs.declared.check.ListRefusal.TheVariants.{NotAnId, NotAscending}

-- every number is an ID, and each quad is strictly above the one before; subjects may have gaps
unfoldable pub is_plain : List Quad → Bool
is_plain qs = each has_ids qs && strictly_ascends quad_below qs

-- what a plain list over these quads means: the quads, or none of them if they are no plain list
unfoldable pub listed : List Quad → Listing
listed qs = record { quads = cond (is_plain qs) qs [] }

-- what a check answers: the list is accepted, or refused with a number and the place of the first quad at fault
pub data Verdict : Type 0 where
  accepted : Verdict
  refused : (number place : ℕ) → Verdict

-- the number of each refusal, and the place that it carries
abbrev pub refusal_number : ListRefusal → ℕ
refusal_number (NotAnId place) = 3
refusal_number (NotAscending place) = 4

abbrev pub refusal_place : ListRefusal → ℕ
refusal_place (NotAnId place) = place
refusal_place (NotAscending place) = place

-- what the answer of a check tells
abbrev pub verdict : {A : Type 0} → Result A ListRefusal → Verdict
verdict (Ok x) = accepted
verdict (Err r) = refused (refusal_number r) (refusal_place r)

-- no quad: what stands past the end of a list
abbrev pub nowhere : Quad
nowhere = record { s = 0; p = 0; o = 0; g = 0 }

-- the quad at the place is strictly above the one before it, if there is one before it
unfoldable pub rises_at : List Quad → ℕ → Bool
rises_at qs i = not (nat_lt 0 i) || quad_below (slice_index_or qs (i - 1) nowhere) (slice_index_or qs i nowhere)

-- the quad at the place has a number that is no ID, or is not strictly above the one before it
unfoldable pub at_fault : List Quad → ℕ → Bool
at_fault qs i = not (has_ids (slice_index_or qs i nowhere)) || not (rises_at qs i)

-- a quad at fault is refused with 3 for a number that is no ID, and else with 4
abbrev pub verdict_at : List Quad → Option ℕ → Verdict
verdict_at qs None = accepted
verdict_at qs (Some i) = refused (cond (has_ids (slice_index_or qs i nowhere)) 4 3) i

-- what checking answers, by the first place with a quad at fault
unfoldable pub checked : List Quad → Verdict
checked qs = verdict_at qs (first_place (at_fault qs) 0 (length qs))
