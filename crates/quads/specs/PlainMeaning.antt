-- What a plain list means, and that this is what a quad source may mean. Assumes nothing.
use Rattle.std.specs.Prelude.{◌≡◌, true, List, Ok, Err, Result}
use Rattle.ordered.specs.Lists.{each}
use Rattle.ordered.specs.Order.{strictly_ascends}
use Rattle.quads.specs.Quads.{has_ids, quad_below}
use Rattle.quads.specs.PlainLists.{is_plain, checked, refused, refusal_number, refusal_place}
use Rattle.quads.specs.declared.quad.Quad.{Quad}
use Rattle.quads.specs.declared.check.ListRefusal.{ListRefusal}
use Rattle.quads.specs.Listings.{Listing}
use Rattle.quads.specs.declared.plain.PlainList.{PlainList}

-- the quads that it holds
abbrev pub plain_means : PlainList → Listing
plain_means l = record { quads = l.quads.now }

pub plain_ascending : (l : PlainList) → strictly_ascends quad_below (plain_means l).quads ≡ true
plain_ascending l = l.ascending

pub plain_ids : (l : PlainList) → each has_ids (plain_means l).quads ≡ true
plain_ids l = l.ids

-- what making one of these quads answers: their plain list if they are one, and else the refusal that checking them finds
abbrev pub GivesPlain : List Quad → Result PlainList ListRefusal → Type 0
GivesPlain qs (Ok l) = (is_plain qs ≡ true) × (plain_means l ≡ record { quads = qs })
GivesPlain qs (Err r) = checked qs ≡ refused (refusal_number r) (refusal_place r)
