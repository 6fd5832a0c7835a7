use Rattle.std.proofs.Common.{◌≡◌, true, false, List, [], Ok, Err, Result, sym, refl, ap, ◌∙◌}
use Rattle.std.proofs.lemmas.Bool.{cond-true, cond-false}
use Rattle.quads.specs.Listings.{Listing}
use Rattle.quads.specs.PlainLists.{is_plain, listed}
use Rattle.quads.specs.PlainMeaning.{GivesPlain, plain_means}
use Rattle.std.specs.Result.{result_unwrap_or}
use Rattle.quads.proofs.Faults.{not_plain_from_refused}
use Rattle.quads.specs.declared.check.ListRefusal.{ListRefusal}
use Rattle.quads.specs.declared.plain.PlainList.{PlainList}
use Rattle.quads.specs.declared.quad.Quad.{Quad}
use Rattle.quads.proofs.plain.PlainList.new.Goals as goal

abbrev listing : List Quad → Listing
listing qs = record { quads = qs }

listed_yes : (qs : List Quad) → is_plain qs ≡ true → listing qs ≡ listed qs
unfolding listed
listed_yes qs e = ap listing (sym (cond-true (is_plain qs) qs [] e))

listed_no : (qs : List Quad) → is_plain qs ≡ false → listing [] ≡ listed qs
unfolding listed
listed_no qs e = ap listing (sym (cond-false (is_plain qs) qs [] e))

-- the list that was made, or one of no quads
or_none : (qs : List Quad) (made : Result PlainList ListRefusal) (none : PlainList) → GivesPlain qs made → none.quads.now ≡ [] → plain_means (result_unwrap_or made none) ≡ listed qs
or_none qs (Ok l) none gives empty = gives.1 ∙ listed_yes qs gives.0
or_none qs (Err r) none gives empty = ap listing empty ∙ listed_no qs (not_plain_from_refused qs _ _ gives)

pub returns : goal.returns
returns c = ap plain_means c.unwrap_or.ensures ∙ or_none c.args.quads.now c.try_from.result _ c.try_from.ensures refl
