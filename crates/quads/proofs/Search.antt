-- Searching a list of quads from a place on. Assumes nothing.
use Rattle.std.proofs.Common.{◌≡◌, ℕ, ◌+◌, ◌<◌, Bool, true, false, not, List, length, get_or, drop, Some, filter, ap, ◌∙◌}
use Rattle.std.proofs.lemmas.List.{drop_more}
use Rattle.std.proofs.lemmas.Bool.{cond-true, cond-false}
use Rattle.ordered.specs.Lists.{foremost}
use Rattle.ordered.specs.Order.{strictly_ascends, first_not_below}
use Rattle.ordered.proofs.Kept.{kept_kept, kept_from_place, ascends_strictly}
use Rattle.quads.specs.Quads.{quad_below}
use Rattle.quads.specs.QuadOrder.{quad_order}
use Rattle.quads.specs.Patterns.{matches}
use Rattle.quads.specs.Listings.{Listing, matching, not_below, first_from}
use Rattle.quads.specs.declared.quad.Quad.{Quad}
use Rattle.quads.specs.declared.pattern.Pattern.{Pattern}

module _ {A : Type 0} (test : A → Bool) (xs : List A) (i : ℕ) (d : A) (within : i < length xs) where
  pub match_here : test (get_or xs i d) ≡ true → foremost (filter test (drop i xs)) ≡ Some (get_or xs i d)
  match_here e = ap (λ ys. foremost (filter test ys)) (drop_more xs i d within) ∙ ap foremost (cond-true (test (get_or xs i d)) _ _ e)

  pub match_later : test (get_or xs i d) ≡ false → foremost (filter test (drop i xs)) ≡ foremost (filter test (drop (i + 1) xs))
  match_later e = ap (λ ys. foremost (filter test ys)) (drop_more xs i d within) ∙ ap foremost (cond-false (test (get_or xs i d)) _ _ e)

-- the search may begin at the mark's place
pub first_from_place : (l : Listing) (p : Pattern) (mark : Quad) → strictly_ascends quad_below l.quads ≡ true
    → first_from l p mark ≡ foremost (filter (matches p) (drop (first_not_below quad_below mark l.quads) l.quads))
unfolding first_from not_below matching
first_from_place l p mark e =
    ap foremost
    (kept_kept (λ q. not (quad_below q mark)) (matches p) l.quads
    ∙ ap (filter (matches p)) (kept_from_place quad_below quad_order mark l.quads (ascends_strictly quad_below quad_order l.quads e)))
