-- Going through the quads of a source from a mark on, one after another. Assumes nothing.
use Rattle.std.proofs.Common.{◌≡◌, ℕ, suc, ◌+◌, ◌<◌, ◌≤◌, true, false, length, Some, None, ap, ◌∙◌, subst, arith}
use Rattle.std.proofs.lemmas.Bool.{and_parts}
use Rattle.ordered.specs.Lists.{each}
use Rattle.ordered.specs.Order.{strictly_ascends}
use Rattle.quads.specs.Counts.{capped}
use Rattle.quads.specs.Quads.{has_ids, quad_below}
use Rattle.quads.specs.Listings.{Listing, matching, not_below, first_from}
use Rattle.quads.specs.Marks.{right_after, between}
use Rattle.quads.specs.declared.quad.Quad.{Quad}
use Rattle.quads.specs.declared.pattern.Pattern.{Pattern}
use Rattle.quads.proofs.Marks.{graph_id, not_below_ids, not_below-right_after, between_none, between_more, between_past, first_none, first_some}

pub capped_below : (n : ℕ) → n ≤ 4294967295 → n ≡ capped n
unfolding capped
capped_below n h = omega arith

pub capped-above : (n : ℕ) → 4294967295 ≤ n → 4294967295 ≡ capped n
unfolding capped
capped-above n h = omega arith

module _ (l : Listing) (ascending : strictly_ascends quad_below l.quads ≡ true) (ids : each has_ids l.quads ≡ true) (p : Pattern) (mark : Quad) where
  pub first_graph : (q : Quad) → first_from l p mark ≡ Some q → q.g ≤ 1048576
  first_graph q e =
      let found = first_some l p mark q e in
      graph_id q (and_parts _ _ (subst (λ xs. each has_ids xs ≡ true) found.1 (not_below_ids l ascending ids p mark))).0

  pub first_less : (q : Quad) → first_from l p mark ≡ Some q → length (not_below (right_after q) (matching l p)) < length (not_below mark (matching l p))
  first_less q e =
      let found = first_some l p mark q e in
      let before : length (not_below mark (matching l p)) ≡ suc (length found.0) = ap length found.1 in
      let after : length (not_below (right_after q) (matching l p)) ≡ length found.0 = ap length (not_below-right_after l ascending ids p mark q found.0 found.1) in
      omega arith

  -- a count n so far, of t in all up to the mark `to`
  module _ (to : Quad) (n t : ℕ) (counted : n + length (between mark to (matching l p)) ≡ t) where
    pub count_none : n ≤ 4294967295 → first_from l p mark ≡ None → n ≡ capped t
    count_none h e =
        let none : length (between mark to (matching l p)) ≡ 0 = ap length (between_none l ascending ids p mark to (first_none l p mark e)) in
        let all : n ≡ t = omega arith in
        capped_below n h ∙ ap capped all

    pub count_past : (q : Quad) → n ≤ 4294967295 → first_from l p mark ≡ Some q → quad_below q to ≡ false → n ≡ capped t
    count_past q h e b =
        let found = first_some l p mark q e in
        let none : length (between mark to (matching l p)) ≡ 0 = ap length (between_past l ascending ids p mark to q found.0 found.1 b) in
        let all : n ≡ t = omega arith in
        capped_below n h ∙ ap capped all

    pub count_full : n ≡ 4294967295 → n ≡ capped t
    count_full e = e ∙ capped-above t (omega arith)

    pub count_more : (q : Quad) → first_from l p mark ≡ Some q → quad_below q to ≡ true → n + 1 + length (between (right_after q) to (matching l p)) ≡ t
    count_more q e b =
        let found = first_some l p mark q e in
        let more : length (between mark to (matching l p)) ≡ suc (length (between (right_after q) to (matching l p))) = ap length (between_more l ascending ids p mark to q found.0 found.1 b) in
        omega arith
