-- What moving a mark leaves of the quads of a listing. Assumes nothing.
use Rattle.std.proofs.Common.{◌≡◌, ℕ, ◌+◌, ◌<◌, ◌≤◌, Bool, true, false, not, ◌&&◌, ltb, leb, List, [], ◌∷◌, Some, None, filter, sym, refl, ap, ◌∙◌, subst, ⊎_elim, arith}
use Rattle.std.proofs.lemmas.Bool.{and_parts, cases_Bool, cases_order, ltb-true, ltb-false, lt-ltb, le-ltb, leb-true, not_from_true, not_from_false}
use Rattle.ordered.specs.Lists.{each, foremost}
use Rattle.ordered.specs.Order.{strictly_ascends}
use Rattle.ordered.proofs.Kept.{kept_yes}
use Rattle.ordered.proofs.Sorted.{sorted, sorted_strictly, sorted_kept, kept_all, kept_same, kept_above, kept_none_below, each_kept, each_weaker}
use Rattle.quads.specs.Quads.{is_id, has_ids, below_or, quad_below}
use Rattle.quads.specs.QuadOrder.{quad_order, below_or_less}
use Rattle.quads.specs.Listings.{Listing, matching, not_below, first_from}
use Rattle.quads.specs.Marks.{right_after, between}
use Rattle.quads.specs.declared.quad.Quad.{Quad}
use Rattle.quads.specs.declared.pattern.Pattern.{Pattern}

-- one number of a quad: what is not below is equal and the rest is not below, or it is above
not_below_or : (a b : ℕ) (r : Bool) → not (below_or a b r) ≡ below_or b a (not r)
not_below_or a b r =
    ⊎_elim
    (λ e. elim r as (λ t. not (below_or a b t) ≡ below_or b a (not t)) [ true ↦ grind arith | false ↦ grind arith ])
    (λ w. ⊎_elim (λ l. grind arith) (λ l. grind arith) w)
    (cases_order a b)

not_ltb_suc : (a b : ℕ) → not (ltb a (b + 1)) ≡ ltb b a
not_ltb_suc a b =
    ⊎_elim
    (λ t. not_from_false _ (le-ltb a (b + 1) (omega (arith, ltb-true b a t))) ∙ sym t)
    (λ f. not_from_true _ (lt-ltb a (b + 1) (omega (arith, ltb-false b a f))) ∙ sym f)
    (cases_Bool (ltb b a))

-- not below the mark right after a quad is above the quad
pub not_below_right_after : (q x : Quad) → not (quad_below x (right_after q)) ≡ quad_below q x
unfolding quad_below right_after
not_below_right_after q x =
    not_below_or x.s q.s _ ∙ ap (below_or q.s x.s)
    (not_below_or x.p q.p _ ∙ ap (below_or q.p x.p)
    (not_below_or x.o q.o _ ∙ ap (below_or q.o x.o) (not_ltb_suc x.g q.g)))

-- a quad with IDs is below the mark (1,048,577, 0, 0, 0)
pub below_top : (q top : Quad) → has_ids q ≡ true → 1048576 < top.s → quad_below q top ≡ true
unfolding has_ids quad_below
below_top q top e h =
    below_or_less q.s top.s _ (omega (arith, leb-true q.s 1048576 (and_parts _ _ (and_parts _ _ (and_parts _ _ (and_parts _ _ e).0).0).0).1))

-- the graph of a quad with IDs
pub graph_id : (q : Quad) → has_ids q ≡ true → q.g ≤ 1048576
unfolding has_ids
graph_id q e =
    let id : is_id q.g ≡ true = (and_parts (is_id q.s && is_id q.p && is_id q.o) (is_id q.g) e).1 in
    leb-true q.g 1048576 (and_parts (leb 1 q.g) (leb q.g 1048576) id).1

-- the quads of a listing that match a pattern, as every source answers by them
module _ (l : Listing) (ascending : strictly_ascends quad_below l.quads ≡ true) (ids : each has_ids l.quads ≡ true) (p : Pattern) where
  pub matching-sorted : sorted quad_below quad_order (matching l p) ≡ true
  unfolding matching
  matching-sorted = sorted_kept quad_below quad_order _ l.quads (sorted_strictly quad_below quad_order l.quads ascending)

  pub matching_ids : each has_ids (matching l p) ≡ true
  unfolding matching
  matching_ids = each_kept has_ids _ l.quads ids

  pub not_below-sorted : (mark : Quad) → sorted quad_below quad_order (not_below mark (matching l p)) ≡ true
  unfolding not_below
  not_below-sorted mark = sorted_kept quad_below quad_order _ (matching l p) matching-sorted

  pub not_below_ids : (mark : Quad) → each has_ids (not_below mark (matching l p)) ≡ true
  unfolding not_below
  not_below_ids mark = each_kept has_ids _ (matching l p) matching_ids

  -- what is left past the first quad from a mark on
  pub not_below-right_after : (mark q : Quad) (rest : List Quad) → not_below mark (matching l p) ≡ q ∷ rest → not_below (right_after q) (matching l p) ≡ rest
  unfolding not_below
  not_below-right_after mark q rest e =
      kept_same (λ x. not (quad_below x (right_after q))) (quad_below q) (not_below_right_after q) (matching l p)
      ∙ kept_above quad_below quad_order mark q (matching l p) rest matching-sorted e

  pub between_none : (from to : Quad) → not_below from (matching l p) ≡ [] → between from to (matching l p) ≡ []
  unfolding between
  between_none from to e = ap (filter (λ q. quad_below q to)) e

  pub between_more : (from to q : Quad) (rest : List Quad) → not_below from (matching l p) ≡ q ∷ rest → quad_below q to ≡ true → between from to (matching l p) ≡ q ∷ between (right_after q) to (matching l p)
  unfolding between
  between_more from to q rest e b =
      let below : Quad → Bool = λ x. quad_below x to in
      ap (filter below) e ∙ kept_yes below q rest b ∙ ap (λ xs. q ∷ filter below xs) (sym (not_below-right_after from q rest e))

  pub between_past : (from to q : Quad) (rest : List Quad) → not_below from (matching l p) ≡ q ∷ rest → quad_below q to ≡ false → between from to (matching l p) ≡ []
  unfolding between
  between_past from to q rest e b =
      ap (filter (λ x. quad_below x to)) e
      ∙ kept_none_below quad_below quad_order to q rest (subst (λ xs. sorted quad_below quad_order xs ≡ true) e (not_below-sorted from)) b

  -- up to a mark that all are below
  pub between_top : (from top : Quad) → 1048576 < top.s → between from top (matching l p) ≡ not_below from (matching l p)
  unfolding between
  between_top from top h =
      kept_all (λ q. quad_below q top) (not_below from (matching l p))
      (each_weaker has_ids (λ q. quad_below q top) (λ q e. below_top q top e h) _ (not_below_ids from))

-- what a source's answer says of the quads from the mark on
pub first_none : (l : Listing) (p : Pattern) (mark : Quad) → first_from l p mark ≡ None → not_below mark (matching l p) ≡ []
unfolding first_from
first_none l p mark e = go (not_below mark (matching l p)) e
  where
    go : (xs : List Quad) → foremost xs ≡ None → xs ≡ []
    go [] e = refl
    go (x ∷ xs) e = let z : ◌≡◌ {A = ℕ} 0 1 = cc in absurd (omega arith)

pub first_some : (l : Listing) (p : Pattern) (mark q : Quad) → first_from l p mark ≡ Some q → (rest : List Quad) × (not_below mark (matching l p) ≡ q ∷ rest)
unfolding first_from
first_some l p mark q e = go (not_below mark (matching l p)) e
  where
    go : (xs : List Quad) → foremost xs ≡ Some q → (rest : List Quad) × (xs ≡ q ∷ rest)
    go [] e = let z : ◌≡◌ {A = ℕ} 0 1 = cc in absurd (omega arith)
    go (x ∷ xs) e = let same : x ≡ q = cc in (xs, ap (λ y. y ∷ xs) same)
