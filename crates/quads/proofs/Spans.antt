-- The quads that match a pattern lie between its lowest and its highest mark. Assumes nothing.
use Rattle.std.proofs.Common.{◌≡◌, ℕ, zero, suc, ◌+◌, ◌<◌, ◌≤◌, Bool, true, false, not, ◌&&◌, leb, List, [], ◌∷◌, length, get_or, drop, None, filter, sym, refl, ap, ◌∙◌, subst, ⊎_elim, arith}
use Rattle.std.proofs.lemmas.List.{drop_more}
use Rattle.std.proofs.lemmas.Bool.{and_parts, and_from, cases_Bool, both_ways, cond-true, cond-false, eqb-true, leb-true, le-ltb, not_from_false}
use Rattle.ordered.specs.Lists.{each, foremost}
use Rattle.ordered.specs.Order.{strictly_ascends}
use Rattle.ordered.proofs.Sorted.{sorted, sorted_strictly, strictly_sorted, kept_all, kept_none, kept_passes, each_weaker, each_both}
use Rattle.quads.specs.Quads.{is_id, has_ids, below_or, quad_below}
use Rattle.quads.specs.QuadOrder.{quad_order, below_or_cases}
use Rattle.quads.specs.Patterns.{fits, matches}
use Rattle.quads.specs.Listings.{Listing, matching, not_below, first_from}
use Rattle.quads.specs.Spans.{number_or, lowest_of, highest_of, start_of}
use Rattle.quads.specs.declared.quad.Quad.{Quad}
use Rattle.quads.specs.declared.pattern.Place.{Place}
use Rattle.quads.specs.declared.pattern.Place.TheVariants.{Any, Given}
use Rattle.quads.specs.declared.pattern.Pattern.{Pattern}

-- what fits a place lies between its bounds
fits_least : (p : Place) (n : ℕ) → fits p n ≡ true → number_or p 0 ≤ n
fits_least Any n e = omega arith
fits_least (Given id) n e = omega (arith, eqb-true n id (and_parts _ _ e).1)

fits_most : (p : Place) (n : ℕ) → n < 4294967296 → fits p n ≡ true → n ≤ number_or p 4294967295
fits_most Any n h e = omega arith
fits_most (Given id) n h e = omega (arith, eqb-true n id (and_parts _ _ e).1)

-- not below at one number, nor at the rest
below_or_not : (a b : ℕ) (r : Bool) → b ≤ a → r ≡ false → below_or a b r ≡ false
below_or_not a b r h f =
    ⊎_elim
    (λ t. ⊎_elim (λ l. absurd (omega arith)) (λ s. absurd (both_ways r f s.1)) (below_or_cases a b r t))
    (λ e. e)
    (cases_Bool (below_or a b r))

-- the four parts of a match
match_parts : (p : Pattern) (q : Quad) → matches p q ≡ true
    → (fits p.s q.s ≡ true) × (fits p.p q.p ≡ true) × (fits p.o q.o ≡ true) × (fits p.g q.g ≡ true)
unfolding matches
match_parts p q e =
    let g = and_parts (fits p.s q.s && fits p.p q.p && fits p.o q.o) (fits p.g q.g) e in
    let o = and_parts (fits p.s q.s && fits p.p q.p) (fits p.o q.o) g.0 in
    let s = and_parts (fits p.s q.s) (fits p.p q.p) o.0 in
    (s.0, s.1, o.1, g.1)

pub match_not_below : (p : Pattern) (q : Quad) → matches p q ≡ true → quad_below q (lowest_of p) ≡ false
unfolding quad_below
match_not_below p q e =
    let m = match_parts p q e in
    below_or_not q.s (number_or p.s 0) _ (fits_least p.s q.s m.0)
    (below_or_not q.p (number_or p.p 0) _ (fits_least p.p q.p m.1)
    (below_or_not q.o (number_or p.o 0) _ (fits_least p.o q.o m.2)
    (le-ltb q.g (number_or p.g 0) (fits_least p.g q.g m.3))))

matching-matches : (l : Listing) (p : Pattern) → each (matches p) (matching l p) ≡ true
unfolding matching
matching-matches l p = kept_passes (matches p) l.quads

-- all matching quads lie from the lowest mark on, and so from any mark below it
all_from : (l : Listing) (p : Pattern) (mark : Quad) → ((q : Quad) → matches p q ≡ true → quad_below q mark ≡ false) → not_below mark (matching l p) ≡ matching l p
unfolding not_below
all_from l p mark h =
    kept_all (λ q. not (quad_below q mark)) (matching l p) (each_weaker (matches p) (λ q. not (quad_below q mark)) (λ q e. not_from_false _ (h q e)) (matching l p) (matching-matches l p))

pub start_same : (l : Listing) (p : Pattern) (mark : Quad) → first_from l p (start_of p mark) ≡ first_from l p mark
unfolding first_from
start_same l p mark =
    ⊎_elim
    (λ t.
    let low = lowest_of p in
    let under : (q : Quad) → matches p q ≡ true → quad_below q mark ≡ false =
    λ q e. ⊎_elim (λ b. absurd (both_ways _ (match_not_below p q e) (quad_order.transitive q mark low b t))) (λ f. f) (cases_Bool (quad_below q mark)) in
    ap (λ m. foremost (not_below m (matching l p))) (cond-true (quad_below mark low) low mark t)
    ∙ ap foremost (all_from l p low (match_not_below p) ∙ sym (all_from l p mark under)))
    (λ f. ap (λ m. foremost (not_below m (matching l p))) (cond-false (quad_below mark (lowest_of p)) (lowest_of p) mark f))
    (cases_Bool (quad_below mark (lowest_of p)))

-- the four numbers of a quad with IDs
id_parts : (q : Quad) → has_ids q ≡ true → (q.s ≤ 1048576) × (q.p ≤ 1048576) × (q.o ≤ 1048576) × (q.g ≤ 1048576)
unfolding has_ids
id_parts q e =
    let g = and_parts (is_id q.s && is_id q.p && is_id q.o) (is_id q.g) e in
    let o = and_parts (is_id q.s && is_id q.p) (is_id q.o) g.0 in
    let s = and_parts (is_id q.s) (is_id q.p) o.0 in
    let most : (n : ℕ) → is_id n ≡ true → n ≤ 1048576 = λ n i. leb-true n 1048576 (and_parts (leb 1 n) (leb n 1048576) i).1 in
    (most q.s s.0, most q.p s.1, most q.o o.1, most q.g g.1)

pub match_not_above : (p : Pattern) (q : Quad) → has_ids q ≡ true → matches p q ≡ true → quad_below (highest_of p) q ≡ false
unfolding quad_below
match_not_above p q h e =
    let m = match_parts p q e in
    let i = id_parts q h in
    below_or_not (number_or p.s 4294967295) q.s _ (fits_most p.s q.s (omega (arith, i.0)) m.0)
    (below_or_not (number_or p.p 4294967295) q.p _ (fits_most p.p q.p (omega (arith, i.1)) m.1)
    (below_or_not (number_or p.o 4294967295) q.o _ (fits_most p.o q.o (omega (arith, i.2)) m.2)
    (le-ltb (number_or p.g 4294967295) q.g (fits_most p.g q.g (omega (arith, i.3)) m.3))))

-- the rest of a list from a place on
pub each-drop : {A : Type 0} (t : A → Bool) (n : ℕ) (xs : List A) → each t xs ≡ true → each t (drop n xs) ≡ true
each-drop t zero xs e = e
each-drop t (suc n) [] e = refl
each-drop t (suc n) (x ∷ xs) e = each-drop t n xs (and_parts _ _ e).1

sorted-drop : (n : ℕ) (xs : List Quad) → sorted quad_below quad_order xs ≡ true → sorted quad_below quad_order (drop n xs) ≡ true
sorted-drop zero xs e = e
sorted-drop (suc n) [] e = refl
sorted-drop (suc n) (x ∷ xs) e = sorted-drop n xs (and_parts _ _ e).1

pub ascends-drop : (n : ℕ) (xs : List Quad) → strictly_ascends quad_below xs ≡ true → strictly_ascends quad_below (drop n xs) ≡ true
ascends-drop n xs e = strictly_sorted quad_below quad_order (drop n xs) (sorted-drop n xs (sorted_strictly quad_below quad_order xs e))

-- past the highest mark nothing matches
none_above : (p : Pattern) (x : Quad) (rest : List Quad) → quad_below (highest_of p) x ≡ true → sorted quad_below quad_order (x ∷ rest) ≡ true → each has_ids (x ∷ rest) ≡ true → filter (matches p) (x ∷ rest) ≡ []
none_above p x rest b e ids =
    let unmatched : (y : Quad) → has_ids y ≡ true → quad_below (highest_of p) y ≡ true → not (matches p y) ≡ true =
    λ y h a. ⊎_elim (λ m. absurd (both_ways _ (match_not_above p y h m) a)) (λ n. not_from_false _ n) (cases_Bool (matches p y)) in
    kept_none (matches p) (x ∷ rest)
    (and_from _ _ (unmatched x (and_parts _ _ ids).0 b)
    (each_both has_ids (quad_below (highest_of p)) (λ y. not (matches p y)) unmatched rest (and_parts _ _ ids).1 (each_weaker (quad_below x) (quad_below (highest_of p)) (λ y a. quad_order.transitive (highest_of p) x y b a) rest (and_parts _ _ e).0)))

pub no_match_later : (p : Pattern) (qs : List Quad) (i : ℕ) (d : Quad) → strictly_ascends quad_below qs ≡ true → each has_ids qs ≡ true → i < length qs → quad_below (highest_of p) (get_or qs i d) ≡ true
    → foremost (filter (matches p) (drop i qs)) ≡ None
no_match_later p qs i d e ids h b =
    let here : drop i qs ≡ get_or qs i d ∷ drop (i + 1) qs = drop_more qs i d h in
    let ordered : sorted quad_below quad_order (get_or qs i d ∷ drop (i + 1) qs) ≡ true =
    subst (λ xs. sorted quad_below quad_order xs ≡ true) here (sorted-drop i qs (sorted_strictly quad_below quad_order qs e)) in
    let lawful : each has_ids (get_or qs i d ∷ drop (i + 1) qs) ≡ true = subst (λ xs. each has_ids xs ≡ true) here (each-drop has_ids i qs ids) in
    ap (λ xs. foremost (filter (matches p) xs)) here ∙ ap foremost (none_above p (get_or qs i d) (drop (i + 1) qs) b ordered lawful)
