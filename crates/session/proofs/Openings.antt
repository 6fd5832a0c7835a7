-- What one more call leaves of an opening. Assumes nothing.
use Rattle.std.proofs.Common.{◌≡◌, ℕ, Bool, true, false, not, ◌&&◌, ◌||◌, eqb, List, [], ◌∷◌, ◌++◌, filter, sym, refl, ap, ◌∙◌, subst, ⊎_elim}
use Rattle.std.proofs.lemmas.Bool.{and_parts, and_from, and_left, and_right, cases_Bool, both_ways, eqb-true, eq-eqb, not-true, not_from_true, not_from_false}
use Rattle.ordered.proofs.Kept.{kept_yes, kept_no}
use Rattle.ordered.proofs.Sorted.{sorted, kept_all, kept_same, kept_within, each_weaker}
use Rattle.quads.specs.Quads.{quad_below, same_quad}
use Rattle.quads.specs.QuadOrder.{quad_order}
use Rattle.quads.specs.Listings.{Listing, matching, not_below}
use Rattle.quads.specs.declared.quad.Quad.{Quad}
use Rattle.session.specs.Histories.{Step, gives, ends, seeks, Opening, has, given, jumped, left}

-- quads by their numbers
pub same_quad_true : (x y : Quad) → same_quad x y ≡ true → x ≡ y
unfolding same_quad
same_quad_true x y e =
    let g = and_parts (eqb x.s y.s && eqb x.p y.p && eqb x.o y.o) (eqb x.g y.g) e in
    let o = and_parts (eqb x.s y.s && eqb x.p y.p) (eqb x.o y.o) g.0 in
    let p = and_parts (eqb x.s y.s) (eqb x.p y.p) o.0 in
    λ i. record { s = eqb-true _ _ p.0 i; p = eqb-true _ _ p.1 i; o = eqb-true _ _ o.1 i; g = eqb-true _ _ g.1 i }

pub same_quad_refl : (x : Quad) → same_quad x x ≡ true
unfolding same_quad
same_quad_refl x =
    let same : (n : ℕ) → eqb n n ≡ true = λ n. eq-eqb n n refl in
    and_from _ _ (and_from _ _ (and_from _ _ (same x.s) (same x.p)) (same x.o)) (same x.g)

pub above_not_same : (q x : Quad) → quad_below q x ≡ true → same_quad x q ≡ false
above_not_same q x b =
    ⊎_elim
    (λ t. absurd (both_ways _ (quad_order.irreflexive q) (subst (λ y. quad_below q y ≡ true) (same_quad_true x q t) b)))
    (λ f. f)
    (cases_Bool (same_quad x q))

or_assoc : (a b c : Bool) → ((a || b) || c) ≡ (a || (b || c))
or_assoc true b c = refl
or_assoc false b c = refl

pub has-append : (xs ys : List Quad) (q : Quad) → has (xs ++ ys) q ≡ (has xs q || has ys q)
has-append [] ys q = refl
has-append (x ∷ xs) ys q = ap (λ b. same_quad q x || b) (has-append xs ys q) ∙ sym (or_assoc (same_quad q x) (has xs q) (has ys q))

-- one filter after the other
pub kept_and : {A : Type 0} (s t : A → Bool) (xs : List A) → filter (λ x. s x && t x) xs ≡ filter t (filter s xs)
kept_and s t [] = refl
kept_and s t (x ∷ xs) =
    let ih = kept_and s t xs in
    ⊎_elim
    (λ a. ⊎_elim
    (λ b. kept_yes (λ y. s y && t y) x xs (and_from _ _ a b) ∙ ap (λ ys. x ∷ ys) ih ∙ sym (ap (filter t) (kept_yes s x xs a) ∙ kept_yes t x _ b))
    (λ b. kept_no (λ y. s y && t y) x xs (and_right _ _ b) ∙ ih ∙ sym (ap (filter t) (kept_yes s x xs a) ∙ kept_no t x _ b))
    (cases_Bool (t x)))
    (λ a. kept_no (λ y. s y && t y) x xs (and_left _ _ a) ∙ ih ∙ sym (ap (filter t) (kept_no s x xs a)))
    (cases_Bool (s x))

next_test : (g s j : Bool) → (not (g || (s || false)) && not j) ≡ ((not g && not j) && not s)
next_test true true true = refl
next_test true true false = refl
next_test true false true = refl
next_test true false false = refl
next_test false true true = refl
next_test false true false = refl
next_test false false true = refl
next_test false false false = refl

seek_test : (g j b : Bool) → (not g && not (j || (b && not g))) ≡ ((not g && not j) && not b)
seek_test true true true = refl
seek_test true true false = refl
seek_test true false true = refl
seek_test true false false = refl
seek_test false true true = refl
seek_test false true false = refl
seek_test false false true = refl
seek_test false false false = refl

-- the opening one step on
abbrev pub further : Step → Opening → Opening
further s w = record { pattern = w.pattern; steps = s ∷ w.steps }

module _ (l : Listing) (w : Opening) where
  -- a next that answered end
  pub end_left : left l (further ends w) ≡ left l w
  unfolding left given jumped
  end_left = refl

  pub end_given : given (ends ∷ w.steps) ≡ given w.steps
  unfolding given
  end_given = refl

  -- a next that gave a quad
  pub next_given : (q : Quad) → given (gives q ∷ w.steps) ≡ given w.steps ++ q ∷ []
  unfolding given
  next_given q = refl

  pub next_left : (q : Quad) → left l (further (gives q) w) ≡ filter (λ x. not (same_quad x q)) (left l w)
  unfolding left jumped
  next_left q =
      kept_same (λ x. not (has (given (gives q ∷ w.steps)) x) && not (jumped (gives q ∷ w.steps) x)) (λ x. (not (has (given w.steps) x) && not (jumped w.steps x)) && not (same_quad x q))
      (λ x.
      ap (λ xs. not (has xs x) && not (jumped w.steps x)) (next_given q)
      ∙ ap (λ b. not b && not (jumped w.steps x)) (has-append (given w.steps) (q ∷ []) x)
      ∙ next_test (has (given w.steps) x) (same_quad x q) (jumped w.steps x))
      (matching l w.pattern)
      ∙ kept_and (λ x. not (has (given w.steps) x) && not (jumped w.steps x)) (λ x. not (same_quad x q)) (matching l w.pattern)

  -- a seek
  pub seek_given : (mark : Quad) → given (seeks mark ∷ w.steps) ≡ given w.steps
  unfolding given
  seek_given mark = refl

  pub seek_left : (mark : Quad) → left l (further (seeks mark) w) ≡ filter (λ x. not (quad_below x mark)) (left l w)
  unfolding left given jumped
  seek_left mark =
      kept_same (λ x. not (has (given w.steps) x) && not (jumped (seeks mark ∷ w.steps) x)) (λ x. (not (has (given w.steps) x) && not (jumped w.steps x)) && not (quad_below x mark))
      (λ x. seek_test (has (given w.steps) x) (jumped w.steps x) (quad_below x mark))
      (matching l w.pattern)
      ∙ kept_and (λ x. not (has (given w.steps) x) && not (jumped w.steps x)) (λ x. not (quad_below x mark)) (matching l w.pattern)

-- the first of an ascending list taken away
pub kept_others : (q : Quad) (rest : List Quad) → sorted quad_below quad_order (q ∷ rest) ≡ true → filter (λ x. not (same_quad x q)) (q ∷ rest) ≡ rest
kept_others q rest e =
    kept_no (λ x. not (same_quad x q)) q rest (not_from_true _ (same_quad_refl q))
    ∙ kept_all (λ x. not (same_quad x q)) rest (each_weaker (quad_below q) (λ x. not (same_quad x q)) (λ x b. not_from_false _ (above_not_same q x b)) rest (and_parts _ _ e).0)

-- a mark that is not below another
pub below_later : (x mark to : Quad) → quad_below to mark ≡ false → quad_below x mark ≡ true → quad_below x to ≡ true
below_later x mark to n b =
    ⊎_elim
    (λ t. quad_order.transitive x mark to b t)
    (λ f. subst (λ m. quad_below x m ≡ true) (quad_order.connected mark to f n) b)
    (cases_Bool (quad_below mark to))

pub not_below_later : (mark to : Quad) (qs : List Quad) → quad_below to mark ≡ false → filter (λ x. not (quad_below x to)) (not_below mark qs) ≡ not_below to qs
unfolding not_below
not_below_later mark to qs n =
    kept_within (λ x. not (quad_below x to)) (λ x. not (quad_below x mark))
    (λ x e. ⊎_elim (λ t. absurd (both_ways _ (not-true _ e) (below_later x mark to n t))) (λ f. not_from_false _ f) (cases_Bool (quad_below x mark)))
    qs
