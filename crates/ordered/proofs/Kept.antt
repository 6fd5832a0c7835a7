-- What a filter keeps of an ascending list. Assumes nothing.
use Rattle.std.proofs.Common.{◌≡◌, suc, Bool, true, false, not, List, [], ◌∷◌, drop, filter, sym, refl, ap, ◌∙◌, ⊎_elim}
use Rattle.std.proofs.lemmas.Bool.{and_parts, and_from, cases_Bool, cond-true, cond-false, not-true, not_from_true, not_from_false, both_ways}
use Rattle.ordered.specs.Order.{TotalOrder, ascends, strictly_ascends, first_not_below}
use Rattle.ordered.proofs.Places.{not_above_below, ascends_tail}

pub kept_yes : {A : Type 0} (test : A → Bool) (x : A) (xs : List A) → test x ≡ true → filter test (x ∷ xs) ≡ x ∷ filter test xs
kept_yes test x xs e = cond-true (test x) _ _ e

pub kept_no : {A : Type 0} (test : A → Bool) (x : A) (xs : List A) → test x ≡ false → filter test (x ∷ xs) ≡ filter test xs
kept_no test x xs e = cond-false (test x) _ _ e

-- two filters, in either order
pub kept_kept : {A : Type 0} (s t : A → Bool) (xs : List A) → filter s (filter t xs) ≡ filter t (filter s xs)
kept_kept s t [] = refl
kept_kept s t (x ∷ xs) =
    let ih = kept_kept s t xs in
    ⊎_elim
    (λ a. ⊎_elim
    (λ b. ap (filter s) (kept_yes t x xs b) ∙ kept_yes s x _ a ∙ ap (λ ys. x ∷ ys) ih ∙ sym (ap (filter t) (kept_yes s x xs a) ∙ kept_yes t x _ b))
    (λ b. ap (filter s) (kept_no t x xs b) ∙ ih ∙ sym (ap (filter t) (kept_yes s x xs a) ∙ kept_no t x _ b))
    (cases_Bool (t x)))
    (λ a. ⊎_elim
    (λ b. ap (filter s) (kept_yes t x xs b) ∙ kept_no s x _ a ∙ ih ∙ sym (ap (filter t) (kept_no s x xs a)))
    (λ b. ap (filter s) (kept_no t x xs b) ∙ ih ∙ sym (ap (filter t) (kept_no s x xs a)))
    (cases_Bool (t x)))
    (cases_Bool (s x))

module _ {A : Type 0} (below : A → A → Bool) (order : TotalOrder below) where
  pub not_both : (x y : A) → below x y ≡ true → below y x ≡ false
  not_both x y e = ⊎_elim (λ f. absurd (both_ways _ (order.irreflexive x) (order.transitive x y x e f))) (λ f. f) (cases_Bool (below y x))

  pub ascends_strictly : (xs : List A) → strictly_ascends below xs ≡ true → ascends below xs ≡ true
  ascends_strictly [] e = refl
  ascends_strictly (x ∷ []) e = refl
  ascends_strictly (x ∷ (y ∷ ys)) e =
      and_from _ _ (not_from_false _ (not_both x y (and_parts _ _ e).0)) (ascends_strictly (y ∷ ys) (and_parts _ _ e).1)

  all_kept : (key x : A) (xs : List A) → ascends below (x ∷ xs) ≡ true → below x key ≡ false → filter (λ y. not (below y key)) (x ∷ xs) ≡ x ∷ xs
  all_kept key x [] a f = kept_yes (λ y. not (below y key)) x [] (not_from_false _ f)
  all_kept key x (y ∷ ys) a f =
      let still : below y key ≡ false = ⊎_elim (λ t. absurd (both_ways _ f (not_above_below below order x y key (not-true _ (and_parts _ _ a).0) t))) (λ e. e) (cases_Bool (below y key)) in
      kept_yes (λ y. not (below y key)) x (y ∷ ys) (not_from_false _ f) ∙ ap (λ zs. x ∷ zs) (all_kept key y ys (and_parts _ _ a).1 still)

  -- what is not below a key is what stands from its place on
  pub kept_from_place : (key : A) (xs : List A) → ascends below xs ≡ true → filter (λ y. not (below y key)) xs ≡ drop (first_not_below below key xs) xs
  kept_from_place key [] a = refl
  kept_from_place key (x ∷ xs) a =
      ⊎_elim
      (λ t. kept_no (λ y. not (below y key)) x xs (not_from_true _ t) ∙ kept_from_place key xs (ascends_tail below order x xs a) ∙ ap (λ n. drop n (x ∷ xs)) (sym (cond-true (below x key) _ 0 t)))
      (λ f. all_kept key x xs a f ∙ ap (λ n. drop n (x ∷ xs)) (sym (cond-false (below x key) (suc (first_not_below below key xs)) 0 f)))
      (cases_Bool (below x key))
