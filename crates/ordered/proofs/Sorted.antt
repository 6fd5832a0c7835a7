-- A strictly ascending list by its first entry and the rest, and what filters leave of one. Assumes nothing.
use Rattle.std.proofs.Common.{◌≡◌, Bool, true, false, not, ◌&&◌, List, [], ◌∷◌, ◌++◌, filter, sym, refl, ap, ◌∙◌, subst, ⊎_elim}
use Rattle.std.proofs.lemmas.Bool.{and_parts, and_from, cases_Bool, not-true, not_from_false, both_ways}
use Rattle.ordered.specs.Lists.{each}
use Rattle.ordered.specs.Order.{TotalOrder, strictly_ascends}
use Rattle.ordered.proofs.Kept.{kept_yes, kept_no}

-- every entry passes, or none does
pub kept_all : {A : Type 0} (test : A → Bool) (xs : List A) → each test xs ≡ true → filter test xs ≡ xs
kept_all test [] e = refl
kept_all test (x ∷ xs) e = kept_yes test x xs (and_parts _ _ e).0 ∙ ap (λ ys. x ∷ ys) (kept_all test xs (and_parts _ _ e).1)

pub kept_none : {A : Type 0} (test : A → Bool) (xs : List A) → each (λ x. not (test x)) xs ≡ true → filter test xs ≡ []
kept_none test [] e = refl
kept_none test (x ∷ xs) e = kept_no test x xs (not-true _ (and_parts _ _ e).0) ∙ kept_none test xs (and_parts _ _ e).1

pub each_weaker : {A : Type 0} (s t : A → Bool) → ((x : A) → s x ≡ true → t x ≡ true) → (xs : List A) → each s xs ≡ true → each t xs ≡ true
each_weaker s t h [] e = refl
each_weaker s t h (x ∷ xs) e = and_from _ _ (h x (and_parts _ _ e).0) (each_weaker s t h xs (and_parts _ _ e).1)

pub each_kept : {A : Type 0} (s t : A → Bool) (xs : List A) → each s xs ≡ true → each s (filter t xs) ≡ true
each_kept s t [] e = refl
each_kept s t (x ∷ xs) e =
    let ih = each_kept s t xs (and_parts _ _ e).1 in
    ⊎_elim
    (λ y. subst (λ zs. each s zs ≡ true) (sym (kept_yes t x xs y)) (and_from _ _ (and_parts _ _ e).0 ih))
    (λ n. subst (λ zs. each s zs ≡ true) (sym (kept_no t x xs n)) ih)
    (cases_Bool (t x))

-- what is kept passes
pub kept_passes : {A : Type 0} (test : A → Bool) (xs : List A) → each test (filter test xs) ≡ true
kept_passes test [] = refl
kept_passes test (x ∷ xs) =
    ⊎_elim
    (λ y. subst (λ zs. each test zs ≡ true) (sym (kept_yes test x xs y)) (and_from _ _ y (kept_passes test xs)))
    (λ n. subst (λ zs. each test zs ≡ true) (sym (kept_no test x xs n)) (kept_passes test xs))
    (cases_Bool (test x))

pub each_append : {A : Type 0} (t : A → Bool) (xs ys : List A) → each t xs ≡ true → each t ys ≡ true → each t (xs ++ ys) ≡ true
each_append t [] ys h k = k
each_append t (x ∷ xs) ys h k = and_from _ _ (and_parts _ _ h).0 (each_append t xs ys (and_parts _ _ h).1 k)

pub each_both : {A : Type 0} (s t u : A → Bool) → ((x : A) → s x ≡ true → t x ≡ true → u x ≡ true) → (xs : List A) → each s xs ≡ true → each t xs ≡ true → each u xs ≡ true
each_both s t u f [] h k = refl
each_both s t u f (x ∷ xs) h k =
    and_from _ _ (f x (and_parts _ _ h).0 (and_parts _ _ k).0) (each_both s t u f xs (and_parts _ _ h).1 (and_parts _ _ k).1)

-- two tests that agree keep the same
pub kept_same : {A : Type 0} (s t : A → Bool) → ((x : A) → s x ≡ t x) → (xs : List A) → filter s xs ≡ filter t xs
kept_same s t h [] = refl
kept_same s t h (x ∷ xs) =
    ⊎_elim
    (λ y. kept_yes s x xs y ∙ ap (λ ys. x ∷ ys) (kept_same s t h xs) ∙ sym (kept_yes t x xs (sym (h x) ∙ y)))
    (λ n. kept_no s x xs n ∙ kept_same s t h xs ∙ sym (kept_no t x xs (sym (h x) ∙ n)))
    (cases_Bool (s x))

-- where what passes one test passes the other too, the other may go first
pub kept_within : {A : Type 0} (s t : A → Bool) → ((x : A) → s x ≡ true → t x ≡ true) → (xs : List A) → filter s (filter t xs) ≡ filter s xs
kept_within s t h [] = refl
kept_within s t h (x ∷ xs) =
    let ih = kept_within s t h xs in
    ⊎_elim
    (λ y. ap (filter s) (kept_yes t x xs (h x y)) ∙ kept_yes s x _ y ∙ ap (λ ys. x ∷ ys) ih ∙ sym (kept_yes s x xs y))
    (λ n. ⊎_elim
    (λ y. ap (filter s) (kept_yes t x xs y) ∙ kept_no s x _ n ∙ ih ∙ sym (kept_no s x xs n))
    (λ m. ap (filter s) (kept_no t x xs m) ∙ ih ∙ sym (kept_no s x xs n))
    (cases_Bool (t x)))
    (cases_Bool (s x))

module _ {A : Type 0} (below : A → A → Bool) (order : TotalOrder below) where
  -- each entry is below all that come after it
  abbrev pub sorted : List A → Bool
  sorted [] = true
  sorted (x ∷ xs) = each (below x) xs && sorted xs

  pub sorted_strictly : (xs : List A) → strictly_ascends below xs ≡ true → sorted xs ≡ true
  sorted_strictly [] e = refl
  sorted_strictly (x ∷ []) e = refl
  sorted_strictly (x ∷ (y ∷ ys)) e =
      let first = (and_parts _ _ e).0 in
      let rest = sorted_strictly (y ∷ ys) (and_parts _ _ e).1 in
      and_from _ _
      (and_from _ _ first (each_weaker (below y) (below x) (λ z. order.transitive x y z first) ys (and_parts _ _ rest).0))
      rest

  pub strictly_sorted : (xs : List A) → sorted xs ≡ true → strictly_ascends below xs ≡ true
  strictly_sorted [] e = refl
  strictly_sorted (x ∷ []) e = refl
  strictly_sorted (x ∷ (y ∷ ys)) e =
      and_from _ _ (and_parts _ _ (and_parts _ _ e).0).0 (strictly_sorted (y ∷ ys) (and_parts _ _ e).1)

  pub sorted_kept : (t : A → Bool) (xs : List A) → sorted xs ≡ true → sorted (filter t xs) ≡ true
  sorted_kept t [] e = refl
  sorted_kept t (x ∷ xs) e =
      let ih = sorted_kept t xs (and_parts _ _ e).1 in
      ⊎_elim
      (λ y. subst (λ zs. sorted zs ≡ true) (sym (kept_yes t x xs y)) (and_from _ _ (each_kept (below x) t xs (and_parts _ _ e).0) ih))
      (λ n. subst (λ zs. sorted zs ≡ true) (sym (kept_no t x xs n)) ih)
      (cases_Bool (t x))

  -- the first entry not below a key, and what is above it
  pub kept_above : (key q : A) (xs rest : List A) → sorted xs ≡ true → filter (λ x. not (below x key)) xs ≡ q ∷ rest → filter (below q) xs ≡ rest
  kept_above key q xs rest e h =
      let from : A → Bool = λ x. not (below x key) in
      let kept : sorted (q ∷ rest) ≡ true = subst (λ zs. sorted zs ≡ true) h (sorted_kept from xs e) in
      let head : from q ≡ true = (and_parts _ _ (subst (λ zs. each from zs ≡ true) h (kept_passes from xs))).0 in
      let later : (x : A) → below q x ≡ true → from x ≡ true =
      λ x b. ⊎_elim (λ t. absurd (both_ways _ (not-true _ head) (order.transitive q x key b t))) (λ f. not_from_false _ f) (cases_Bool (below x key)) in
      sym (kept_within (below q) from later xs)
      ∙ ap (filter (below q)) h
      ∙ kept_no (below q) q rest (order.irreflexive q)
      ∙ kept_all (below q) rest (and_parts _ _ kept).0

  -- nothing of an ascending list is below what its first entry is not below
  pub kept_none_below : (key q : A) (rest : List A) → sorted (q ∷ rest) ≡ true → below q key ≡ false → filter (λ x. below x key) (q ∷ rest) ≡ []
  kept_none_below key q rest e f =
      kept_none (λ x. below x key) (q ∷ rest)
      (and_from _ _ (not_from_false _ f)
      (each_weaker (below q) (λ x. not (below x key)) (λ x b. ⊎_elim (λ t. absurd (both_ways _ f (order.transitive q x key b t))) (λ n. not_from_false _ n) (cases_Bool (below x key))) rest (and_parts _ _ e).0))
