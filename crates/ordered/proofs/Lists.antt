-- Laws of the words about lists, place by place. Assumes nothing.
use Rattle.std.proofs.Common.{◌≡◌, ℕ, zero, suc, ◌+◌, ◌<◌, Bool, true, false, List, [], ◌∷◌, length, get_or, Some, None, sym, refl, ap, ◌∙◌, subst, add-zero, add-one, arith}
use Rattle.std.proofs.lemmas.Bool.{and_parts, and_from, cond-true, cond-false}
use Rattle.ordered.specs.Lists.{each, first_place}
use Rattle.ordered.specs.Order.{chained}

module _ {A : Type 0} (test : A → Bool) where
  pub each_place : (xs : List A) (i : ℕ) (d : A) → each test xs ≡ true → i < length xs → test (get_or xs i d) ≡ true
  each_place [] i d e h = absurd (omega arith)
  each_place (x ∷ xs) zero d e h = (and_parts _ _ e).0
  each_place (x ∷ xs) (suc i) d e h = each_place xs i d (and_parts _ _ e).1 (omega arith)

  pub each_from_places : (xs : List A) (d : A) → ((i : ℕ) → i < length xs → test (get_or xs i d) ≡ true) → each test xs ≡ true
  each_from_places [] d h = refl
  each_from_places (x ∷ xs) d h = and_from _ _ (h 0 (omega arith)) (each_from_places xs d (λ i l. h (suc i) (omega arith)))

module _ {A : Type 0} (test : A → A → Bool) where
  pub chained_place : (xs : List A) (i : ℕ) (d : A) → chained test xs ≡ true → i + 1 < length xs → test (get_or xs i d) (get_or xs (i + 1) d) ≡ true
  chained_place [] i d e h = absurd (omega arith)
  chained_place (x ∷ []) i d e h = absurd (omega arith)
  chained_place (x ∷ (y ∷ ys)) zero d e h = (and_parts _ _ e).0
  chained_place (x ∷ (y ∷ ys)) (suc i) d e h =
      rw (add-one (suc i)) (rw (add-one i) at (chained_place (y ∷ ys) i d (and_parts _ _ e).1 (omega arith)))

  pub chained_from_places : (xs : List A) (d : A) → ((i : ℕ) → i + 1 < length xs → test (get_or xs i d) (get_or xs (i + 1) d) ≡ true) → chained test xs ≡ true
  chained_from_places [] d h = refl
  chained_from_places (x ∷ []) d h = refl
  chained_from_places (x ∷ (y ∷ ys)) d h =
      and_from _ _ (h 0 (omega arith))
      (chained_from_places (y ∷ ys) d (λ i l. rw (add-one i) (rw (add-one (suc i)) at (h (suc i) (omega arith)))))

module _ (test : ℕ → Bool) where
  pub no_place : (i n : ℕ) → ((k : ℕ) → k < n → test (i + k) ≡ false) → first_place test i n ≡ None
  no_place i zero h = refl
  no_place i (suc n) h =
      cond-false _ _ _ (subst (λ k. test k ≡ false) (add-zero i) (h 0 (omega arith)))
      ∙ no_place (i + 1) n (λ k l. let e : i + suc k ≡ i + 1 + k = omega arith in subst (λ k. test k ≡ false) e (h (suc k) (omega arith)))

  pub some_place : (i n j : ℕ) → j < n → ((k : ℕ) → k < j → test (i + k) ≡ false) → test (i + j) ≡ true → first_place test i n ≡ Some (i + j)
  some_place i zero j l h t = absurd (omega arith)
  some_place i (suc n) zero l h t =
      cond-true _ _ _ (subst (λ k. test k ≡ true) (add-zero i) t) ∙ ap Some (sym (add-zero i))
  some_place i (suc n) (suc j) l h t =
      let e : i + 1 + j ≡ i + suc j = omega arith in
      cond-false _ _ _ (subst (λ k. test k ≡ false) (add-zero i) (h 0 (omega arith)))
      ∙ some_place (i + 1) n j (omega arith) (λ k m. let f : i + suc k ≡ i + 1 + k = omega arith in subst (λ k. test k ≡ false) f (h (suc k) (omega arith))) (subst (λ k. test k ≡ true) (sym e) t)
      ∙ ap Some e
