-- The first place that passes a test, by the place itself. Assumes nothing.
use Rattle.std.proofs.Common.{◌≡◌, ℕ, zero, suc, ◌+◌, ◌-◌, ◌<◌, ◌≤◌, Bool, true, false, cond, Some, None, Option, sym, refl, ap, ◌∙◌, subst, ⊎_elim, arith}
use Rattle.std.proofs.lemmas.Bool.{cond-true, cond-false, cases_Bool, cases_order, cases_lt}
use Rattle.ordered.specs.Lists.{first_place}
use Rattle.ordered.proofs.Lists.{no_place, some_place}

module _ (test : ℕ → Bool) where
  pub first_is : (i n p : ℕ) → i ≤ p → p < i + n → ((k : ℕ) → i ≤ k → k < p → test k ≡ false) → test p ≡ true → first_place test i n ≡ Some p
  first_is i n p low high none here =
      let e : i + (p - i) ≡ p = omega arith in
      some_place test i n (p - i) (omega arith) (λ k l. none (i + k) (omega arith) (omega arith)) (subst (λ k. test k ≡ true) (sym e) here) ∙ ap Some e

  pub first_not : (i n : ℕ) → ((k : ℕ) → i ≤ k → k < i + n → test k ≡ false) → first_place test i n ≡ None
  first_not i n none = no_place test i n (λ k l. none (i + k) (omega arith) (omega arith))

  -- what a search tells of the places that it passed
  pub none_before : (i n : ℕ) → first_place test i n ≡ None → (k : ℕ) → i ≤ k → k < i + n → test k ≡ false
  none_before i zero e k low high = absurd (omega arith)
  none_before i (suc n) e k low high =
      ⊎_elim
      (λ t. let f : Some i ≡ None = sym (cond-true (test i) (Some i) (first_place test (i + 1) n) t) ∙ e in let z : ◌≡◌ {A = ℕ} 0 1 = cc in absurd (omega arith))
      (λ f.
      ⊎_elim
      (λ s. subst (λ j. test j ≡ false) s f)
      (λ w. none_before (i + 1) n (sym (cond-false (test i) (Some i) (first_place test (i + 1) n) f) ∙ e) k (⊎_elim (λ l. omega arith) (λ l. omega arith) w) (omega arith))
      (cases_order i k))
      (cases_Bool (test i))

  pub first_found : (i n p : ℕ) → first_place test i n ≡ Some p → (i ≤ p) × (p < i + n) × ((k : ℕ) → i ≤ k → k < p → test k ≡ false) × (test p ≡ true)
  first_found i zero p e = let z : ◌≡◌ {A = ℕ} 0 1 = cc in absurd (omega arith)
  first_found i (suc n) p e =
      ⊎_elim
      (λ t.
      let f : Some i ≡ Some p = sym (cond-true (test i) (Some i) (first_place test (i + 1) n) t) ∙ e in
      let s : i ≡ p = cc in
      (omega arith, omega arith, λ k a b. absurd (omega arith), subst (λ j. test j ≡ true) s t))
      (λ f.
      let later = first_found (i + 1) n p (sym (cond-false (test i) (Some i) (first_place test (i + 1) n) f) ∙ e) in (
        omega (arith, later.0),
        omega (arith, later.1),
        λ k a b. ⊎_elim (λ s. subst (λ j. test j ≡ false) s f) (λ w. later.2 k (⊎_elim (λ l. omega arith) (λ l. omega arith) w) b) (cases_order i k),
        later.3,
      ))
      (cases_Bool (test i))

  -- a search may begin after places that fail, and end before places that fail
  pub first_skip : (i m n : ℕ) → i ≤ m → m ≤ i + n → ((k : ℕ) → i ≤ k → k < m → test k ≡ false) → first_place test i n ≡ first_place test m (i + n - m)
  first_skip i m n low high none = go (first_place test m (i + n - m)) refl
    where
      go : (r : Option ℕ) → first_place test m (i + n - m) ≡ r → first_place test i n ≡ first_place test m (i + n - m)
      go None e =
          first_not i n (λ k a b. ⊎_elim (λ l. none k a l) (λ l. none_before m (i + n - m) e k l (omega arith)) (cases_lt k m)) ∙ sym e
      go (Some p) e =
          let found = first_found m (i + n - m) p e in
          first_is i n p (omega (arith, found.0)) (omega (arith, found.1)) (λ k a b. ⊎_elim (λ l. none k a l) (λ l. found.2 k l b) (cases_lt k m)) found.3 ∙ sym e

  pub first_longer : (i m n : ℕ) → m ≤ n → ((k : ℕ) → i + m ≤ k → k < i + n → test k ≡ false) → first_place test i n ≡ first_place test i m
  first_longer i m n h none = go (first_place test i m) refl
    where
      go : (r : Option ℕ) → first_place test i m ≡ r → first_place test i n ≡ first_place test i m
      go None e = first_not i n (λ k a b. ⊎_elim (λ l. none_before i m e k a l) (λ l. none k l b) (cases_lt k (i + m))) ∙ sym e
      go (Some p) e =
          let found = first_found i m p e in
          first_is i n p found.0 (omega (arith, found.1)) found.2 found.3 ∙ sym e

  pub first_within : (i m n p : ℕ) → m ≤ n → first_place test i m ≡ Some p → first_place test i n ≡ Some p
  first_within i m n p h e =
      let found = first_found i m p e in
      first_is i n p found.0 (omega (arith, found.1)) found.2 found.3

-- two tests that agree find the same
pub first_same : (s t : ℕ → Bool) → ((k : ℕ) → s k ≡ t k) → (i n : ℕ) → first_place s i n ≡ first_place t i n
first_same s t h i zero = refl
first_same s t h i (suc n) = ap (λ b. cond b (Some i) (first_place s (i + 1) n)) (h i) ∙ ap (cond (t i) (Some i)) (first_same s t h (i + 1) n)
