-- A test of each number of a range. Assumes nothing.
use Rattle.std.proofs.Common.{◌≡◌, ℕ, zero, suc, ◌+◌, ◌<◌, ◌≤◌, Bool, true, false, sym, refl, subst, ⊎_elim, arith}
use Rattle.std.specs.List.{range_with_len}
use Rattle.std.proofs.lemmas.Bool.{and_parts, and_from, and_left, and_right, cases_order}
use Rattle.ordered.specs.Lists.{each}

module _ (test : ℕ → Bool) where
  pub each_from_range : (a n : ℕ) → ((k : ℕ) → a ≤ k → k < a + n → test k ≡ true) → each test (range_with_len a n) ≡ true
  each_from_range a zero h = refl
  each_from_range a (suc n) h = and_from _ _ (h a (omega arith) (omega arith)) (each_from_range (a + 1) n (λ k low high. h k (omega arith) (omega arith)))

  pub each_range : (a n : ℕ) → each test (range_with_len a n) ≡ true → (k : ℕ) → a ≤ k → k < a + n → test k ≡ true
  each_range a zero e k low high = absurd (omega arith)
  each_range a (suc n) e k low high =
      ⊎_elim
      (λ s. subst (λ j. test j ≡ true) s (and_parts _ _ e).0)
      (λ w. each_range (a + 1) n (and_parts _ _ e).1 k (⊎_elim (λ l. omega arith) (λ l. omega arith) w) (omega arith))
      (cases_order a k)

  pub each_fails : (a n k : ℕ) → a ≤ k → k < a + n → test k ≡ false → each test (range_with_len a n) ≡ false
  each_fails a zero k low high f = absurd (omega arith)
  each_fails a (suc n) k low high f =
      ⊎_elim
      (λ s. and_left _ _ (subst (λ j. test j ≡ false) (sym s) f))
      (λ w. and_right _ _ (each_fails (a + 1) n k (⊎_elim (λ l. omega arith) (λ l. omega arith) w) (omega arith) f))
      (cases_order a k)
