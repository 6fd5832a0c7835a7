-- The width at which each of some numbers has room. Assumes nothing.
use Rattle.std.proofs.Common.{◌≡◌, ℕ, ◌-◌, ◌^◌, ◌<◌, ◌≤◌, Bool, true, false, ltb, List, [], ◌∷◌, Some, None, Option, sym, refl, ap, ◌∙◌, ⊎_elim, arith, pow_pos, pow_mono}
use Rattle.std.proofs.lemmas.Bool.{cases_lt, lt-ltb, le-ltb}
use Rattle.std.proofs.lemmas.Bool.Decides.{nat_tests}
use Rattle.ordered.specs.Lists.{first_place}
use Rattle.bits.proofs.FirstPlace.{first_is, first_not, first_found, none_before}
use Rattle.numbers.specs.NumberWords.{each_below, width_of, or_else}
use Rattle.numbers.specs.NumbersIn.{largest_of}

-- each number is below a power exactly if the largest is
each_largest : (v : ℕ) (numbers : List ℕ) → each_below v numbers ≡ ltb (largest_of numbers) (2 ^ v)
each_largest v [] = sym (lt-ltb 0 (2 ^ v) (pow_pos v))
each_largest v (n ∷ numbers) = grind (arith, nat_tests, each_largest v numbers)

module _ (numbers : List ℕ) where
  abbrev test : ℕ → Bool
  test v = each_below v numbers

  -- the width by the largest number
  pub width_is : (w : ℕ) → 1 ≤ w → w ≤ 32 → largest_of numbers < 2 ^ w → (1 < w → 2 ^ (w - 1) ≤ largest_of numbers) → w ≡ width_of numbers
  unfolding width_of
  width_is w wide narrow room least =
      ⊎_elim
      (λ l. ap (λ o. or_else o 32) (sym (first_is test 1 31 w wide (omega arith) (λ k low high. none k low high) (each_largest w numbers ∙ lt-ltb (largest_of numbers) (2 ^ w) room))))
      (λ l. let e : w ≡ 32 = omega arith in e ∙ ap (λ o. or_else o 32) (sym (first_not test 1 31 (λ k low high. none k low (omega arith)))))
      (cases_lt w 32)
    where
      none : (k : ℕ) → 1 ≤ k → k < w → each_below k numbers ≡ false
      none k low high =
          let grows : 2 ^ k ≤ 2 ^ (w - 1) = pow_mono (omega arith) in
          let some : 2 ^ (w - 1) ≤ largest_of numbers = least (omega arith) in
          each_largest k numbers ∙ le-ltb (largest_of numbers) (2 ^ k) (omega arith)

  -- the width is from 1 to 32, and each number has room in it
  pub width_holds : each_below 32 numbers ≡ true → (1 ≤ width_of numbers) × (width_of numbers ≤ 32) × (each_below (width_of numbers) numbers ≡ true)
  unfolding width_of
  width_holds below = go (first_place test 1 31) refl
    where
      go : (o : Option ℕ) → first_place test 1 31 ≡ o → (1 ≤ or_else o 32) × (or_else o 32 ≤ 32) × (each_below (or_else o 32) numbers ≡ true)
      go None e = (omega arith, omega arith, below)
      go (Some p) e = let found = first_found test 1 31 p e in (found.0, omega (arith, found.1), found.3)

  -- and it is the least such width
  pub width_least : (w : ℕ) → 1 ≤ w → w ≤ 32 → each_below w numbers ≡ true → width_of numbers ≤ w
  unfolding width_of
  width_least w wide narrow below = go (first_place test 1 31) refl
    where
      go : (o : Option ℕ) → first_place test 1 31 ≡ o → or_else o 32 ≤ w
      go None e = grind (arith, none_before test 1 31 e w wide)
      go (Some p) e = grind (arith, (first_found test 1 31 p e).2 w wide)
