-- Lists of entries that have an order, given as the test "the first is below the second". Assumes nothing.
use Rattle.std.specs.Prelude.{◌≡◌, ℕ, suc, Bool, true, false, cond, not, ◌&&◌, List, [], ◌∷◌}

-- what makes the test `below` a strict total order: nothing is below itself, an entry below another is below all that this
-- one is below, and of two entries neither of which is below the other there is only one
pub record TotalOrder {A : Type 0} (below : A → A → Bool) : Type 0 where
  pub irreflexive : (x : A) → below x x ≡ false
  pub transitive : (x y z : A) → below x y ≡ true → below y z ≡ true → below x z ≡ true
  pub connected : (x y : A) → below x y ≡ false → below y x ≡ false → x ≡ y

-- the test holds of each entry and the one right after it
abbrev pub chained : {A : Type 0} → (A → A → Bool) → List A → Bool
chained test [] = true
chained test (x ∷ []) = true
chained test (x ∷ (y ∷ ys)) = test x y && chained test (y ∷ ys)

-- no entry is below the one before it; neighbours may tie
abbrev pub ascends : {A : Type 0} → (A → A → Bool) → List A → Bool
ascends below xs = chained (λ x y. not (below y x)) xs

-- each entry is strictly above the one before it
abbrev pub strictly_ascends : {A : Type 0} → (A → A → Bool) → List A → Bool
strictly_ascends below xs = chained below xs

-- the place of the first entry that is not below the key, counted from 0; the length where every entry is below it
abbrev pub first_not_below : {A : Type 0} → (A → A → Bool) → A → List A → ℕ
first_not_below below key [] = 0
first_not_below below key (x ∷ xs) = cond (below x key) (suc (first_not_below below key xs)) 0
