-- Words about lists of any kind. Assumes nothing.
use Rattle.std.specs.Prelude.{ℕ, zero, suc, ◌+◌, Bool, true, cond, ◌&&◌, List, [], ◌∷◌, Some, None, Option}

-- the test holds of every entry
abbrev pub each : {A : Type 0} → (A → Bool) → List A → Bool
each test [] = true
each test (x ∷ xs) = test x && each test xs

-- the first entry, or none
abbrev pub foremost : {A : Type 0} → List A → Option A
foremost [] = None
foremost (x ∷ xs) = Some x

-- the first place from i on, among the next n, where the test holds, or none
abbrev pub first_place : (ℕ → Bool) → ℕ → ℕ → Option ℕ
first_place test i zero = None
first_place test i (suc n) = cond (test i) (Some i) (first_place test (i + 1) n)
