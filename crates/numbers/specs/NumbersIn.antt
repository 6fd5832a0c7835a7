-- The numbers that lie packed in words, and the largest of some numbers. Assumes nothing.
use Rattle.std.specs.Prelude.{◌≡◌, ℕ, ◌+◌, ◌*◌, max, List, [], ◌∷◌, map}
use Rattle.std.specs.List.{range_with_len}
use Rattle.bits.specs.Words.{bit_at, number_of}
use Rattle.numbers.specs.NumberWords.{width_of}

-- number i of those that lie in the words with w bits each
unfoldable pub number_in : List ℕ → ℕ → ℕ → ℕ
number_in ws w i = number_of (map (λ j. bit_at ws (w * i + j)) (range_with_len 0 w))

-- the first n of them
abbrev pub numbers_in : List ℕ → ℕ → ℕ → List ℕ
numbers_in ws w n = map (number_in ws w) (range_with_len 0 n)

-- the largest of the numbers, or 0 if there is none
abbrev pub largest_of : List ℕ → ℕ
largest_of [] = 0
largest_of (n ∷ numbers) = max n (largest_of numbers)

-- w is the width of every list of which this is the largest number
abbrev pub IsWidth : ℕ → ℕ → Type 0
IsWidth largest w = (numbers : List ℕ) → largest_of numbers ≡ largest → w ≡ width_of numbers
