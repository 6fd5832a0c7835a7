-- The words of rows of numbers below 2^32, plain and packed, from the numbers. Assumes nothing.
use Rattle.std.specs.Prelude.{◌≡◌, ℕ, ◌+◌, ◌*◌, ◌/◌, ◌%◌, ◌^◌, ◌≤◌, Bool, true, List, ◌∷◌, map, length, Some, None, Option, nat_lt, slice_index}
use Rattle.std.specs.List.{range_with_len}
use Rattle.ordered.specs.Lists.{each, first_place}
use Rattle.bits.specs.Words.{bit_of, words_for, packed_bits}

-- each number is below 2 ^ w
abbrev pub each_below : ℕ → List ℕ → Bool
each_below w numbers = each (λ n. nat_lt n (2 ^ w)) numbers

-- the lists of numbers that have a row, plain and packed: so few numbers, each below 2^32
abbrev pub HasNumbers : List ℕ → Type 0
HasNumbers numbers = (length numbers ≤ 67108864) × (each_below 32 numbers ≡ true)

-- the words of a row of plain numbers: how many, and one word for each
abbrev pub plain_number_words : List ℕ → List ℕ
plain_number_words numbers = length numbers ∷ numbers

-- what was found, or another number
abbrev pub or_else : Option ℕ → ℕ → ℕ
or_else (Some n) m = n
or_else None m = m

-- the least width from 1 to 31 at which each number has room, or 32
unfoldable pub width_of : List ℕ → ℕ
width_of numbers = or_else (first_place (λ w. each_below w numbers) 1 31) 32

-- the numbers in w bits each, one after another, the low bit first: bit k belongs to number k / w
abbrev pub number_bits : ℕ → List ℕ → List Bool
number_bits w numbers = map (λ k. bit_of (slice_index numbers (k / w)) (k % w)) (range_with_len 0 (w * length numbers))

-- how many, the width, and the numbers at that width
abbrev pub packed_at : ℕ → List ℕ → List ℕ
packed_at w numbers = length numbers ∷ (w ∷ packed_bits (number_bits w numbers))

-- the words of a row of packed numbers
abbrev pub packed_words : List ℕ → List ℕ
packed_words numbers = packed_at (width_of numbers) numbers

-- how many words a row of so many numbers takes, plain and packed at a width
abbrev pub plain_number_room : ℕ → ℕ
plain_number_room n = 1 + n

abbrev pub packed_room : ℕ → ℕ → ℕ
packed_room w n = 2 + words_for (w * n)

-- and how many the row of these numbers takes
abbrev pub plain_numbers_room : List ℕ → ℕ
plain_numbers_room numbers = plain_number_room (length numbers)

abbrev pub packed_numbers_room : List ℕ → ℕ
packed_numbers_room numbers = packed_room (width_of numbers) (length numbers)
