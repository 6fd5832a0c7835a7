-- Bits in 64-bit words, the low bit first. Assumes nothing.
use Rattle.std.specs.Prelude.{ℕ, ◌+◌, ◌-◌, ◌*◌, ◌/◌, ◌%◌, ◌^◌, min, Bool, cond, not, List, [], ◌∷◌, map, length, take, drop, ◌==◌, slice_index}
use Rattle.std.specs.List.{range_with_len}
use Rattle.ordered.specs.Lists.{each}

-- bit k of a number
unfoldable pub bit_of : ℕ → ℕ → Bool
bit_of w k = w / 2 ^ k % 2 == 1

-- bit k of a list of words; past its end all bits are zeros
unfoldable pub bit_at : List ℕ → ℕ → Bool
bit_at ws k = bit_of (slice_index ws (k / 64)) (k % 64)

-- the first n bits of a list of words
abbrev pub bits_in : List ℕ → ℕ → List Bool
bits_in ws n = map (bit_at ws) (range_with_len 0 n)

-- the number whose low bits these are
abbrev pub number_of : List Bool → ℕ
number_of [] = 0
number_of (b ∷ bs) = cond b 1 0 + 2 * number_of bs

-- how many words n bits take
abbrev pub words_for : ℕ → ℕ
words_for n = (n + 63) / 64

-- the bits in words, spare bits zero
abbrev pub packed_bits : List Bool → List ℕ
packed_bits bits = map (λ i. number_of (take 64 (drop (64 * i) bits))) (range_with_len 0 (words_for (length bits)))

-- so many bits of so many words, or all that there are
abbrev pub held : ℕ → ℕ → ℕ
held n words = min n (64 * words)

-- each bit of the words after the first n is a zero
unfoldable pub spare_zero : List ℕ → ℕ → Bool
spare_zero ws n = each (λ k. not (bit_at ws k)) (range_with_len n (64 * length ws - n))
