-- The words of a row of plain bits, and what reading such words answers. Assumes nothing.
use Rattle.std.specs.Prelude.{ℕ, ◌+◌, ◌*◌, ◌/◌, Bool, cond, not, List, ◌∷◌, ◌++◌, map, length, take, drop, Ok, Err, Result, ◌==◌, nat_eq, nat_lt, slice_index}
use Rattle.std.specs.List.{range_with_len}
use Rattle.ordered.specs.Lists.{each}
use Rattle.bits.specs.Words.{bits_in, words_for, packed_bits, spare_zero}
use Rattle.bitmaps.specs.Counts.{ones_of, rank_of}
use Rattle.bitmaps.specs.declared.fault.BitsFault.{BitsFault}
use Rattle.bitmaps.specs.declared.fault.BitsFault.TheVariants.{Short, TooManyBits, SpareBitSet, WrongContent}

-- how many stretches of 512 bits are begun by so many bits
abbrev pub blocks_for : ℕ → ℕ
blocks_for n = (n + 511) / 512

-- the ones before each 512 bits begun
abbrev pub directory_of : List Bool → List ℕ
directory_of bits = map (λ b. rank_of bits (512 * b)) (range_with_len 0 (blocks_for (length bits)))

-- the words of a row: how many bits, the bits, and their directory
abbrev pub plain_words : List Bool → List ℕ
plain_words bits = length bits ∷ (packed_bits bits ++ directory_of bits)

-- each word of the directory is the number of ones before its block
unfoldable pub tells_ones : List ℕ → List ℕ → Bool
tells_ones ws dir = each (λ b. nat_eq (slice_index dir b) (ones_of (bits_in ws (512 * b)))) (range_with_len 0 (length dir))

-- how many words a row of so many bits takes
abbrev pub plain_room : ℕ → ℕ
plain_room n = 1 + words_for n + blocks_for n

-- the words of the bits, and those of the directory, in words that begin with their number
abbrev pub bit_words : List ℕ → List ℕ
bit_words ws = take (words_for (slice_index ws 0)) (drop 1 ws)

abbrev pub directory_words : List ℕ → List ℕ
directory_words ws = take (blocks_for (slice_index ws 0)) (drop (1 + words_for (slice_index ws 0)) ws)

-- how many words the row at the front of these takes, or the first fault
unfoldable pub plain_read : List ℕ → Result ℕ BitsFault
plain_read ws =
    cond (length ws == 0) (Err Short)
    (cond (nat_lt 67108864 (slice_index ws 0)) (Err TooManyBits)
    (cond (nat_lt (length ws) (plain_room (slice_index ws 0))) (Err Short)
    (cond (not (spare_zero (bit_words ws) (slice_index ws 0))) (Err SpareBitSet)
    (cond (not (tells_ones (bit_words ws) (directory_words ws))) (Err WrongContent)
    (Ok (plain_room (slice_index ws 0)))))))

-- the bits of the row at the front of the words
abbrev pub plain_bits_in : List ℕ → List Bool
plain_bits_in ws = bits_in (bit_words ws) (slice_index ws 0)
