-- Reading the words of plain bits. Assumes nothing.
use Rattle.std.proofs.Common.{◌≡◌, ℕ, ◌+◌, ◌-◌, ◌*◌, ◌<◌, ◌≤◌, true, eqb, List, length, get_or, take, drop, Ok, ap, arith}
use Rattle.std.proofs.lemmas.Bool.{eqb-true}
use Rattle.std.proofs.lemmas.Bool.Decides.{nat_tests}
use Rattle.bits.specs.Words.{bits_in, spare_zero}
use Rattle.bits.proofs.Ranges.{each_range}
use Rattle.bitmaps.specs.Counts.{ones_of}
use Rattle.bitmaps.specs.PlainRows.{plain_read, plain_room, bit_words, directory_words, tells_ones}

-- what is cut out are the words of the bits and those of the directory
pub bits_cut : (ws : List ℕ) (w : ℕ) → take (1 + w - 1) (drop 1 ws) ≡ take w (drop 1 ws)
bits_cut ws w = let e : 1 + w - 1 ≡ w = omega arith in ap (λ n. take n (drop 1 ws)) e

pub directory_cut : (ws : List ℕ) (w d : ℕ) → take (1 + w + d - (1 + w)) (drop (1 + w) ws) ≡ take d (drop (1 + w) ws)
directory_cut ws w d = let e : 1 + w + d - (1 + w) ≡ d = omega arith in ap (λ n. take n (drop (1 + w) ws)) e

-- what the words of a directory tell
pub ones_told : (ws dir : List ℕ) → tells_ones ws dir ≡ true → (b : ℕ) → b < length dir → get_or dir b 0 ≡ ones_of (bits_in ws (512 * b))
unfolding tells_ones
ones_told ws dir t b h =
    eqb-true (get_or dir b 0) (ones_of (bits_in ws (512 * b)))
    (each_range (λ b. eqb (get_or dir b 0) (ones_of (bits_in ws (512 * b)))) 0 (length dir) t b (omega arith) (omega arith))

-- what is so where a row is read, and where it is so a row is read
abbrev pub IsRow : List ℕ → Type 0
IsRow ws =
    (0 < length ws) × (get_or ws 0 0 ≤ 67108864) × (plain_room (get_or ws 0 0) ≤ length ws)
    × (spare_zero (bit_words ws) (get_or ws 0 0) ≡ true)
    × (tells_ones (bit_words ws) (directory_words ws) ≡ true)

pub row_facts : (ws : List ℕ) (n : ℕ) → Ok n ≡ plain_read ws → IsRow ws × (n ≡ plain_room (get_or ws 0 0))
unfolding plain_read
row_facts ws n e = grind (arith, nat_tests)

pub row_read : (ws : List ℕ) → IsRow ws → Ok (plain_room (get_or ws 0 0)) ≡ plain_read ws
unfolding plain_read
row_read ws is = grind (arith, nat_tests)
