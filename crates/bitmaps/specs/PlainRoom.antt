-- How many words a row of plain bits takes. Assumes nothing.
use Rattle.std.proofs.Common.{◌≡◌, ◌*◌, Bool, List, length, take, drop, arith, length-append}
use Rattle.std.proofs.lemmas.List.FromFn.{length-map-range_with_len}
use Rattle.bits.specs.Words.{number_of, words_for, packed_bits}
use Rattle.bitmaps.specs.BitRows.{HasBitRow}
use Rattle.bitmaps.specs.Counts.{rank_of}
use Rattle.bitmaps.specs.PlainRows.{plain_room, plain_words, directory_of, blocks_for}

pub packed_long : (bits : List Bool) → length (packed_bits bits) ≡ words_for (length bits)
packed_long bits = length-map-range_with_len (λ i. number_of (take 64 (drop (64 * i) bits))) 0 (words_for (length bits))

pub directory_long : (bits : List Bool) → length (directory_of bits) ≡ blocks_for (length bits)
directory_long bits = length-map-range_with_len (λ b. rank_of bits (512 * b)) 0 (blocks_for (length bits))

pub room_told : (bits : List Bool) → HasBitRow bits → plain_room (length bits) ≡ length (plain_words bits)
room_told bits few = omega (arith, length-append (packed_bits bits) (directory_of bits), packed_long bits, directory_long bits)
