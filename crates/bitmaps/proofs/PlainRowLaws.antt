-- What is read is a row exactly if the words begin with the words of a list of bits. Assumes nothing.
use Rattle.std.proofs.Common.{◌≡◌, ℕ, suc, ◌+◌, ◌-◌, ◌*◌, ◌^◌, ◌<◌, Bool, true, false, not, eqb, List, [], ◌∷◌, ◌++◌, map, length, get_or, take, drop, Ok, Result, sym, ap, ◌∙◌, subst, append_assoc, arith, length-append}
use Rattle.std.specs.List.{range_with_len}
use Rattle.std.proofs.lemmas.List.FromFn.{length-map-range_with_len, get_or-map-range_with_len, fill_by_all}
use Rattle.std.proofs.lemmas.List.{length-take, length-drop, get_or-take, get_or-drop, get_or_past, take_at, drop_at, take-take, drop-take, take-append-drop}
use Rattle.std.proofs.lemmas.Bool.{eq-eqb, not_from_false}
use Rattle.bits.specs.StoredRows.{TakesRow, FindsRow, ReadsRow}
use Rattle.bits.specs.Words.{bit_at, bits_in, words_for, packed_bits, spare_zero}
use Rattle.bits.proofs.Packed.{bit_packed, bits_packed}
use Rattle.bits.proofs.Ranges.{each_from_range}
use Rattle.bits.proofs.SpareWords.{packed_spare}
use Rattle.bits.proofs.StoredLaws.{takes_row, finds_row}
use Rattle.bitmaps.specs.BitRows.{HasBitRow}
use Rattle.bitmaps.specs.Counts.{ones_of, rank_of}
use Rattle.bitmaps.specs.PlainRoom.{packed_long, directory_long, room_told}
use Rattle.bitmaps.specs.PlainRows.{plain_read, plain_room, plain_words, plain_bits_in, directory_of, blocks_for, bit_words, directory_words, tells_ones}
use Rattle.bitmaps.specs.declared.fault.BitsFault.{BitsFault}
use Rattle.bitmaps.proofs.PlainReading.{IsRow, ones_told, row_facts, row_read}
use Rattle.bitmaps.proofs.Tested.{rank_least}

take_parts : (m n : ℕ) (xs : List ℕ) → take (m + n) xs ≡ take m xs ++ take n (drop m xs)
take_parts m n xs =
    sym (take-append-drop m (take (m + n) xs)) ∙ ap (λ ys. ys ++ drop m (take (m + n) xs)) (take-take m (m + n) xs (omega arith)) ∙ ap (λ ys. take m xs ++ ys) (drop-take m n xs)

-- the words of a row: its number, and two parts
cut : (w d : ℕ) (ws : List ℕ) → 0 < length ws → take (1 + w + d) ws ≡ get_or ws 0 0 ∷ (take w (drop 1 ws) ++ take d (drop (1 + w) ws))
cut w d [] h = absurd (omega arith)
cut w d (x ∷ xs) h =
    let e : 1 + w + d ≡ suc (w + d) = omega arith in
    let f : suc w ≡ 1 + w = omega arith in
    ap (λ k. take k (x ∷ xs)) e ∙ ap (λ ys. x ∷ ys) (take_parts w d xs) ∙ ap (λ k. x ∷ (take w xs ++ take d (drop k (x ∷ xs)))) f

-- a row that is read is the words of its bits
module _ (ws : List ℕ) (fits : (i : ℕ) → get_or ws i 0 < 2 ^ 64) (is : IsRow ws) where
  abbrev len : ℕ
  len = get_or ws 0 0

  bits_long : length (bits_in (bit_words ws) len) ≡ len
  bits_long = length-map-range_with_len (bit_at (bit_words ws)) 0 len

  words_long : length (bit_words ws) ≡ words_for len
  words_long = omega (arith, length-take (words_for len) (drop 1 ws), length-drop 1 ws, is.2)

  begun : length (directory_words ws) ≡ blocks_for len
  begun = omega (arith, length-take (blocks_for len) (drop (1 + words_for len) ws), length-drop (1 + words_for len) ws, is.2)

  word_fits : (i : ℕ) → i < length (bit_words ws) → get_or (bit_words ws) i 0 < 2 ^ 64
  word_fits i h =
      let e : get_or (bit_words ws) i 0 ≡ get_or ws (1 + i) 0 = get_or-take (words_for len) (drop 1 ws) i 0 (omega (arith, words_long)) ∙ get_or-drop 1 ws i 0 in
      subst (λ x. x < 2 ^ 64) (sym e) (fits (1 + i))

  directory_is : directory_of (bits_in (bit_words ws) len) ≡ directory_words ws
  directory_is =
      ap (λ m. map (λ b. rank_of (bits_in (bit_words ws) len) (512 * b)) (range_with_len 0 (blocks_for m))) bits_long
      ∙ sym (fill_by_all (λ b. rank_of (bits_in (bit_words ws) len) (512 * b)) (directory_words ws) (blocks_for len) 0 begun
      (λ b h. ones_told (bit_words ws) (directory_words ws) is.4 b (omega (arith, begun)) ∙ rank_least (bit_at (bit_words ws)) (512 * b) len (512 * b) (omega arith)))

  row_words : take (plain_room len) ws ≡ plain_words (plain_bits_in ws)
  row_words =
      cut (words_for len) (blocks_for len) ws is.0
      ∙ ap (λ k. k ∷ (bit_words ws ++ directory_words ws)) (sym bits_long)
      ∙ ap (λ xs. length (bits_in (bit_words ws) len) ∷ (xs ++ directory_words ws)) (sym (packed_spare (bit_words ws) len words_long word_fits is.3))
      ∙ ap (λ xs. length (bits_in (bit_words ws) len) ∷ (packed_bits (bits_in (bit_words ws) len) ++ xs)) (sym directory_is)

-- the words of a list of bits are read, whatever follows them
module _ (bits : List Bool) (few : HasBitRow bits) (rest : List ℕ) where
  joined : (packed_bits bits ++ directory_of bits) ++ rest ≡ packed_bits bits ++ (directory_of bits ++ rest)
  joined = append_assoc (packed_bits bits) (directory_of bits) rest

  bits_there : bit_words (plain_words bits ++ rest) ≡ packed_bits bits
  bits_there = ap (take (words_for (length bits))) joined ∙ take_at (packed_bits bits) (directory_of bits ++ rest) (words_for (length bits)) (packed_long bits)

  directory_there : directory_words (plain_words bits ++ rest) ≡ directory_of bits
  directory_there =
      let e : 1 + words_for (length bits) ≡ suc (words_for (length bits)) = omega arith in
      ap (λ k. take (blocks_for (length bits)) (drop k (plain_words bits ++ rest))) e
      ∙ ap (λ xs. take (blocks_for (length bits)) (drop (words_for (length bits)) xs)) joined
      ∙ ap (take (blocks_for (length bits))) (drop_at (packed_bits bits) (directory_of bits ++ rest) (words_for (length bits)) (packed_long bits))
      ∙ take_at (directory_of bits) rest (blocks_for (length bits)) (directory_long bits)

  zeros : spare_zero (packed_bits bits) (length bits) ≡ true
  unfolding spare_zero
  zeros = each_from_range (λ k. not (bit_at (packed_bits bits) k)) (length bits) (64 * length (packed_bits bits) - length bits) (λ k low high. not_from_false _ (bit_packed bits k ∙ get_or_past bits k false low))

  told : tells_ones (packed_bits bits) (directory_of bits) ≡ true
  unfolding tells_ones
  told =
      each_from_range (λ b. eqb (get_or (directory_of bits) b 0) (ones_of (bits_in (packed_bits bits) (512 * b)))) 0 (length (directory_of bits))
      (λ b low high.
      let within : b < blocks_for (length bits) = omega (arith, directory_long bits) in
      eq-eqb (get_or (directory_of bits) b 0) (ones_of (bits_in (packed_bits bits) (512 * b)))
      (get_or-map-range_with_len (λ b. rank_of bits (512 * b)) 0 (blocks_for (length bits)) b b 0 within (omega arith)
      ∙ ap (λ xs. rank_of xs (512 * b)) (sym (bits_packed bits))
      ∙ sym (rank_least (bit_at (packed_bits bits)) (512 * b) (length bits) (512 * b) (omega arith))))

  found_row : plain_read (plain_words bits ++ rest) ≡ Ok (plain_room (length bits))
  found_row =
      sym (row_read (plain_words bits ++ rest) (
        omega (arith, length-append (plain_words bits) rest),
        few,
        omega (arith, length-append (plain_words bits) rest, room_told bits few),
        ap (λ xs. spare_zero xs (length bits)) bits_there ∙ zeros,
        ap (λ xs. tells_ones xs (directory_words (plain_words bits ++ rest))) bits_there ∙ ap (tells_ones (packed_bits bits)) directory_there ∙ told,
      ))

  found-bits : plain_bits_in (plain_words bits ++ rest) ≡ bits
  found-bits = ap (λ xs. bits_in xs (length bits)) bits_there ∙ bits_packed bits

pub takes : (ws : List ℕ) → ((i : ℕ) → get_or ws i 0 < 2 ^ 64) → (r : Result ℕ BitsFault) → r ≡ plain_read ws → TakesRow plain_words plain_bits_in ws r
takes ws fits = takes_row plain_words plain_bits_in plain_read ws (λ n e. let f = row_facts ws n e in ap (λ k. take k ws) f.1 ∙ row_words ws fits f.0)

pub finds : (ws : List ℕ) (r : Result ℕ BitsFault) → r ≡ plain_read ws → FindsRow HasBitRow plain_words (λ bits. plain_room (length bits)) ws r
finds = finds_row plain_words plain_bits_in plain_read HasBitRow (λ bits. plain_room (length bits)) (λ bits rest few. sym (found_row bits few rest))

pub tells : (ws : List ℕ) → ReadsRow HasBitRow plain_words ws (plain_bits_in ws)
tells ws items rest has e = ap plain_bits_in e ∙ found-bits items has rest
