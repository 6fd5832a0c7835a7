-- What is read of packed numbers: the words of a list of numbers, and of the words of every such list. Assumes nothing.
use Rattle.std.proofs.Common.{◌≡◌, ℕ, suc, ◌+◌, ◌*◌, ◌^◌, ◌<◌, ◌≤◌, Bool, true, false, List, [], ◌∷◌, ◌++◌, length, get_or, take, drop, Ok, Result, sym, ap, ◌∙◌, arith}
use Rattle.std.proofs.lemmas.Bool.Decides.{nat_tests}
use Rattle.std.proofs.lemmas.List.FromFn.{length-map-range_with_len}
use Rattle.std.proofs.lemmas.List.{length-append, length-drop, length-take-le, get_or-take, get_or-drop, get_or_past, take_at}
use Rattle.bits.specs.StoredRows.{FindsRow, TakesRow, ReadsRow}
use Rattle.bits.specs.Words.{number_of, words_for, packed_bits, spare_zero}
use Rattle.bits.proofs.Packed.{bit_packed}
use Rattle.bits.proofs.Spare.{spare_clear}
use Rattle.bits.proofs.SpareWords.{packed_spare}
use Rattle.numbers.specs.NumberWords.{width_of, HasNumbers, number_bits, packed_words, packed_room, packed_numbers_room}
use Rattle.numbers.specs.NumbersIn.{number_in, numbers_in}
use Rattle.numbers.specs.PackedNumberRows.{packed_read, count_of, width_in, content_words, numbers_packed}
use Rattle.numbers.specs.declared.fault.NumbersFault.{NumbersFault}
use Rattle.numbers.proofs.NumberBits.{numbers_below, bits_of_numbers, bits_long, numbers_there}
use Rattle.bits.proofs.StoredLaws.{takes_row, finds_row}
use Rattle.numbers.proofs.Widths.{width_holds, width_least}

-- what is so of words of which a row was read
record RowRead (ws : List ℕ) (n : ℕ) : Type 0 where
  begun : 2 ≤ length ws
  few : count_of ws ≤ 67108864
  wide : 1 ≤ width_in ws
  narrow : width_in ws ≤ 32
  room : packed_room (width_in ws) (count_of ws) ≤ length ws
  zeros : spare_zero (content_words ws) (width_in ws * count_of ws) ≡ true
  least : width_in ws ≤ width_of (numbers_packed ws)
  end : n ≡ packed_room (width_in ws) (count_of ws)

read_facts : (ws : List ℕ) (n : ℕ) → Ok n ≡ packed_read ws → RowRead ws n
unfolding packed_read
read_facts ws n e = record {
  begun = grind (arith, nat_tests);
  few = grind (arith, nat_tests);
  wide = grind (arith, nat_tests);
  narrow = grind (arith, nat_tests);
  room = grind (arith, nat_tests);
  zeros = grind (arith, nat_tests);
  least = grind (arith, nat_tests);
  end = grind (arith, nat_tests);
}

-- the first two words, and then the others
cut : (ws : List ℕ) (n : ℕ) → 2 ≤ length ws → take (2 + n) ws ≡ count_of ws ∷ (width_in ws ∷ take n (drop 2 ws))
cut [] n h = absurd (omega arith)
cut (x ∷ []) n h = absurd (omega arith)
cut (x ∷ (y ∷ ws)) n h = let e : 2 + n ≡ suc (suc n) = omega arith in ap (λ k. take k (x ∷ (y ∷ ws))) e

-- what is read are the words of the numbers read
module _ (ws : List ℕ) (fits : (i : ℕ) → get_or ws i 0 < 2 ^ 64) (n : ℕ) (read : Ok n ≡ packed_read ws) where
  facts : RowRead ws n
  facts = read_facts ws n read

  content_long : length (content_words ws) ≡ words_for (width_in ws * count_of ws)
  content_long = length-take-le (words_for (width_in ws * count_of ws)) (drop 2 ws) (omega (arith, facts.room, length-drop 2 ws))

  width_there : width_of (numbers_packed ws) ≡ width_in ws
  width_there =
      let least = width_least (numbers_packed ws) (width_in ws) facts.wide facts.narrow (numbers_below (content_words ws) (width_in ws) (count_of ws)) in
      omega (arith, facts.least)

  word_fits : (i : ℕ) → i < length (content_words ws) → get_or (content_words ws) i 0 < 2 ^ 64
  word_fits i h = rw (get_or-take (words_for (width_in ws * count_of ws)) (drop 2 ws) i 0 (omega (arith, content_long)), get_or-drop 2 ws i 0) (fits (2 + i))

  content_is : packed_bits (number_bits (width_in ws) (numbers_packed ws)) ≡ content_words ws
  content_is =
      ap packed_bits (bits_of_numbers (content_words ws) (width_in ws) facts.wide (count_of ws))
      ∙ packed_spare (content_words ws) (width_in ws * count_of ws) content_long word_fits facts.zeros

  taken : take n ws ≡ packed_words (numbers_packed ws)
  taken =
      rw (width_there, content_is, length-map-range_with_len (number_in (content_words ws) (width_in ws)) 0 (count_of ws))
      (ap (λ k. take k ws) facts.end ∙ cut ws (words_for (width_in ws * count_of ws)) facts.begun)

-- of the words of a list of numbers it is read
module _ (numbers rest : List ℕ) (has : HasNumbers numbers) where
  abbrev w : ℕ
  w = width_of numbers

  abbrev bits : List Bool
  bits = number_bits w numbers

  packed_long : length (packed_bits bits) ≡ words_for (w * length numbers)
  packed_long = length-map-range_with_len (λ i. number_of (take 64 (drop (64 * i) bits))) 0 (words_for (length bits)) ∙ ap words_for (bits_long w numbers)

  content_there : content_words (packed_words numbers ++ rest) ≡ packed_bits bits
  content_there = take_at (packed_bits bits) rest (words_for (w * length numbers)) packed_long

  zeros_there : spare_zero (packed_bits bits) (w * length numbers) ≡ true
  zeros_there = sym (spare_clear (packed_bits bits) (w * length numbers) (λ k low high. bit_packed bits k ∙ get_or_past bits k false (omega (arith, bits_long w numbers))))

  again : numbers_packed (packed_words numbers ++ rest) ≡ numbers
  again = ap (λ xs. numbers_in xs w (length numbers)) content_there ∙ numbers_there w numbers (width_holds numbers has.1).2

  found : Ok (packed_numbers_room numbers) ≡ packed_read (packed_words numbers ++ rest)
  unfolding packed_read
  found =
      let held = width_holds numbers has.1 in
      let long = length-append (packed_bits bits) rest in
      grind (arith, nat_tests, held, has, long, packed_long, content_there, zeros_there, again)

pub takes : (ws : List ℕ) (r : Result ℕ NumbersFault) → r ≡ packed_read ws → ((i : ℕ) → get_or ws i 0 < 2 ^ 64) → TakesRow packed_words numbers_packed ws r
takes ws r is fits = takes_row packed_words numbers_packed packed_read ws (taken ws fits) r is

pub finds : (ws : List ℕ) (r : Result ℕ NumbersFault) → r ≡ packed_read ws → FindsRow HasNumbers packed_words packed_numbers_room ws r
finds = finds_row packed_words numbers_packed packed_read HasNumbers packed_numbers_room found

pub tells : (ws : List ℕ) → ReadsRow HasNumbers packed_words ws (numbers_packed ws)
tells ws items rest has e = ap numbers_packed e ∙ again items rest has
