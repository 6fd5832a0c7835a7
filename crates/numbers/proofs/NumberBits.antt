-- The bits of packed numbers, and the numbers of packed bits. Assumes nothing.
use Rattle.std.proofs.Common.{◌≡◌, ℕ, suc, ◌+◌, ◌*◌, ◌/◌, ◌%◌, ◌^◌, ◌<◌, ◌≤◌, Bool, true, false, ltb, List, [], ◌∷◌, map, length, get_or, sym, refl, ap, ◌∙◌, mul_comm, arith}
use Rattle.std.specs.List.{range_with_len}
use Rattle.std.proofs.lemmas.Nat.{div_below, mod_below, div-add-mod', div-mul-add, mod-mul-add, mul-add-lt}
use Rattle.std.proofs.lemmas.List.FromFn.{length-map-range_with_len, get_or-map-range_with_len, fill_by_all}
use Rattle.std.proofs.lemmas.Bool.{lt-ltb, ltb-true}
use Rattle.ordered.proofs.Lists.{each_place, each_from_places}
use Rattle.bits.specs.Words.{bit_of, bit_at, bits_in, number_of, packed_bits}
use Rattle.bits.proofs.Packed.{bit_number, bit_packed}
use Rattle.bits.proofs.Words.{number_of_bits}
use Rattle.numbers.specs.NumberWords.{each_below, number_bits}
use Rattle.numbers.specs.NumbersIn.{number_in, numbers_in}

twice : (d x k : ℕ) → d ≤ 1 → x < 2 ^ k → d + 2 * x < 2 ^ suc k
twice d x k l h = omega arith

-- so many bits make a number below that power
number_lt : (bits : List Bool) → number_of bits < 2 ^ length bits
number_lt [] = omega arith
number_lt (true ∷ bits) = twice 1 (number_of bits) (length bits) (omega arith) (number_lt bits)
number_lt (false ∷ bits) = twice 0 (number_of bits) (length bits) (omega arith) (number_lt bits)

-- the numbers in words
module _ (ws : List ℕ) (w : ℕ) where
  pub bit_in_number : (i j : ℕ) → j < w → bit_of (number_in ws w i) j ≡ bit_at ws (w * i + j)
  unfolding number_in
  bit_in_number i j h = bit_number (map (λ k. bit_at ws (w * i + k)) (range_with_len 0 w)) j ∙ get_or-map-range_with_len (λ k. bit_at ws (w * i + k)) 0 w j j false h (omega arith)

  pub number_below : (i : ℕ) → number_in ws w i < 2 ^ w
  unfolding number_in
  number_below i = rw length-map-range_with_len at (number_lt (map (λ j. bit_at ws (w * i + j)) (range_with_len 0 w)))

  pub numbers_below : (n : ℕ) → each_below w (numbers_in ws w n) ≡ true
  numbers_below n =
      each_from_places (λ x. ltb x (2 ^ w)) (numbers_in ws w n) 0
      (λ i h.
      let within : i < n = omega (arith, length-map-range_with_len (number_in ws w) 0 n) in
      rw (get_or-map-range_with_len (number_in ws w) 0 n i i 0 within (omega arith)) (lt-ltb _ _ (number_below i)))

  -- their bits are those of the words
  pub bits_of_numbers : 0 < w → (n : ℕ) → number_bits w (numbers_in ws w n) ≡ bits_in ws (w * n)
  bits_of_numbers some n =
      let xs : List ℕ = numbers_in ws w n in
      let test : ℕ → Bool = λ k. bit_of (get_or xs (k / w) 0) (k % w) in
      ap (λ m. map test (range_with_len 0 (w * m))) (length-map-range_with_len (number_in ws w) 0 n)
      ∙ fill_by_all (bit_at ws) (map test (range_with_len 0 (w * n))) (w * n) false (length-map-range_with_len test 0 (w * n))
      (λ k h.
      let turned : w * n ≡ n * w = mul_comm w n in
      let place : k / w < n = div_below k w n some (omega arith) in
      let whole : w * (k / w) + k % w ≡ k = ap (λ m. m + k % w) (mul_comm w (k / w)) ∙ div-add-mod' k w in
      get_or-map-range_with_len test 0 (w * n) k k false h (omega arith)
      ∙ ap (λ x. bit_of x (k % w)) (get_or-map-range_with_len (number_in ws w) 0 n (k / w) (k / w) 0 place (omega arith))
      ∙ bit_in_number (k / w) (k % w) (mod_below k w some)
      ∙ ap (bit_at ws) whole)

-- the words of numbers
module _ (w : ℕ) (xs : List ℕ) where
  pub bits_long : length (number_bits w xs) ≡ w * length xs
  bits_long = length-map-range_with_len (λ k. bit_of (get_or xs (k / w) 0) (k % w)) 0 (w * length xs)

  bit_there : (i j : ℕ) → i < length xs → j < w → bit_at (packed_bits (number_bits w xs)) (w * i + j) ≡ bit_of (get_or xs i 0) j
  bit_there i j h l =
      let turned : i * w + j ≡ w * i + j = ap (λ m. m + j) (mul_comm i w) in
      let place : (w * i + j) / w ≡ i = ap (λ m. m / w) (sym turned) ∙ div-mul-add i w j l in
      let rest : (w * i + j) % w ≡ j = ap (λ m. m % w) (sym turned) ∙ mod-mul-add i w j l in
      bit_packed (number_bits w xs) (w * i + j)
      ∙ get_or-map-range_with_len (λ k. bit_of (get_or xs (k / w) 0) (k % w)) 0 (w * length xs) (w * i + j) (w * i + j) false (omega (arith, mul-add-lt i w j (length xs) h l)) (omega arith)
      ∙ ap (λ q. bit_of (get_or xs q 0) ((w * i + j) % w)) place
      ∙ ap (bit_of (get_or xs i 0)) rest

  number_there : (i : ℕ) → i < length xs → get_or xs i 0 < 2 ^ w → get_or xs i 0 ≡ number_in (packed_bits (number_bits w xs)) w i
  unfolding number_in
  number_there i h below =
      sym (number_of_bits w (get_or xs i 0) below)
      ∙ ap number_of
      (fill_by_all (λ j. bit_at (packed_bits (number_bits w xs)) (w * i + j)) (map (bit_of (get_or xs i 0)) (range_with_len 0 w)) w false (length-map-range_with_len (bit_of (get_or xs i 0)) 0 w)
      (λ j l. get_or-map-range_with_len (bit_of (get_or xs i 0)) 0 w j j false l (omega arith) ∙ sym (bit_there i j h l)))

  -- the numbers in them are these numbers
  pub numbers_there : each_below w xs ≡ true → numbers_in (packed_bits (number_bits w xs)) w (length xs) ≡ xs
  numbers_there below =
      sym (fill_by_all (number_in (packed_bits (number_bits w xs)) w) xs (length xs) 0 refl
      (λ i h. number_there i h (ltb-true (get_or xs i 0) (2 ^ w) (each_place (λ x. ltb x (2 ^ w)) xs i 0 below h))))
