-- The words of a list of bits, and the bits of words. Assumes nothing.
use Rattle.std.proofs.Common.{◌≡◌, ℕ, zero, suc, ◌+◌, ◌-◌, ◌*◌, ◌/◌, ◌%◌, ◌^◌, ◌<◌, min, Bool, true, false, List, [], ◌∷◌, map, length, get_or, take, drop, sym, refl, ap, ◌∙◌, ⊎_elim, arith}
use Rattle.std.specs.List.{range_with_len}
use Rattle.std.proofs.lemmas.List.FromFn.{length-map-range_with_len, get_or-map-range_with_len, fill_by_all}
use Rattle.std.proofs.lemmas.List.{length-take, length-drop, get_or-take, get_or-drop, get_or_past}
use Rattle.std.proofs.lemmas.Bool.{cases_lt}
use Rattle.bits.specs.Words.{bit_of, bit_at, bits_in, number_of, words_for, packed_bits}
use Rattle.bits.proofs.Words.{bit_of-suc, bit_zero_of, bit_one_of, bit_of_none, bit_in_word, number_of_bits}

module _ (ws : List ℕ) (len : ℕ) where
  -- the bits that one word holds
  word_cut : (i r : ℕ) → r ≡ min 64 (len - 64 * i) → take 64 (drop (64 * i) (bits_in ws len)) ≡ map (bit_of (get_or ws i 0)) (range_with_len 0 r)
  word_cut i r e =
      let long : length (bits_in ws len) ≡ len = length-map-range_with_len (bit_at ws) 0 len in
      fill_by_all (bit_of (get_or ws i 0)) (take 64 (drop (64 * i) (bits_in ws len))) r false
      (omega (arith, length-take 64 (drop (64 * i) (bits_in ws len)), length-drop (64 * i) (bits_in ws len)))
      (λ k h.
      get_or-take 64 (drop (64 * i) (bits_in ws len)) k false (omega arith)
      ∙ get_or-drop (64 * i) (bits_in ws len) k false
      ∙ get_or-map-range_with_len (bit_at ws) 0 len (64 * i + k) (64 * i + k) false (omega arith) (omega arith)
      ∙ bit_in_word ws i k (omega arith))

  -- words that have no more than these bits are the words of them
  pub packed_again : length ws ≡ words_for len → ((i : ℕ) → i < length ws → get_or ws i 0 < 2 ^ min 64 (len - 64 * i)) → packed_bits (bits_in ws len) ≡ ws
  packed_again long small =
      let n : length (bits_in ws len) ≡ len = length-map-range_with_len (bit_at ws) 0 len in
      ap (λ m. map (λ i. number_of (take 64 (drop (64 * i) (bits_in ws len)))) (range_with_len 0 (words_for m))) n
      ∙ sym (fill_by_all (λ i. number_of (take 64 (drop (64 * i) (bits_in ws len)))) ws (words_for len) 0 long
      (λ i h. sym (ap number_of (word_cut i (min 64 (len - 64 * i)) refl) ∙ number_of_bits (min 64 (len - 64 * i)) (get_or ws i 0) (small i (omega arith)))))

-- the bits of the number of a list of bits are that list
pub bit_number : (bs : List Bool) (k : ℕ) → bit_of (number_of bs) k ≡ get_or bs k false
bit_number [] k = bit_of_none 0 k refl
bit_number (true ∷ bs) zero = bit_one_of (1 + 2 * number_of bs) (omega arith)
bit_number (false ∷ bs) zero = bit_zero_of (0 + 2 * number_of bs) (omega arith)
bit_number (true ∷ bs) (suc k) = let half : (1 + 2 * number_of bs) / 2 ≡ number_of bs = omega arith in bit_of-suc (1 + 2 * number_of bs) k ∙ ap (λ w. bit_of w k) half ∙ bit_number bs k
bit_number (false ∷ bs) (suc k) = let half : (0 + 2 * number_of bs) / 2 ≡ number_of bs = omega arith in bit_of-suc (0 + 2 * number_of bs) k ∙ ap (λ w. bit_of w k) half ∙ bit_number bs k

-- and so are the bits of its words
pub bit_packed : (bits : List Bool) (k : ℕ) → bit_at (packed_bits bits) k ≡ get_or bits k false
unfolding bit_at
bit_packed bits k =
    ⊎_elim
    (λ l.
    let here : 64 * (k / 64) + k % 64 ≡ k = omega arith in
    ap (λ w. bit_of w (k % 64)) (get_or-map-range_with_len (λ i. number_of (take 64 (drop (64 * i) bits))) 0 (words_for (length bits)) (k / 64) (k / 64) 0 l (omega arith))
    ∙ bit_number (take 64 (drop (64 * (k / 64)) bits)) (k % 64)
    ∙ get_or-take 64 (drop (64 * (k / 64)) bits) (k % 64) false (omega arith)
    ∙ get_or-drop (64 * (k / 64)) bits (k % 64) false
    ∙ ap (λ j. get_or bits j false) here)
    (λ l.
    bit_of_none (get_or (packed_bits bits) (k / 64) 0) (k % 64) (get_or_past (packed_bits bits) (k / 64) 0 (omega (arith, length-map-range_with_len (λ i. number_of (take 64 (drop (64 * i) bits))) 0 (words_for (length bits)))))
    ∙ sym (get_or_past bits k false (omega arith)))
    (cases_lt (k / 64) (words_for (length bits)))

pub bits_packed : (bits : List Bool) → bits_in (packed_bits bits) (length bits) ≡ bits
bits_packed bits = sym (fill_by_all (bit_at (packed_bits bits)) bits (length bits) false refl (λ k h. sym (bit_packed bits k)))
