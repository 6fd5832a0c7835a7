-- A number in so many bits of one word or of two. Assumes nothing.
use Rattle.std.proofs.Common.{◌≡◌, ℕ, ◌+◌, ◌-◌, ◌*◌, ◌/◌, ◌%◌, ◌^◌, ◌<◌, ◌≤◌, false, eqb, List, map, get_or, sym, ap, ◌∙◌, subst, ⊎_elim, mod-lt, arith, pow_pos}
use lib.Bits.{bit_or}
use lib.Pow.{split}
use Rattle.std.specs.List.{range_with_len}
use Rattle.std.proofs.lemmas.Nat.{shl-shr, mod-pow-add, mod_low, shr_below, or_shifted}
use Rattle.std.proofs.lemmas.Nat.Bits.{bit_at_cat_low, bit_at_cat_high}
use Rattle.std.proofs.lemmas.List.FromFn.{length-map-range_with_len, get_or-map-range_with_len, fill_by_all}
use Rattle.std.proofs.lemmas.Bool.{cases_lt}
use Rattle.bits.specs.Words.{bit_of, bit_at, number_of}
use Rattle.bits.proofs.Words.{bit_shifted, bit_in_word, number_of_bits}

-- the low bits of a number
low_bit : (x k j : ℕ) → j < k → bit_of (x % 2 ^ k) j ≡ bit_of x j
unfolding bit_of
low_bit x k j h = ap (λ d. eqb d 1) (sym (bit_at_cat_low (x / 2 ^ k) k (x % 2 ^ k) j h) ∙ ap (λ y. y / 2 ^ j % 2) (split x k))

-- the bits of two numbers, the one above the other
module _ (a k b j : ℕ) where
  bit_below : j < k → bit_of (a * 2 ^ k + b) j ≡ bit_of b j
  unfolding bit_of
  bit_below l = ap (λ d. eqb d 1) (bit_at_cat_low a k b j l)

  bit_above : b < 2 ^ k → k ≤ j → bit_of (a * 2 ^ k + b) j ≡ bit_of a (j - k)
  unfolding bit_of
  bit_above h l = ap (λ d. eqb d 1) (bit_at_cat_high a k b j h l)

-- what is shifted up loses its high bits
shifted_up : (a s k : ℕ) → a * 2 ^ k % 2 ^ (s + k) ≡ a % 2 ^ s * 2 ^ k
shifted_up a s k =
    let none : a * 2 ^ k + 0 ≡ a * 2 ^ k = omega arith in
    let low : a * 2 ^ k % 2 ^ k ≡ 0 = ap (λ x. x % 2 ^ k) (sym none) ∙ mod_low a k 0 (pow_pos k) in
    let high : a * 2 ^ k / 2 ^ k % 2 ^ s * 2 ^ k ≡ a % 2 ^ s * 2 ^ k = ap (λ x. x % 2 ^ s * 2 ^ k) (shl-shr a k) in
    mod-pow-add (a * 2 ^ k) s k ∙ omega (arith, low, high)

module _ (ws : List ℕ) where
  -- a number with the bits of the words from a place on
  field_is : (w at y : ℕ) → ((j : ℕ) → j < w → bit_of y j ≡ bit_at ws (at + j)) → y % 2 ^ w ≡ number_of (map (λ j. bit_at ws (at + j)) (range_with_len 0 w))
  field_is w at y same =
      sym (number_of_bits w (y % 2 ^ w) (mod-lt y (pow_pos w)))
      ∙ ap number_of
      (fill_by_all (λ j. bit_at ws (at + j)) (map (bit_of (y % 2 ^ w)) (range_with_len 0 w)) w false (length-map-range_with_len (bit_of (y % 2 ^ w)) 0 w)
      (λ j h. get_or-map-range_with_len (bit_of (y % 2 ^ w)) 0 w j j false h (omega arith) ∙ low_bit y w j h ∙ same j h))

  module _ (w i s : ℕ) where
    -- in one word
    pub field_in_one : s + w ≤ 64 → get_or ws i 0 / 2 ^ s % 2 ^ w ≡ number_of (map (λ j. bit_at ws (64 * i + s + j)) (range_with_len 0 w))
    field_in_one h =
        field_is w (64 * i + s) (get_or ws i 0 / 2 ^ s)
        (λ j l.
        let e : 64 * i + (s + j) ≡ 64 * i + s + j = omega arith in
        bit_shifted (get_or ws i 0) s j ∙ sym (bit_in_word ws i (s + j) (omega arith)) ∙ ap (bit_at ws) e)

    -- in two words
    pub field_in_two : s < 64 → w ≤ 64 → get_or ws i 0 < 2 ^ 64 → bit_or (get_or ws (i + 1) 0 * 2 ^ (64 - s) % 2 ^ 64) (get_or ws i 0 / 2 ^ s) % 2 ^ w ≡ number_of (map (λ j. bit_at ws (64 * i + s + j)) (range_with_len 0 w))
    field_in_two h narrow fits =
        let k : ℕ = 64 - s in
        let lo : ℕ = get_or ws i 0 / 2 ^ s in
        let hi : ℕ = get_or ws (i + 1) 0 in
        let whole : s + k ≡ 64 = omega arith in
        let turned : k + s ≡ 64 = omega arith in
        let small : lo < 2 ^ k = shr_below (get_or ws i 0) k s (subst (λ n. get_or ws i 0 < 2 ^ n) (sym turned) fits) in
        let up : hi * 2 ^ k % 2 ^ 64 ≡ hi % 2 ^ s * 2 ^ k = ap (λ n. hi * 2 ^ k % 2 ^ n) (sym whole) ∙ shifted_up hi s k in
        ap (λ x. bit_or x lo % 2 ^ w) up
        ∙ ap (λ x. x % 2 ^ w) (or_shifted (hi % 2 ^ s) k lo small)
        ∙ field_is w (64 * i + s) (hi % 2 ^ s * 2 ^ k + lo)
        (λ j l.
        ⊎_elim
        (λ below.
        let e : 64 * i + (s + j) ≡ 64 * i + s + j = omega arith in
        bit_below (hi % 2 ^ s) k lo j below ∙ bit_shifted (get_or ws i 0) s j ∙ sym (bit_in_word ws i (s + j) (omega arith)) ∙ ap (bit_at ws) e)
        (λ above.
        let e : 64 * (i + 1) + (j - k) ≡ 64 * i + s + j = omega arith in
        bit_above (hi % 2 ^ s) k lo j small above
        ∙ low_bit hi s (j - k) (omega arith)
        ∙ sym (bit_in_word ws (i + 1) (j - k) (omega arith))
        ∙ ap (bit_at ws) e)
        (cases_lt j k))
