-- Counting the ones of words. Assumes nothing.
use Rattle.std.proofs.Common.{◌≡◌, ℕ, zero, suc, ◌+◌, ◌-◌, ◌*◌, ◌/◌, ◌%◌, ◌^◌, ◌<◌, ◌≤◌, List, length, get_or, take, sum_by, sym, ap, ◌∙◌, arith}
use lib.Bits.{bit_and, and_mask}
use lib.Count.{ones}
use Rattle.std.proofs.lemmas.Nat.{one_shl}
use Rattle.std.proofs.lemmas.List.{take_all}
use Rattle.std.proofs.lemmas.List.Sums.{sum_by_more}
use Rattle.bits.specs.Words.{bits_in}
use Rattle.bits.proofs.Words.{ones_in_word}
use Rattle.bitmaps.specs.Counts.{ones_of}
use Rattle.bitmaps.specs.Stretches.{stretch_bits}

module _ (ws : List ℕ) where
  -- one whole word more
  pub ones_word : (i : ℕ) → get_or ws i 0 < 2 ^ 64 → ones_of (bits_in ws (64 * i)) + ones (get_or ws i 0) ≡ ones_of (bits_in ws (64 * (i + 1)))
  ones_word i h =
      let next : 64 * i + 64 ≡ 64 * (i + 1) = omega arith in
      let whole : get_or ws i 0 % 2 ^ 64 ≡ get_or ws i 0 = omega arith in
      ap (λ w. ones_of (bits_in ws (64 * i)) + ones w) (sym whole) ∙ sym (ones_in_word ws i 64 (omega arith)) ∙ ap (λ n. ones_of (bits_in ws n)) next

  -- the first bits of one word more, by a mask
  pub ones_masked : (n : ℕ) → ones_of (bits_in ws (64 * (n / 64))) + ones (bit_and (get_or ws (n / 64) 0) (1 * 2 ^ (n % 64) % 2 ^ 64 - 1)) ≡ ones_of (bits_in ws n)
  ones_masked n =
      let r : n % 64 < 64 = omega arith in
      let here : 64 * (n / 64) + n % 64 ≡ n = omega arith in
      ap (λ m. ones_of (bits_in ws (64 * (n / 64))) + ones (bit_and (get_or ws (n / 64) 0) (m - 1))) (one_shl (n % 64) 64 r)
      ∙ ap (λ w. ones_of (bits_in ws (64 * (n / 64))) + ones w) (and_mask (get_or ws (n / 64) 0) (n % 64))
      ∙ sym (ones_in_word ws (n / 64) (n % 64) (omega arith))
      ∙ ap (λ m. ones_of (bits_in ws m)) here

  -- the ones of a stretch are those of its words
  module _ (fits : (i : ℕ) → get_or ws i 0 < 2 ^ 64) where
    ones_front : (n : ℕ) → n ≤ length ws → sum_by ones (take n ws) ≡ ones_of (bits_in ws (64 * n))
    ones_front zero h = omega arith
    ones_front (suc n) h =
        let next : n + 1 ≡ suc n = omega arith in
        ap (λ m. sum_by ones (take m ws)) (sym next)
        ∙ omega (arith, sum_by_more ones ws n 0 (omega arith), ones_front n (omega arith), ones_word n (fits n), ap (λ m. ones_of (bits_in ws (64 * m))) next)

    pub sum_ones : sum_by ones ws ≡ ones_of (stretch_bits ws)
    sum_ones = ap (sum_by ones) (sym (take_all (length ws) ws (omega arith))) ∙ ones_front (length ws) (omega arith)
