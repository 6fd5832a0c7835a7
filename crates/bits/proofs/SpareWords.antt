-- Words whose spare bits are zeros are the words of their bits. Assumes nothing.
use Rattle.std.proofs.Common.{◌≡◌, ℕ, ◌+◌, ◌-◌, ◌*◌, ◌/◌, ◌%◌, ◌^◌, ◌<◌, min, true, List, length, get_or, sym, ap, ◌∙◌, subst, ⊎_elim, mod-lt, arith, pow_pos}
use lib.Pow.{split}
use Rattle.std.proofs.lemmas.Bool.{cases_lt, eqb-true}
use Rattle.bits.specs.Words.{bits_in, words_for, packed_bits, spare_zero}
use Rattle.bits.proofs.Packed.{packed_again}
use Rattle.bits.proofs.Spare.{spare_word}

-- a number that is nothing when shifted down has no more bits
small_shifted : (w r : ℕ) → w / 2 ^ r ≡ 0 → w < 2 ^ r
small_shifted w r z =
    let part : w / 2 ^ r * 2 ^ r + w % 2 ^ r ≡ w = split w r in
    let none : w / 2 ^ r * 2 ^ r ≡ 0 = ap (λ q. q * 2 ^ r) z ∙ zero_times (2 ^ r) in
    let rest : w % 2 ^ r < 2 ^ r = mod-lt w (pow_pos r) in
    omega arith
  where
    zero_times : (m : ℕ) → 0 * m ≡ 0
    zero_times m = omega arith

module _ (ws : List ℕ) (n : ℕ) (long : length ws ≡ words_for n) (fits : (i : ℕ) → i < length ws → get_or ws i 0 < 2 ^ 64) (zeros : spare_zero ws n ≡ true) where
  -- each word has no more bits than are in the row
  small : (i : ℕ) → i < length ws → get_or ws i 0 < 2 ^ min 64 (n - 64 * i)
  small i h =
      ⊎_elim
      (λ l.
      let last : i ≡ n / 64 = omega arith in
      let rest : 0 < n % 64 = omega arith in
      let size : n % 64 ≡ min 64 (n - 64 * i) = omega arith in
      let here : get_or ws (n / 64) 0 < 2 ^ 64 = subst (λ j. get_or ws j 0 < 2 ^ 64) last (fits i h) in
      let none = eqb-true (get_or ws (n / 64) 0 / 2 ^ (n % 64)) 0 (sym (spare_word ws n long rest here) ∙ zeros) in
      subst (λ k. get_or ws i 0 < 2 ^ k) size (subst (λ j. get_or ws j 0 < 2 ^ (n % 64)) (sym last) (small_shifted (get_or ws (n / 64) 0) (n % 64) none)))
      (λ l. let size : 64 ≡ min 64 (n - 64 * i) = omega arith in subst (λ k. get_or ws i 0 < 2 ^ k) size (fits i h))
      (cases_lt n (64 * (i + 1)))

  pub packed_spare : packed_bits (bits_in ws n) ≡ ws
  packed_spare = packed_again ws n long small
