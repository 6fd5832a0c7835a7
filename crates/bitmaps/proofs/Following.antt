-- Rank and following of plain bits, by their words. Assumes nothing.
use Rattle.std.proofs.Common.{◌≡◌, ℕ, ◌+◌, ◌-◌, ◌*◌, ◌/◌, ◌%◌, ◌^◌, ◌<◌, ◌≤◌, true, false, List, get_or, Some, None, sym, ap, ◌∙◌, subst, ⊎_elim, arith, shr_lt}
use lib.Pow.{shr_le}
use borrow.Author.Numbers.{trailing_lt}
use lib.Count.{count_trailing_zeros}
use Rattle.std.proofs.lemmas.Bool.{cases_lt, both_ways}
use Rattle.ordered.specs.Lists.{first_place}
use Rattle.bits.proofs.FirstPlace.{first_found, first_skip, none_before}
use Rattle.bits.specs.Words.{bit_of, bit_at}
use Rattle.bits.proofs.Words.{bit_in_word, bit_shifted, bit_of_none, no_bit_above, trailing_zeros, trailing_one}
use Rattle.bitmaps.specs.Counts.{following_of}
use Rattle.bitmaps.specs.PlainMeaning.{plain_bits}
use Rattle.bitmaps.specs.declared.plain.PlainBits.{PlainBits}
use Rattle.bitmaps.proofs.Tested.{following_is, following_none, following_told}

module _ (p : PlainBits) (i : ℕ) (word : get_or p.words.now (i / 64) 0 < 2 ^ 64) where
  abbrev ws : List ℕ
  ws = p.words.now

  -- the rest of the word of the place
  abbrev rest : ℕ
  rest = get_or ws (i / 64) 0 / 2 ^ (i % 64)

  -- the bits from the place on, to the end of its word
  bit_rest : (j : ℕ) → i % 64 + j < 64 → bit_at ws (i + j) ≡ bit_of rest j
  bit_rest j h =
      let e : i + j ≡ 64 * (i / 64) + (i % 64 + j) = omega arith in
      ap (bit_at ws) e ∙ bit_in_word ws (i / 64) (i % 64 + j) h ∙ sym (bit_shifted (get_or ws (i / 64) 0) (i % 64) j)

  pub following_here : 0 < rest → Some (i + count_trailing_zeros 64 rest) ≡ following_of (plain_bits p) i
  following_here some =
      let t : ℕ = count_trailing_zeros 64 rest in
      let short : t < 64 = trailing_lt 64 rest some (omega (arith, shr_le (get_or ws (i / 64) 0) (i % 64))) in
      let one : bit_of rest t ≡ true = trailing_one 64 rest short in
      let size : 64 - i % 64 + i % 64 ≡ 64 = omega arith in
      let low : get_or ws (i / 64) 0 < 2 ^ (64 - i % 64 + i % 64) = subst (λ k. get_or ws (i / 64) 0 < 2 ^ k) (sym size) word in
      let bounded : rest < 2 ^ (64 - i % 64) = shr_lt (64 - i % 64) (i % 64) low in
      let inside : i % 64 + t < 64 = ⊎_elim (λ l. l) (λ l. absurd (both_ways _ (no_bit_above (64 - i % 64) rest t bounded (omega arith)) one)) (cases_lt (i % 64 + t) 64) in
      following_is (bit_at ws) p.len p.spare i (i + t) (omega arith)
      (λ k a b. let e : i + (k - i) ≡ k = omega arith in ap (bit_at ws) (sym e) ∙ bit_rest (k - i) (omega arith) ∙ trailing_zeros 64 rest (k - i) (omega arith))
      (bit_rest t inside ∙ one)

  module _ (z : rest ≡ 0) where
    -- no one in the rest of the word
    rest_zeros : (k : ℕ) → i ≤ k → k < 64 * (i / 64 + 1) → bit_at ws k ≡ false
    rest_zeros k a b = let e : i + (k - i) ≡ k = omega arith in ap (bit_at ws) (sym e) ∙ bit_rest (k - i) (omega arith) ∙ bit_of_none rest (k - i) z

    module _ (next : ℕ) (is : next ≡ i / 64 + 1) where
      -- the first place in the rest of the block of the next word
      pub following_block : (q : ℕ) → first_place (bit_at ws) (64 * next) (64 * (8 - next % 8)) ≡ Some q → Some q ≡ following_of (plain_bits p) i
      following_block q e =
          let found = first_found (bit_at ws) (64 * next) (64 * (8 - next % 8)) q e in
          following_is (bit_at ws) p.len p.spare i q (omega (arith, found.0))
          (λ k a b. ⊎_elim (λ l. rest_zeros k a l) (λ l. found.2 k (omega arith) b) (cases_lt k (64 * (i / 64 + 1))))
          found.3

      -- or the first one from the next block on
      pub following_later : first_place (bit_at ws) (64 * next) (64 * (8 - next % 8)) ≡ None → first_place (bit_at ws) (512 * (next / 8 + 1)) (p.len - 512 * (next / 8 + 1)) ≡ following_of (plain_bits p) i
      following_later e =
          let m : ℕ = 512 * (next / 8 + 1) in
          let zeros : (k : ℕ) → i ≤ k → k < m → bit_at ws k ≡ false =
          λ k a b. ⊎_elim (λ l. rest_zeros k a l) (λ l. none_before (bit_at ws) (64 * next) (64 * (8 - next % 8)) e k (omega arith) (omega arith)) (cases_lt k (64 * (i / 64 + 1))) in
          ⊎_elim
          (λ l.
          let end : i + (p.len - i) - m ≡ p.len - m = omega arith in
          sym (following_told (bit_at ws) p.len p.spare i ∙ first_skip (bit_at ws) i m (p.len - i) (omega arith) (omega arith) zeros ∙ ap (first_place (bit_at ws) m) end))
          (λ l.
          let end : p.len - m ≡ 0 = omega arith in
          ap (first_place (bit_at ws) m) end
          ∙ following_none (bit_at ws) p.len p.spare i (λ k a. ⊎_elim (λ h. zeros k a h) (λ h. p.spare k (omega arith)) (cases_lt k m)))
          (cases_lt m p.len)
