-- What a stretch of words tells of the words. Assumes nothing.
use Rattle.std.proofs.Common.{◌≡◌, ℕ, zero, suc, ◌+◌, ◌-◌, ◌*◌, ◌/◌, ◌%◌, ◌<◌, ◌≤◌, min, cond, List, length, get_or, take, drop, Some, None, Option, sym, ap, ◌∙◌, subst, ⊎_elim, arith}
use Rattle.std.specs.Option.{option_map}
use Rattle.std.proofs.lemmas.List.{get_or-take, get_or-drop, length-take, length-drop}
use Rattle.std.proofs.lemmas.Bool.{cases_lt}
use Rattle.ordered.specs.Lists.{first_place}
use Rattle.bits.specs.Words.{bit_of, bit_at, bits_in}
use Rattle.bits.proofs.FirstPlace.{first_is, first_not, first_found, none_before}
use Rattle.bits.proofs.Words.{bit_past}
use Rattle.bitmaps.specs.Counts.{ones_of}
use Rattle.bitmaps.specs.Stretches.{stretch_bits}
use Rattle.bitmaps.proofs.Tested.{ones, ones_more, ones_gap}

module _ (ws : List ℕ) (i d : ℕ) where
  -- d words from the word i on, or all that there are
  abbrev pub part : List ℕ
  part = take d (drop i ws)

  pub bit_part : (k : ℕ) → k < 64 * d → bit_at part k ≡ bit_at ws (64 * i + k)
  unfolding bit_at
  bit_part k h =
      let word : i + k / 64 ≡ (64 * i + k) / 64 = omega arith in
      let bit : k % 64 ≡ (64 * i + k) % 64 = omega arith in
      ap (λ w. bit_of w (k % 64)) (get_or-take d (drop i ws) (k / 64) 0 (omega arith) ∙ get_or-drop i ws (k / 64) 0)
      ∙ ap (λ j. bit_of (get_or ws j 0) (k % 64)) word
      ∙ ap (bit_of (get_or ws ((64 * i + k) / 64) 0)) bit

  pub ones_part : (n : ℕ) → n ≤ 64 * d → ones (bit_at ws) (64 * i) + ones (bit_at part) n ≡ ones (bit_at ws) (64 * i + n)
  ones_part zero h = let e : 64 * i ≡ 64 * i + 0 = omega arith in omega (arith, ap (ones (bit_at ws)) e)
  ones_part (suc n) h =
      let next : n + 1 ≡ suc n = omega arith in
      let further : 64 * i + n + 1 ≡ 64 * i + suc n = omega arith in
      omega (
        arith,
        ones_part n (omega arith),
        ap (ones (bit_at part)) next,
        ones_more (bit_at part) n,
        ap (λ b. cond {A = ℕ} b 1 0) (bit_part n (omega arith)),
        ap (ones (bit_at ws)) further,
        ones_more (bit_at ws) (64 * i + n),
      )

  part_long : (k : ℕ) → 64 * length part ≤ k → k < 64 * d → 64 * length ws ≤ 64 * i + k
  part_long k low high = omega (arith, length-take d (drop i ws), length-drop i ws)

  -- the first one of the stretch, by its place in all the words
  pub first_part : (r : Option ℕ) → r ≡ first_place (bit_at part) 0 (64 * length part) → option_map (λ p. 64 * i + p) r ≡ first_place (bit_at ws) (64 * i) (64 * d)
  first_part None e =
      sym (first_not (bit_at ws) (64 * i) (64 * d)
      (λ k low high.
      let here : 64 * i + (k - 64 * i) ≡ k = omega arith in
      ⊎_elim
      (λ l. ap (bit_at ws) (sym here) ∙ sym (bit_part (k - 64 * i) (omega arith)) ∙ none_before (bit_at part) 0 (64 * length part) (sym e) (k - 64 * i) (omega arith) (omega arith))
      (λ l. bit_past ws k (omega (arith, part_long (k - 64 * i) l (omega arith))))
      (cases_lt (k - 64 * i) (64 * length part))))
  first_part (Some p) e =
      let found = first_found (bit_at part) 0 (64 * length part) p (sym e) in
      let short : 64 * length part ≤ 64 * d = omega (arith, length-take d (drop i ws)) in
      sym (first_is (bit_at ws) (64 * i) (64 * d) (64 * i + p) (omega arith) (omega (arith, found.1))
      (λ k low high.
      let here : 64 * i + (k - 64 * i) ≡ k = omega arith in
      ap (bit_at ws) (sym here) ∙ sym (bit_part (k - 64 * i) (omega (arith, found.1))) ∙ found.2 (k - 64 * i) (omega arith) (omega arith))
      (sym (bit_part p (omega (arith, found.1))) ∙ found.3))

-- the ones up to a word, and those of the words from it on
pub ones_between : (ws : List ℕ) (i j : ℕ) → i ≤ j → j ≤ length ws → ones_of (bits_in ws (64 * i)) + ones_of (stretch_bits (take (j - i) (drop i ws))) ≡ ones_of (bits_in ws (64 * j))
ones_between ws i j h l =
    let long : length (part ws i (j - i)) ≡ j - i = omega (arith, length-take (j - i) (drop i ws), length-drop i ws) in
    let end : 64 * i + 64 * length (part ws i (j - i)) ≡ 64 * j = omega arith in
    ones_part ws i (j - i) (64 * length (part ws i (j - i))) (omega arith) ∙ ap (ones (bit_at ws)) end

-- the words of a block
abbrev pub block_at : List ℕ → ℕ → List ℕ
block_at ws block = part ws (8 * block) (8 - 8 * block % 8)

pub block_long : (ws : List ℕ) (block : ℕ) → length (block_at ws block) ≡ min 8 (length ws - 8 * block)
block_long ws block = omega (arith, length-take (8 - 8 * block % 8) (drop (8 * block) ws), length-drop (8 * block) ws)

pub bit_block : (ws : List ℕ) (block k : ℕ) → k < 512 → bit_at (block_at ws block) k ≡ bit_at ws (512 * block + k)
bit_block ws block k h = let e : 64 * (8 * block) + k ≡ 512 * block + k = omega arith in bit_part ws (8 * block) (8 - 8 * block % 8) k (omega arith) ∙ ap (bit_at ws) e

pub ones_in_block : (ws : List ℕ) (block n : ℕ) → n ≤ 512 → ones (bit_at ws) (512 * block) + ones (bit_at (block_at ws block)) n ≡ ones (bit_at ws) (512 * block + n)
ones_in_block ws block n h =
    let e : 64 * (8 * block) ≡ 512 * block = omega arith in
    subst (λ m. ones (bit_at ws) m + ones (bit_at (block_at ws block)) n ≡ ones (bit_at ws) (m + n)) e (ones_part ws (8 * block) (8 - 8 * block % 8) n (omega arith))

-- the ones of the whole block; past the words there is none
pub ones_block : (ws : List ℕ) (block : ℕ) → ones_of (bits_in ws (512 * block)) + ones_of (stretch_bits (block_at ws block)) ≡ ones_of (bits_in ws (512 * (block + 1)))
ones_block ws block =
    let n : ℕ = 64 * length (block_at ws block) in
    let long = block_long ws block in
    ones_in_block ws block n (omega arith)
    ∙ sym (ones_gap (bit_at ws) (512 * block + n) (512 * (block + 1)) (omega arith) (λ k low high. bit_past ws k (omega arith)))
