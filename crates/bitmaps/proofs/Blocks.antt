-- What the directory of plain bits tells of the blocks. Assumes nothing.
use Rattle.std.proofs.Common.{◌≡◌, ℕ, ◌+◌, ◌-◌, ◌*◌, ◌%◌, ◌<◌, ◌≤◌, true, false, not, ltb, List, length, get_or, Some, None, Option, IfSome, SomeIff, sym, refl, ap, ◌∙◌, inl, inr, ⊎_elim, arith}
use Rattle.std.proofs.lemmas.Bool.{cases_Bool, cases_lt, cases_eq, lt-ltb, le-ltb, ltb-true, ltb-false, not_from_false}
use Rattle.ordered.specs.Lists.{first_place}
use Rattle.ordered.specs.Numbers.{number_order}
use Rattle.ordered.specs.Order.{ascends, first_not_below}
use Rattle.ordered.proofs.Lists.{chained_from_places}
use Rattle.ordered.proofs.Places.{place_upto, place_past, place_length}
use Rattle.bits.specs.Words.{bit_at}
use Rattle.bits.proofs.FirstPlace.{none_before, first_skip, first_longer, first_within}
use Rattle.bits.proofs.Words.{bit_past}
use Rattle.bitmaps.specs.Counts.{select_of}
use Rattle.bitmaps.specs.PlainMeaning.{plain_bits}
use Rattle.bitmaps.specs.Stretches.{stretch_bits}
use Rattle.bitmaps.specs.declared.plain.PlainBits.{PlainBits}
use Rattle.bitmaps.proofs.Stretches.{block_at, block_long, bit_block, ones_in_block}
use Rattle.bitmaps.proofs.Tested.{ones, ones_bound, ones_mono, ones_gap, no_ones, select_is, select_none, select_found, select_missed}

module _ (p : PlainBits) where
  abbrev ws : List ℕ
  ws = p.words.now

  abbrev dir : List ℕ
  dir = p.directory.now

  -- how many of the first bits are ones
  abbrev before : ℕ → ℕ
  before n = ones (bit_at ws) n

  pub dir_at : (b : ℕ) → b < length dir → get_or dir b 0 ≡ before (512 * b)
  dir_at b h = p.counts b (omega (arith, p.begun))

  pub dir_bound : (b : ℕ) → b < length dir → get_or dir b 0 ≤ p.len
  dir_bound b h = omega (arith, dir_at b h, ones_bound (bit_at ws) (512 * b), p.begun)

  dir_ascends : ascends ltb dir ≡ true
  dir_ascends =
      chained_from_places (λ x y. not (ltb y x)) dir 0
      (λ i h. not_from_false _ (le-ltb (get_or dir (i + 1) 0) (get_or dir i 0) (omega (arith, dir_at i (omega arith), dir_at (i + 1) h, ones_mono (bit_at ws) (512 * i) (512 * (i + 1)) (omega arith)))))

  -- where a search of a list that holds the directory ends
  pub searched : (entries : List ℕ) (key next : ℕ) → entries ≡ dir → (ascends ltb entries ≡ true → next ≡ first_not_below ltb key entries) → next ≡ first_not_below ltb key dir
  searched entries key next is found = found (ap (ascends ltb) is ∙ dir_ascends) ∙ ap (first_not_below ltb key) is

  -- the last block with fewer ones before it than the key
  module _ (key block : ℕ) (found : block + 1 ≡ first_not_below ltb key dir) where
    pub block_within : block < length dir
    block_within = omega (arith, found, place_length ltb key dir)

    pub block_past : (b : ℕ) → b < length dir → get_or dir b 0 < key → b ≤ block
    block_past b h l = omega (arith, found, place_past ltb number_order key dir b 0 dir_ascends h (lt-ltb (get_or dir b 0) key l))

    -- it is below the key, and the next block is not
    pub block_before : get_or dir block 0 < key
    block_before =
        ⊎_elim
        (λ t. ltb-true (get_or dir block 0) key t)
        (λ f. absurd (omega (arith, found, place_upto ltb key dir block 0 block_within f)))
        (cases_Bool (ltb (get_or dir block 0) key))

    pub block_after : block + 1 < length dir → key ≤ get_or dir (block + 1) 0
    block_after h =
        ⊎_elim
        (λ t. absurd (omega (arith, found, place_past ltb number_order key dir (block + 1) 0 dir_ascends h t)))
        (λ f. ltb-false (get_or dir (block + 1) 0) key f)
        (cases_Bool (ltb (get_or dir (block + 1) 0) key))

  pub last_within : (key : ℕ) (r : Option ℕ) → SomeIff r (0 < first_not_below ltb key dir) (first_not_below ltb key dir - 1) → IfSome r (λ block. block < length dir)
  last_within key None e = tt
  last_within key (Some block) e = block_within key block (omega (arith, e))

  pub last_fewer : (key : ℕ) (r : Option ℕ) → SomeIff r (0 < first_not_below ltb key dir) (first_not_below ltb key dir - 1) → IfSome r (λ block. get_or dir block 0 < key)
  last_fewer key None e = tt
  last_fewer key (Some block) e = block_before key block (omega (arith, e))

  -- the first one from a block on is in the last block with no more ones before it
  module _ (b block : ℕ) (within : b < length dir) (found : block + 1 ≡ first_not_below ltb (get_or dir b 0 + 1) dir) where
    zeros : (k : ℕ) → 512 * b ≤ k → k < 512 * block → bit_at ws k ≡ false
    zeros =
        no_ones (bit_at ws) (512 * b) (512 * block)
        (omega (arith, block_before (get_or dir b 0 + 1) block found, dir_at b within, dir_at block (block_within (get_or dir b 0 + 1) block found)))

    -- a block that does not end the row has a one
    full : 512 * (block + 1) < p.len → (r : Option ℕ) → first_place (bit_at ws) (512 * block) 512 ≡ r → first_place (bit_at ws) (512 * block) 512 ≡ first_place (bit_at ws) (512 * block) (p.len - 512 * block)
    full h None none =
        let begins : block + 1 < length dir = omega (arith, p.begun) in
        let same : before (512 * (block + 1)) ≡ before (512 * block) = ones_gap (bit_at ws) (512 * block) (512 * (block + 1)) (omega arith) (λ k low high. none_before (bit_at ws) (512 * block) 512 none k low (omega arith)) in
        absurd (omega (arith, same, dir_at (block + 1) begins, dir_at block (omega arith), block_after (get_or dir b 0 + 1) block found begins, block_before (get_or dir b 0 + 1) block found))
    full h (Some q) some = some ∙ sym (first_within (bit_at ws) (512 * block) 512 (p.len - 512 * block) q (omega arith) some)

    pub first_in_last : first_place (bit_at ws) (64 * (8 * block)) (64 * (8 - 8 * block % 8)) ≡ first_place (bit_at ws) (512 * b) (p.len - 512 * b)
    first_in_last =
        let past : b ≤ block = block_past (get_or dir b 0 + 1) block found b within (omega arith) in
        let inside = block_within (get_or dir b 0 + 1) block found in
        let row = p.begun in
        let start : 64 * (8 * block) ≡ 512 * block = omega arith in
        let whole : 64 * (8 - 8 * block % 8) ≡ 512 = omega arith in
        let rest : 512 * b + (p.len - 512 * b) - 512 * block ≡ p.len - 512 * block = omega arith in
        ap (λ i. first_place (bit_at ws) i (64 * (8 - 8 * block % 8))) start
        ∙ ap (first_place (bit_at ws) (512 * block)) whole
        ∙ ⊎_elim
        (λ short. full short (first_place (bit_at ws) (512 * block) 512) refl)
        (λ long. first_longer (bit_at ws) (512 * block) (p.len - 512 * block) 512 (omega arith) (λ k low high. p.spare k (omega arith)))
        (cases_lt (512 * (block + 1)) p.len)
        ∙ sym (first_skip (bit_at ws) (512 * b) (512 * block) (p.len - 512 * b) (omega arith) (omega arith) zeros ∙ ap (first_place (bit_at ws) (512 * block)) rest)

  -- where each block has as many ones before it as the number, no one has the number
  pub select_first : (nth : ℕ) → first_not_below ltb nth dir ≡ 0 → None ≡ select_of (plain_bits p) nth
  select_first nth z =
      select_none (bit_at ws) p.len p.spare nth
      (⊎_elim
      (λ none. inl none)
      (λ some.
      ⊎_elim
      (λ empty. let no : p.len ≡ 0 = omega (arith, p.begun) in inr (omega (arith, ones_bound (bit_at ws) p.len)))
      (λ row.
      let first : get_or dir 0 0 < nth = omega (arith, dir_at 0 (omega arith), ones_bound (bit_at ws) (512 * 0)) in
      absurd (omega (arith, z, place_past ltb number_order nth dir 0 0 dir_ascends (omega arith) (lt-ltb (get_or dir 0 0) nth first))))
      (cases_eq (length dir) 0))
      (cases_eq nth 0))

  -- otherwise the one of the number is in the last block with fewer before it
  module _ (nth block : ℕ) (found : block + 1 ≡ first_not_below ltb nth dir) where
    -- the words of the block
    abbrev here : List ℕ
    here = block_at ws block

    pub select_some : (q : ℕ) → select_of (stretch_bits here) (nth - get_or dir block 0) ≡ Some q → (q < 512) × (Some (512 * block + q) ≡ select_of (plain_bits p) nth)
    select_some q e =
        let one = select_found (bit_at here) (64 * length here) (bit_past here) q (nth - get_or dir block 0) e in
        let long = block_long ws block in
        let inside : q < 512 = omega (arith, one.0) in (
          inside,
          select_is (bit_at ws) p.len p.spare (512 * block + q) nth
              (sym (bit_block ws block q inside) ∙ one.1)
              (omega (arith, one.2, ones_in_block ws block q (omega arith), dir_at block (block_within nth block found), block_before nth block found)),
        )

    pub select_fewer : select_of (stretch_bits here) (nth - get_or dir block 0) ≡ None → None ≡ select_of (plain_bits p) nth
    select_fewer e =
        let after = block_before nth block found in
        let long = block_long ws block in
        let held = p.held in
        let begun = p.begun in
        let few = select_missed (bit_at here) (64 * length here) (bit_past here) (nth - get_or dir block 0) (omega arith) e in
        let all = ones_in_block ws block (64 * length here) (omega arith) in
        let told = dir_at block (block_within nth block found) in
        select_none (bit_at ws) p.len p.spare nth
        (⊎_elim
        (λ (more : block + 1 < length dir).
        let end : 512 * block + 64 * length here ≡ 512 * (block + 1) = omega arith in
        absurd (omega (arith, few, all, told, ap before end, dir_at (block + 1) more, block_after nth block found more)))
        (λ last. inr (omega (arith, few, all, told, ones_mono (bit_at ws) p.len (512 * block + 64 * length here) (omega arith))))
        (cases_lt (block + 1) (length dir)))
