-- The spare bits after the last bit of a row. Assumes nothing.
use Rattle.std.proofs.Common.{◌≡◌, ℕ, ◌+◌, ◌-◌, ◌*◌, ◌/◌, ◌%◌, ◌^◌, ◌<◌, ◌≤◌, ◌↔◌, Bool, true, false, not, eqb, List, length, get_or, drop, All, IsTrue, sym, ap, subst, ◌∙◌, ⊎_elim, arith, length-drop}
use Rattle.std.proofs.lemmas.List.{get_or-drop, get_or_default}
use borrow.Author.Numbers.{trailing_lt}
use lib.Count.{count_trailing_zeros}
use lib.Pow.{shr_le}
use Rattle.std.proofs.lemmas.Bool.{cases_Bool, cases_eq, cases_lt, eq-eqb, ne_eqb, both_ways, not_from_false, not-true}
use Rattle.bits.specs.Words.{bit_of, bit_at, spare_zero}
use Rattle.bits.proofs.Words.{no_bit_in_word, bit_in_word, bit_shifted, bit_of_none, bit_past, no_bit_above, trailing_one}
use Rattle.bits.proofs.Ranges.{each_from_range, each_range, each_fails}

module _ (ws : List ℕ) where
  -- the high bits of a word are zeros exactly if it is nothing when shifted down
  pub high_clear : (i r : ℕ) → get_or ws i 0 / 2 ^ r ≡ 0 → (k : ℕ) → 64 * i + r ≤ k → k < 64 * (i + 1) → bit_at ws k ≡ false
  high_clear i r z k low high =
      let e : 64 * i + (r + (k - 64 * i - r)) ≡ k = omega arith in
      ap (bit_at ws) (sym e)
      ∙ bit_in_word ws i (r + (k - 64 * i - r)) (omega arith)
      ∙ sym (bit_shifted (get_or ws i 0) r (k - 64 * i - r))
      ∙ bit_of_none (get_or ws i 0 / 2 ^ r) (k - 64 * i - r) z

  high_set : (i r : ℕ) → get_or ws i 0 < 2 ^ 64 → (get_or ws i 0 / 2 ^ r ≡ 0 → ⊥) → (t : ℕ) × (r + t < 64) × (bit_at ws (64 * i + (r + t)) ≡ true)
  high_set i r fits some =
      let rest : ℕ = get_or ws i 0 / 2 ^ r in
      let t : ℕ = count_trailing_zeros 64 rest in
      let small : rest < 2 ^ 64 = omega (arith, shr_le (get_or ws i 0) r) in
      let short : t < 64 = trailing_lt 64 rest (omega (arith, some)) small in
      let set : bit_of (get_or ws i 0) (r + t) ≡ true = sym (bit_shifted (get_or ws i 0) r t) ∙ trailing_one 64 rest short in
      let inside : r + t < 64 = ⊎_elim (λ l. l) (λ l. absurd (both_ways _ (no_bit_above 64 (get_or ws i 0) (r + t) fits l) set)) (cases_lt (r + t) 64) in
      (t, inside, bit_in_word ws i (r + t) inside ∙ set)

  pub spare_clear : (len : ℕ) → ((k : ℕ) → len ≤ k → k < 64 * length ws → bit_at ws k ≡ false) → true ≡ spare_zero ws len
  unfolding spare_zero
  spare_clear len none = sym (each_from_range (λ k. not (bit_at ws k)) len (64 * length ws - len) (λ k low high. not_from_false _ (none k low (omega arith))))

  pub spare_set : (len i r : ℕ) → len ≤ 64 * i + r → i < length ws → get_or ws i 0 < 2 ^ 64 → (get_or ws i 0 / 2 ^ r ≡ 0 → ⊥) → false ≡ spare_zero ws len
  unfolding spare_zero
  spare_set len i r low within fits some =
      let one = high_set i r fits some in
      let here : 64 * i + (r + one.0) < 64 * length ws = omega (arith, one.1) in
      sym (each_fails (λ k. not (bit_at ws k)) len (64 * length ws - len) (64 * i + (r + one.0)) (omega arith) (omega (arith, here)) (ap not one.2))

  -- the spare bits are those of the last word that are not in the row
  pub spare_word : (len : ℕ) → length ws ≡ (len + 63) / 64 → 0 < len % 64 → get_or ws (len / 64) 0 < 2 ^ 64 → spare_zero ws len ≡ eqb (get_or ws (len / 64) 0 / 2 ^ (len % 64)) 0
  spare_word len long some fits =
      ⊎_elim
      (λ z. sym (spare_clear len (λ k low high. high_clear (len / 64) (len % 64) z k (omega arith) (omega arith))) ∙ sym (eq-eqb (get_or ws (len / 64) 0 / 2 ^ (len % 64)) 0 z))
      (λ n. sym (spare_set len (len / 64) (len % 64) (omega arith) (omega arith) fits n) ∙ sym (ne_eqb (get_or ws (len / 64) 0 / 2 ^ (len % 64)) 0 n))
      (cases_eq (get_or ws (len / 64) 0 / 2 ^ (len % 64)) 0)

  -- where they are zeros, so is all that follows
  pub spare_all : (len : ℕ) → spare_zero ws len ≡ true → (k : ℕ) → len ≤ k → bit_at ws k ≡ false
  unfolding spare_zero
  spare_all len e k low =
      ⊎_elim
      (λ l. not-true _ (each_range (λ k. not (bit_at ws k)) len (64 * length ws - len) e k low (omega arith)))
      (λ l. bit_past ws k l)
      (cases_lt k (64 * length ws))

  -- where the spare bits are zeros, so is each word after the row
  zero_after : (len i : ℕ) → len ≤ 64 * i → i < length ws → get_or ws i 0 < 2 ^ 64 → spare_zero ws len ≡ true → get_or ws i 0 ≡ 0
  zero_after len i low within fits clear =
      ⊎_elim
      (λ z. z)
      (λ some.
      let whole : get_or ws i 0 / 2 ^ 0 ≡ get_or ws i 0 = omega arith in
      absurd (both_ways _ (sym (spare_set len i 0 (omega arith) within fits (λ z. some (sym whole ∙ z)))) clear))
      (cases_eq (get_or ws i 0) 0)

  zeros_after : (len : ℕ) → ((i : ℕ) → i < length ws → get_or ws i 0 < 2 ^ 64) → spare_zero ws len ≡ true → All (λ w. w ≡ 0) (drop (len / 64 + 1) ws)
  zeros_after len fits clear i d low =
      let within : len / 64 + 1 + i < length ws = omega (arith, length-drop (len / 64 + 1) ws) in
      rw (get_or-drop (len / 64 + 1) ws i d) (rw (get_or_default ws (len / 64 + 1 + i) d 0 within) (zero_after len (len / 64 + 1 + i) (omega arith) within (fits (len / 64 + 1 + i) within) clear))

  -- where the last word of the row has no bits after it and each word after it is zero, the spare bits are zeros
  clear_after : (len : ℕ) → get_or ws (len / 64) 0 / 2 ^ (len % 64) ≡ 0 → All (λ w. w ≡ 0) (drop (len / 64 + 1) ws) → (k : ℕ) → len ≤ k → k < 64 * length ws → bit_at ws k ≡ false
  clear_after len here later k low high =
      ⊎_elim
      (λ l. high_clear (len / 64) (len % 64) here k (omega arith) (omega (arith, l)))
      (λ (l : 64 * (len / 64 + 1) ≤ k).
      let e : len / 64 + 1 + (k / 64 - (len / 64 + 1)) ≡ k / 64 = omega arith in
      let inside : k / 64 - (len / 64 + 1) < length (drop (len / 64 + 1) ws) = omega (arith, length-drop (len / 64 + 1) ws) in
      let zero : get_or ws (k / 64) 0 ≡ 0 = subst (λ i. get_or ws i 0 ≡ 0) e (sym (get_or-drop (len / 64 + 1) ws (k / 64 - (len / 64 + 1)) 0) ∙ later (k / 64 - (len / 64 + 1)) 0 inside) in
      no_bit_in_word ws (k / 64) zero k (omega arith) (omega arith))
      (cases_lt k (64 * (len / 64 + 1)))

  -- so these words tell of the spare bits
  pub spare_words : (len : ℕ) (t : Bool) → ((i : ℕ) → i < length ws → get_or ws i 0 < 2 ^ 64) → get_or ws (len / 64) 0 / 2 ^ (len % 64) ≡ 0 → IsTrue t ↔ All (λ w. w ≡ 0) (drop (len / 64 + 1) ws) → t ≡ spare_zero ws len
  spare_words len t fits here later =
      ⊎_elim
      (λ yes. yes ∙ spare_clear len (clear_after len here (later.0 yes)))
      (λ no.
      ⊎_elim
      (λ clear. absurd (both_ways _ no (later.1 (zeros_after len fits clear))))
      (λ set. no ∙ sym set)
      (cases_Bool (spare_zero ws len)))
      (cases_Bool t)
