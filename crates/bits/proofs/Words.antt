-- Laws of bits in words. Assumes nothing.
use Rattle.std.proofs.Common.{◌≡◌, ℕ, zero, suc, ◌+◌, ◌-◌, ◌*◌, ◌/◌, ◌%◌, ◌^◌, ◌<◌, ◌≤◌, true, false, cond, eqb, List, ◌∷◌, ◌++◌, map, length, get_or, Some, None, count_by, sym, refl, ap, ◌∙◌, ⊎_elim, arith, pow_mono, shr-shr}
use lib.Count.{ones, ones_step, ones-le, under, count_trailing_zeros}
use lib.Pow.{shr_le, field, mod-mod-pow}
use native.Mathlib.Nat.{div-eq_of_lt}
use Rattle.std.specs.List.{slice_get, range_with_len}
use Rattle.std.proofs.lemmas.Option.{slice_get-get_or, slice_get_past}
use Rattle.std.proofs.lemmas.List.Sums.{sum_by-cons, sum_by-append}
use Rattle.std.proofs.lemmas.List.FromFn.{length-map-range_with_len, get_or-map-range_with_len}
use Rattle.std.proofs.lemmas.List.{map-append, get_or_past}
use Rattle.std.proofs.lemmas.Bool.{eq-eqb, ne_eqb, cases_eq, cond-true, cond-false}
use Rattle.bits.specs.Words.{bit_of, bit_at, bits_in, number_of}

-- the next bit is the first of the half
pub bit_of-suc : (w k : ℕ) → bit_of w (suc k) ≡ bit_of (w / 2) k
unfolding bit_of
bit_of-suc w k =
    let e : w / 2 / 2 ^ k ≡ w / 2 ^ (1 + k) = shr-shr w 1 k in
    let f : 1 + k ≡ suc k = omega arith in
    ap (λ x. eqb (x % 2) 1) (sym (e ∙ ap (λ j. w / 2 ^ j) f))

pub bit_of-zero : (w : ℕ) → cond (bit_of w 0) 1 0 ≡ w % 2
unfolding bit_of
bit_of-zero w =
    let one : w / 2 ^ 0 ≡ w = omega arith in
    ap (λ x. cond (eqb (x % 2) 1) 1 0) one
    ∙ ⊎_elim
    (λ e. cond-true _ _ _ (eq-eqb (w % 2) 1 e) ∙ sym e)
    (λ n. cond-false _ _ _ (ne_eqb (w % 2) 1 n) ∙ omega arith)
    (cases_eq (w % 2) 1)

bit_of_number_zero : (k : ℕ) → bit_of 0 k ≡ false
unfolding bit_of
bit_of_number_zero k = ap (λ x. eqb (x % 2) 1) (zero_div k)
  where
    zero_div : (j : ℕ) → 0 / 2 ^ j ≡ 0
    zero_div j = omega (arith, shr_le 0 j)

-- the bits from the second on are those of the half
shifted : (w a n : ℕ) → map (bit_of w) (range_with_len (suc a) n) ≡ map (bit_of (w / 2)) (range_with_len a n)
shifted w a zero = refl
shifted w a (suc n) =
    let next : suc a + 1 ≡ suc (a + 1) = omega arith in
    λ i. bit_of-suc w a i ∷ (ap (λ b. map (bit_of w) (range_with_len b n)) next ∙ shifted w (a + 1) n) i

shift_bits : (w n : ℕ) → map (bit_of w) (range_with_len (0 + 1) n) ≡ map (bit_of (w / 2)) (range_with_len 0 n)
shift_bits w n = shifted w 0 n

-- a number below 2 ^ k is the number of its first k bits
pub number_of_bits : (k w : ℕ) → w < 2 ^ k → number_of (map (bit_of w) (range_with_len 0 k)) ≡ w
number_of_bits zero w h = omega arith
number_of_bits (suc k) w h =
    let half : w / 2 < 2 ^ k = omega arith in
    ap (λ x. cond (bit_of w 0) 1 0 + 2 * number_of x) (shift_bits w k)
    ∙ ap (λ x. cond (bit_of w 0) 1 0 + 2 * x) (number_of_bits k (w / 2) half)
    ∙ omega (arith, bit_of-zero w)

-- the bits of words by place
pub nth-bits : (ws : List ℕ) (n i : ℕ) → i < n → slice_get (bits_in ws n) i ≡ Some (bit_at ws i)
nth-bits ws n i h =
    let long : i < length (bits_in ws n) = omega (arith, length-map-range_with_len (bit_at ws) 0 n) in
    slice_get-get_or (bits_in ws n) i false long ∙ ap Some (get_or-map-range_with_len (bit_at ws) 0 n i i false h (omega arith))

pub nth_past_bits : (ws : List ℕ) (n i : ℕ) → n ≤ i → slice_get (bits_in ws n) i ≡ None
nth_past_bits ws n i h = slice_get_past (bits_in ws n) i (omega (arith, length-map-range_with_len (bit_at ws) 0 n))

-- how many of the first k bits of a number are ones
pub ones_of_bits : (k w : ℕ) → count_by (λ b. b) (map (bit_of w) (range_with_len 0 k)) ≡ ones (w % 2 ^ k)
ones_of_bits zero w = none ∙ ap ones (sym (mod_one w))
  where
    none : 0 ≡ ones 0
    none = let small : 0 < 2 ^ 0 = omega arith in omega (arith, ones-le 0 0 small)

    mod_one : (n : ℕ) → n % 2 ^ 0 ≡ 0
    mod_one n = omega arith
ones_of_bits (suc k) w =
    sum_by-cons (λ b. cond b 1 0) (bit_of w 0) (map (bit_of w) (range_with_len (0 + 1) k))
    ∙ ap (λ bs. cond (bit_of w 0) 1 0 + count_by (λ b. b) bs) (shift_bits w k)
    ∙ ap (λ n. cond (bit_of w 0) 1 0 + n) (ones_of_bits k (w / 2))
    ∙ ap (λ n. n + ones (w / 2 % 2 ^ k)) (bit_of-zero w)
    ∙ sym (step k)
  where
    one : (k : ℕ) → suc k ≡ k + 1
    one k = omega arith

    step : (k : ℕ) → ones (w % 2 ^ suc k) ≡ w % 2 + ones (w / 2 % 2 ^ k)
    step k =
        let low : w % 2 ^ suc k % 2 ≡ w % 2 = ap (λ j. w % 2 ^ j % 2) (one k) ∙ mod-mod-pow w k 1 in
        let high : w % 2 ^ suc k / 2 ≡ w / 2 % 2 ^ k = ap (λ j. w % 2 ^ j / 2) (one k) ∙ field w k 1 in
        ones_step (w % 2 ^ suc k) ∙ ap (λ x. x + ones (w % 2 ^ suc k / 2)) low ∙ ap (λ x. w % 2 + ones x) high

-- counting on from where another count ended
counting_append : (a m n : ℕ) → range_with_len a (m + n) ≡ range_with_len a m ++ range_with_len (a + m) n
counting_append a zero n =
    let e : 0 + n ≡ n = omega arith in
    let f : a ≡ a + 0 = omega arith in
    ap (range_with_len a) e ∙ ap (λ b. range_with_len b n) f
counting_append a (suc m) n =
    let e : suc m + n ≡ suc (m + n) = omega arith in
    let f : a + 1 + m ≡ a + suc m = omega arith in
    ap (range_with_len a) e ∙ ap (λ xs. a ∷ xs) (counting_append (a + 1) m n ∙ ap (λ b. range_with_len (a + 1) m ++ range_with_len b n) f)

-- the bits of one word
word_bits : (ws : List ℕ) (i a r : ℕ) → a + r ≤ 64 → map (bit_at ws) (range_with_len (64 * i + a) r) ≡ map (bit_of (get_or ws i 0)) (range_with_len a r)
unfolding bit_at
word_bits ws i a zero h = refl
word_bits ws i a (suc r) h =
    let place : (64 * i + a) / 64 ≡ i = omega arith in
    let bit : (64 * i + a) % 64 ≡ a = omega arith in
    let next : 64 * i + a + 1 ≡ 64 * i + (a + 1) = omega arith in
    λ j. (ap (λ x. bit_of (get_or ws x 0) ((64 * i + a) % 64)) place ∙ ap (bit_of (get_or ws i 0)) bit) j ∷ (ap (λ b. map (bit_at ws) (range_with_len b r)) next ∙ word_bits ws i (a + 1) r (omega arith)) j

pub bits-append : (ws : List ℕ) (m n : ℕ) → bits_in ws (m + n) ≡ bits_in ws m ++ map (bit_at ws) (range_with_len m n)
bits-append ws m n =
    let e : 0 + m ≡ m = omega arith in
    ap (map (bit_at ws)) (counting_append 0 m n ∙ ap (λ b. range_with_len 0 m ++ range_with_len b n) e) ∙ map-append (bit_at ws) (range_with_len 0 m) (range_with_len m n)

-- the bits of the words before a word, and then the first of this word
pub bits_in_word : (ws : List ℕ) (i r : ℕ) → r ≤ 64 → bits_in ws (64 * i + r) ≡ bits_in ws (64 * i) ++ map (bit_of (get_or ws i 0)) (range_with_len 0 r)
bits_in_word ws i r h =
    let e : 64 * i ≡ 64 * i + 0 = omega arith in
    bits-append ws (64 * i) r ∙ ap (λ xs. bits_in ws (64 * i) ++ xs) (ap (λ b. map (bit_at ws) (range_with_len b r)) e ∙ word_bits ws i 0 r (omega arith))

-- how many of the first bits of words are ones
pub ones_in_word : (ws : List ℕ) (i r : ℕ) → r ≤ 64 → count_by (λ b. b) (bits_in ws (64 * i + r)) ≡ count_by (λ b. b) (bits_in ws (64 * i)) + ones (get_or ws i 0 % 2 ^ r)
ones_in_word ws i r h =
    ap (count_by (λ b. b)) (bits_in_word ws i r h)
    ∙ sum_by-append (λ b. cond b 1 0) (bits_in ws (64 * i)) (map (bit_of (get_or ws i 0)) (range_with_len 0 r))
    ∙ ap (λ n. count_by (λ b. b) (bits_in ws (64 * i)) + n) (ones_of_bits r (get_or ws i 0))

-- the zeros below the lowest one of a number
pub bit_zero_of : (w : ℕ) → w % 2 ≡ 0 → bit_of w 0 ≡ false
unfolding bit_of
bit_zero_of w e = let one : w / 2 ^ 0 ≡ w = omega arith in ap (λ x. eqb (x % 2) 1) one ∙ ap (λ x. eqb x 1) e

pub bit_one_of : (w : ℕ) → w % 2 ≡ 1 → bit_of w 0 ≡ true
unfolding bit_of
bit_one_of w e = let one : w / 2 ^ 0 ≡ w = omega arith in ap (λ x. eqb (x % 2) 1) one ∙ ap (λ x. eqb x 1) e

trailing_step : (w k j d : ℕ) → w % 2 ≡ d → ((i : ℕ) → i < count_trailing_zeros k (w / 2) → bit_of (w / 2) i ≡ false) → j < under d (count_trailing_zeros k (w / 2)) → bit_of w j ≡ false
trailing_step w k zero zero e ih l = bit_zero_of w e
trailing_step w k (suc i) zero e ih l = bit_of-suc w i ∙ ih i (omega arith)
trailing_step w k j (suc d) e ih l = absurd (omega arith)

pub trailing_zeros : (k w j : ℕ) → j < count_trailing_zeros k w → bit_of w j ≡ false
unfolding count_trailing_zeros
trailing_zeros zero w j h = absurd (omega arith)
trailing_zeros (suc k) w j h = trailing_step w k j (w % 2) refl (λ i l. trailing_zeros k (w / 2) i l) h

trailing_found : (w k d : ℕ) → w % 2 ≡ d → (count_trailing_zeros k (w / 2) < k → bit_of (w / 2) (count_trailing_zeros k (w / 2)) ≡ true) → under d (count_trailing_zeros k (w / 2)) < suc k → bit_of w (under d (count_trailing_zeros k (w / 2))) ≡ true
trailing_found w k zero e ih l = bit_of-suc w (count_trailing_zeros k (w / 2)) ∙ ih (omega arith)
trailing_found w k (suc d) e ih l = bit_one_of w (omega arith)

-- and the lowest one
pub trailing_one : (k w : ℕ) → count_trailing_zeros k w < k → bit_of w (count_trailing_zeros k w) ≡ true
unfolding count_trailing_zeros
trailing_one zero w h = absurd (omega arith)
trailing_one (suc k) w h = trailing_found w k (w % 2) refl (λ l. trailing_one k (w / 2) l) h

-- the bit at a place of a word
pub bit_in_word : (ws : List ℕ) (i r : ℕ) → r < 64 → bit_at ws (64 * i + r) ≡ bit_of (get_or ws i 0) r
unfolding bit_at
bit_in_word ws i r h =
    let place : (64 * i + r) / 64 ≡ i = omega arith in
    let bit : (64 * i + r) % 64 ≡ r = omega arith in
    ap (λ x. bit_of (get_or ws x 0) ((64 * i + r) % 64)) place ∙ ap (bit_of (get_or ws i 0)) bit

-- a word of zeros
pub no_bit_in_word : (ws : List ℕ) (i : ℕ) → get_or ws i 0 ≡ 0 → (k : ℕ) → 64 * i ≤ k → k < 64 * (i + 1) → bit_at ws k ≡ false
no_bit_in_word ws i e k low high =
    let r : 64 * i + (k - 64 * i) ≡ k = omega arith in
    ap (bit_at ws) (sym r) ∙ bit_in_word ws i (k - 64 * i) (omega arith) ∙ ap (λ w. bit_of w (k - 64 * i)) e ∙ bit_of_number_zero (k - 64 * i)

-- the bits of a number shifted down
pub bit_shifted : (w r j : ℕ) → bit_of (w / 2 ^ r) j ≡ bit_of w (r + j)
unfolding bit_of
bit_shifted w r j = ap (λ x. eqb (x % 2) 1) (shr-shr w r j)

-- a number has no bit above its size
pub no_bit_above : (k w j : ℕ) → w < 2 ^ k → k ≤ j → bit_of w j ≡ false
unfolding bit_of
no_bit_above k w j h l =
    let grows : 2 ^ k ≤ 2 ^ j = pow_mono l in
    let none : w / 2 ^ j ≡ 0 = div_small w (2 ^ j) (omega arith) in
    ap (λ x. eqb (x % 2) 1) none
  where
    div_small : (a b : ℕ) → a < b → a / b ≡ 0
    div_small a b l = div-eq_of_lt l

pub bit_of_none : (w k : ℕ) → w ≡ 0 → bit_of w k ≡ false
bit_of_none w k e = ap (λ x. bit_of x k) e ∙ bit_of_number_zero k

-- past their end words have no bits
pub bit_past : (ws : List ℕ) (k : ℕ) → 64 * length ws ≤ k → bit_at ws k ≡ false
unfolding bit_at
bit_past ws k h = bit_of_none (get_or ws (k / 64) 0) (k % 64) (get_or_past ws (k / 64) 0 (omega arith))
