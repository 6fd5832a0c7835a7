-- Halving a word for the place of a one. Assumes nothing.
use Rattle.std.proofs.Common.{◌≡◌, ℕ, zero, suc, ◌+◌, ◌-◌, ◌*◌, ◌/◌, ◌%◌, ◌^◌, ◌<◌, ◌≤◌, true, List, [], ◌∷◌, get_or, sym, refl, ap, ◌∙◌, subst, ⊎_elim, arith, pow_pos, shr-shr}
use lib.Bits.{bit_and, and_mask}
use lib.Count.{ones, ones-le, ones_cat}
use lib.Pow.{mod-pow-add}
use Rattle.std.proofs.lemmas.Nat.{one_shl, mod_below}
use Rattle.std.proofs.lemmas.Bool.{eq-eqb, cases_eq}
use Rattle.bits.specs.Words.{bit_of}

-- the ones of a stretch of bits, by its two parts
pub ones_split : (x j k : ℕ) → ones (x % 2 ^ (j + k)) ≡ ones (x % 2 ^ k) + ones (x / 2 ^ k % 2 ^ j)
ones_split x j k =
    let small : x % 2 ^ k < 2 ^ k = mod_below x (2 ^ k) (pow_pos k) in
    ap ones (mod-pow-add x j k) ∙ omega (arith, ones_cat k (x / 2 ^ k % 2 ^ j) (x % 2 ^ k) small)

-- the widths of the halves, one after another
abbrev pub widths : List ℕ
widths = 32 ∷ (16 ∷ (8 ∷ (4 ∷ (2 ∷ (1 ∷ [])))))

half : (k i : ℕ) → suc k + i ≡ 6 → get_or widths i 0 ≡ 2 ^ k
half zero i e = let at : i ≡ 5 = omega arith in ap (λ j. get_or widths j 0) at
half (suc zero) i e = let at : i ≡ 4 = omega arith in ap (λ j. get_or widths j 0) at
half (suc (suc zero)) i e = let at : i ≡ 3 = omega arith in ap (λ j. get_or widths j 0) at
half (suc (suc (suc zero))) i e = let at : i ≡ 2 = omega arith in ap (λ j. get_or widths j 0) at
half (suc (suc (suc (suc zero)))) i e = let at : i ≡ 1 = omega arith in ap (λ j. get_or widths j 0) at
half (suc (suc (suc (suc (suc zero))))) i e = let at : i ≡ 0 = omega arith in ap (λ j. get_or widths j 0) at
half (suc (suc (suc (suc (suc (suc k)))))) i e = absurd (omega arith)

ones_none : ones 0 ≡ 0
ones_none = let small : 0 < 2 ^ 0 = omega arith in omega (arith, ones-le 0 0 small)

-- after so many halvings, so many ones are before the place, and the rest is among the next 2 ^ k bits
abbrev pub Narrowed : ℕ → ℕ → ℕ → ℕ → ℕ → Type 0
Narrowed word nth i place rest =
    (k : ℕ) × (k + i ≡ 6) × (place + 2 ^ k ≤ 64) × (0 < rest)
    × (ones (word % 2 ^ place) + rest ≡ nth)
    × (rest ≤ ones (word / 2 ^ place % 2 ^ 2 ^ k))

pub narrowed_none : (word nth : ℕ) → word < 2 ^ 64 → 0 < nth → nth ≤ ones word → Narrowed word nth 0 0 nth
narrowed_none word nth fits some enough =
    let none : word % 1 ≡ 0 = omega arith in
    let whole : word / 1 % 2 ^ 64 ≡ word = omega arith in
    (6, refl, omega arith, some, omega (arith, ap ones none ∙ ones_none), subst (λ w. nth ≤ ones w) (sym whole) enough)

module _ (word nth place rest : ℕ) where
  -- the ones of the low half
  abbrev low : ℕ → ℕ
  low i = ones (bit_and (word / 2 ^ place) (1 * 2 ^ get_or widths i 0 % 2 ^ 64 - 1))

  low_is : (i h : ℕ) → get_or widths i 0 ≡ h → h < 64 → low i ≡ ones (word / 2 ^ place % 2 ^ h)
  low_is i h e l =
      ap (λ n. ones (bit_and (word / 2 ^ place) (1 * 2 ^ n % 2 ^ 64 - 1))) e
      ∙ ap (λ m. ones (bit_and (word / 2 ^ place) (m - 1))) (one_shl h 64 l)
      ∙ ap ones (and_mask (word / 2 ^ place) h)

  -- the two halves of the next bits
  halves : (k : ℕ) → ones (word / 2 ^ place % 2 ^ 2 ^ suc k) ≡ ones (word / 2 ^ place % 2 ^ 2 ^ k) + ones (word / 2 ^ (place + 2 ^ k) % 2 ^ 2 ^ k)
  halves k =
      let two : 2 ^ suc k ≡ 2 ^ k + 2 ^ k = omega arith in
      ap (λ n. ones (word / 2 ^ place % 2 ^ n)) two
      ∙ ones_split (word / 2 ^ place) (2 ^ k) (2 ^ k)
      ∙ ap (λ x. ones (word / 2 ^ place % 2 ^ 2 ^ k) + ones (x % 2 ^ 2 ^ k)) (shr-shr word place (2 ^ k))

  high_half : (k i : ℕ) → i < 6 → k + i ≡ 6 → place + 2 ^ k ≤ 64 → ones (word % 2 ^ place) + rest ≡ nth → rest ≤ ones (word / 2 ^ place % 2 ^ 2 ^ k) → low i < rest → Narrowed word nth (i + 1) (place + get_or widths i 0) (rest - low i)
  high_half zero i h e room before among more = absurd (omega arith)
  high_half (suc k) i h e room before among more =
      let w : get_or widths i 0 ≡ 2 ^ k = half k i e in
      let small : low i ≡ ones (word / 2 ^ place % 2 ^ 2 ^ k) = low_is i (2 ^ k) w (omega arith) in
      let further : 2 ^ k + place ≡ place + 2 ^ k = omega arith in
      subst (λ n. Narrowed word nth (i + 1) (place + n) (rest - low i)) (sym w) (
        k,
        omega arith,
        omega arith,
        omega arith,
        omega (arith, small, ap (λ n. ones (word % 2 ^ n)) (sym further), ones_split word (2 ^ k) place),
        omega (arith, small, halves k),
      )

  low_half : (k i : ℕ) → i < 6 → k + i ≡ 6 → place + 2 ^ k ≤ 64 → 0 < rest → ones (word % 2 ^ place) + rest ≡ nth → rest ≤ low i → Narrowed word nth (i + 1) place rest
  low_half zero i h e room some before less = absurd (omega arith)
  low_half (suc k) i h e room some before less =
      let w : get_or widths i 0 ≡ 2 ^ k = half k i e in
      (k, omega arith, omega arith, some, before, omega (arith, low_is i (2 ^ k) w (omega arith)))

  pub narrowed_high : (i : ℕ) → i < 6 → Narrowed word nth i place rest → low i < rest → Narrowed word nth (i + 1) (place + get_or widths i 0) (rest - low i)
  narrowed_high i h n more = high_half n.0 i h n.1 n.2 n.4 n.5 more

  pub narrowed_low : (i : ℕ) → i < 6 → Narrowed word nth i place rest → rest ≤ low i → Narrowed word nth (i + 1) place rest
  narrowed_low i h n less = low_half n.0 i h n.1 n.2 n.3 n.4 less

  -- one bit left
  pub narrowed_all : (i : ℕ) → 6 ≤ i → Narrowed word nth i place rest → bit_of word place ≡ true
  unfolding bit_of
  narrowed_all i h n =
      let last : n.0 ≡ 0 = omega (arith, n.1) in
      let among : rest ≤ ones (word / 2 ^ place % 2) = subst (λ k. rest ≤ ones (word / 2 ^ place % 2 ^ 2 ^ k)) last n.5 in
      let bit : ℕ = word / 2 ^ place % 2 in
      let most : ones bit ≤ 1 = ones-le 1 bit (omega arith) in
      ⊎_elim
      (λ e. eq-eqb bit 1 e)
      (λ d. let z : bit ≡ 0 = omega arith in absurd (omega (arith, n.3, ap ones z ∙ ones_none)))
      (cases_eq bit 1)
