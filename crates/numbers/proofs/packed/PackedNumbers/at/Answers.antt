use Rattle.std.proofs.Common.{◌≡◌, ℕ, ◌+◌, ◌-◌, ◌*◌, ◌/◌, ◌%◌, ◌^◌, ◌<◌, List, map, get_or, ap, ◌∙◌, mul_comm, arith}
use lib.Bits.{bit_and, bit_or}
use Rattle.std.specs.List.{range_with_len}
use Rattle.std.proofs.lemmas.Nat.{and_mask, one_shl}
use Rattle.bits.specs.Words.{bit_at, number_of}
use Rattle.numbers.specs.NumbersIn.{number_in}
use Rattle.numbers.proofs.Fields.{field_in_one, field_in_two}
use Rattle.numbers.proofs.packed.PackedNumbers.at.Goals as goal

-- a mask of w bits keeps the low ones
masked : (w n m : ℕ) → m ≡ 2 ^ w - 1 → bit_and n m ≡ n % 2 ^ w
masked w n m is = ap (bit_and n) is ∙ and_mask n w

-- the bits from the number's place on
placed : (ws : List ℕ) (w i : ℕ) → number_of (map (λ j. bit_at ws (64 * (i * w / 64) + i * w % 64 + j)) (range_with_len 0 w)) ≡ number_in ws w i
unfolding number_in
placed ws w i =
    let whole : 64 * (i * w / 64) + i * w % 64 ≡ i * w = omega arith in
    ap (λ at. number_of (map (λ j. bit_at ws (at + j)) (range_with_len 0 w))) (whole ∙ mul_comm i w)

pub returns-then-shift-self-le64 : goal.returns-then-shift-self-le64
returns-then-shift-self-le64 c =
    let p = c.args.self.now in
    let ws = p.words.now in
    let w = p.width in
    let i = c.args.place in
    masked w (get_or ws (i * w / 64) 0 / 2 ^ (i * w % 64)) _ (omega (arith, one_shl w 64 (omega arith)))
    ∙ field_in_one ws w (i * w / 64) (i * w % 64) (omega arith)
    ∙ placed ws w i

pub returns : goal.returns
returns c =
    let p = c.args.self.now in
    let ws = p.words.now in
    let w = p.width in
    let i = c.args.place in
    let fits : get_or ws (i * w / 64) 0 < 2 ^ 64 = omega arith in
    let y : ℕ = bit_or (get_or ws (i * w / 64 + 1) 0 * 2 ^ (64 - i * w % 64) % 2 ^ 64) (get_or ws (i * w / 64) 0 / 2 ^ (i * w % 64)) in
    let is : bit_and y (1 * 2 ^ w % 2 ^ 64 - 1) ≡ number_in ws w i =
    masked w y _ (omega (arith, one_shl w 64 (omega arith)))
    ∙ field_in_two ws w (i * w / 64) (i * w % 64) (omega arith) (omega arith) fits
    ∙ placed ws w i in
    omega (arith, is)
