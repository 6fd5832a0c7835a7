use Rattle.std.proofs.Common.{◌≡◌, ℕ, suc, ◌-◌, ◌*◌, ◌^◌, ◌<◌, ◌≤◌, max, List, [], ◌∷◌, ap, arith, pow_mono}
use lib.Count.{count_leading_zeros}
use Rattle.std.proofs.lemmas.Nat.{leading_length}
use Rattle.numbers.specs.NumberWords.{width_of}
use Rattle.numbers.specs.NumbersIn.{largest_of}
use Rattle.numbers.proofs.Widths.{width_is}
use Rattle.numbers.proofs.width.width_of.Goals as goal

by_zeros : (a r : ℕ) → a < 2 ^ 32 → r ≡ max (32 - count_leading_zeros 32 a) 1 → (numbers : List ℕ) → largest_of numbers ≡ a → r ≡ width_of numbers
by_zeros a r fits is numbers largest =
    let l = leading_length 32 a fits in
    let grows : 2 ^ l.0 ≤ 2 ^ r = pow_mono (omega (arith, l.1)) in
    width_is numbers r (omega arith) (omega (arith, l.1)) (omega (arith, l.2))
    (λ more.
    let double : 2 ^ suc (r - 1) ≡ 2 * 2 ^ (r - 1) = omega arith in
    let same : 2 ^ suc (r - 1) ≡ 2 ^ l.0 = ap (λ k. 2 ^ k) (omega (arith, l.1)) in
    omega (arith, l.3))

pub returns : goal.returns
returns c =
    let a = c.args.largest in
    let list : (numbers : List ℕ) → largest_of numbers ≡ a → c.max.result ≡ width_of numbers = by_zeros a c.max.result (omega arith) (omega (arith, c.max.ensures)) in
    record { alone = list (a ∷ []) (omega arith); list = list }
