use Rattle.std.proofs.Common.{◌≡◌, ℕ, ◌+◌, ◌-◌, ◌*◌, ◌/◌, ◌<◌, length, get_or, sym, rules, ap, ◌∙◌, ⊎_elim, arith}
use borrow.Author.Numbers.{trailing_lt}
use lib.Count.{count_trailing_zeros}
use Rattle.std.proofs.lemmas.Bool.{cases_lt}
use Rattle.bits.proofs.FirstPlace.{first_is, first_not}
use Rattle.bits.specs.Words.{bit_at}
use Rattle.bits.proofs.Words.{bit_in_word, no_bit_in_word, trailing_zeros, trailing_one}
use Rattle.bitmaps.proofs.stretch.first_one.Goals as goal

pub returns-in_err-word : goal.returns-in_err-word
returns-in_err-word c =
    let ws = c.args.words.now in
    let zero : (i : ℕ) → i < length ws → get_or ws i 0 ≡ 0 = search rules in
    c.from_residual.ensures
    ∙ sym (first_not (bit_at ws) 0 (64 * length ws) (λ k low high. no_bit_in_word ws (k / 64) (zero (k / 64) (omega arith)) k (omega arith) (omega arith)))

pub returns : goal.returns
returns c =
    let ws = c.args.words.now in
    let i = c.in_ok-word.word in
    let w = get_or ws i 0 in
    let zero : (j : ℕ) → j < i → get_or ws j 0 ≡ 0 = search rules in
    let inside : i < length ws = search rules in
    let some : 0 < w = search rules in
    let t = count_trailing_zeros 64 w in
    let short : t < 64 = trailing_lt 64 w some (omega (arith, c.type_inv.words i)) in
    sym (first_is (bit_at ws) 0 (64 * length ws) (64 * i + t) (omega arith) (omega arith)
    (λ k low high.
    ⊎_elim
    (λ l. no_bit_in_word ws (k / 64) (zero (k / 64) (omega arith)) k (omega arith) (omega arith))
    (λ l.
    let here : 64 * i + (k - 64 * i) ≡ k = omega arith in
    ap (bit_at ws) (sym here) ∙ bit_in_word ws i (k - 64 * i) (omega arith) ∙ trailing_zeros 64 w (k - 64 * i) (omega arith))
    (cases_lt k (64 * i)))
    (bit_in_word ws i t short ∙ trailing_one 64 w short))
