-- What bare bits over words tell of the words. Assumes nothing.
use Rattle.std.proofs.Common.{◌≡◌, ℕ, ◌*◌, ◌≤◌, Bool, List, length, ap, ◌∙◌, arith}
use Rattle.std.proofs.lemmas.List.FromFn.{length-map-range_with_len}
use Rattle.bits.specs.Words.{bit_at, bits_in, held, spare_zero}
use Rattle.bits.specs.BareMeaning.{bare_bits, bare_words}
use Rattle.bits.specs.declared.bare.BareBits.{BareBits}

-- asked of the first n bits of words that have so many, they tell whether the others are zeros
pub spare_told : (row : BareBits) (ws : List ℕ) (n : ℕ) (b : Bool) → bare_bits row ≡ bits_in ws (held n (length ws)) → bare_words row ≡ ws → n ≤ 64 * length ws → b ≡ spare_zero (bare_words row) (length (bare_bits row)) → b ≡ spare_zero ws n
spare_told row ws n b bits words h e =
    let all : held n (length ws) ≡ n = omega arith in
    e ∙ ap (λ xs. spare_zero xs (length (bare_bits row))) words ∙ ap (spare_zero ws) (ap length bits ∙ length-map-range_with_len (bit_at ws) 0 (held n (length ws)) ∙ all)
