use Rattle.std.proofs.Common.{eqb, Some, sym, ap, ◌∙◌, arith}
use lib.Bits.{and_mask}
use Rattle.bits.specs.Words.{bit_of, bit_at}
use Rattle.bits.proofs.Words.{nth-bits, nth_past_bits}
use Rattle.bits.proofs.bare_row.BareBitsRow.get.Goals as goal

pub returns-then-place-self : goal.returns-then-place-self
returns-then-place-self c = sym (nth_past_bits c.args.self.now.words.now c.args.self.now.len c.args.place (omega arith))

pub returns : goal.returns
unfolding bit_at bit_of
returns c =
    ap (λ x. Some (eqb x 1)) (and_mask _ 1)
    ∙ sym (nth-bits c.args.self.now.words.now c.args.self.now.len c.args.place (omega arith))
