use Rattle.std.proofs.Common.{sym, ap, ◌∙◌}
use Rattle.std.proofs.lemmas.List.FromFn.{length-map-range_with_len}
use Rattle.bits.specs.Words.{bit_at, spare_zero}
use Rattle.bits.proofs.bare.BareBits.is_spare_zero.Goals as goal

-- the row has as many bits as it says
pub returns : goal.returns
returns c =
    let b = c.args.self.now in
    c.is_zero_from.ensures ∙ ap (spare_zero b.words.now) (sym (length-map-range_with_len (bit_at b.words.now) 0 b.len))
