use Rattle.std.proofs.Common.{◌+◌, ◌-◌, drop, sym, arith}
use Rattle.std.proofs.lemmas.List.{length-take, length-drop}
use Rattle.bits.proofs.Spare.{spare_all}
use Rattle.bitmaps.proofs.PlainReading.{ones_told}
use Rattle.bitmaps.proofs.plain.PlainBits.parse.Goals as goal

pub invariant_of-row-clause-spare : goal.invariant_of-row-clause-spare
invariant_of-row-clause-spare c = spare_all _ _ (sym c.if-not-is_spare_zero.ensures)

pub invariant_of-row-clause-counts : goal.invariant_of-row-clause-counts
invariant_of-row-clause-counts c =
    let w = c.div_ceil-bits_end.result in
    let d = c.div_ceil-blocks.result in
    λ b l.
    ones_told _ _ (sym c.if-not-tells_ones.ensures) b
    (omega (arith, c.div_ceil-blocks.ensures, length-take (1 + w + d - (1 + w)) (drop (1 + w) c.args.words.now), length-drop (1 + w) c.args.words.now))
