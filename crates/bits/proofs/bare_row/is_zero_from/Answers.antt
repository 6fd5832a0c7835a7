use Rattle.std.proofs.Common.{◌/◌, ◌%◌, ◌^◌, ◌<◌, get_or, ◌∙◌, arith}
use Rattle.std.proofs.lemmas.Bool.{ne_eqb}
use Rattle.std.proofs.lemmas.List.{take_rest}
use Rattle.bits.proofs.Spare.{spare_clear, spare_set, spare_words}
use Rattle.bits.proofs.bare_row.is_zero_from.Goals as goal

pub returns-then-last-words : goal.returns-then-last-words
returns-then-last-words c = spare_clear c.args.words.now c.args.place (λ k low high. absurd (omega arith))

pub returns-then-words-last-eq0 : goal.returns-then-words-last-eq0
returns-then-words-last-eq0 c =
    spare_words c.args.words.now c.args.place c.are_zero.result (λ i h. omega (arith, c.type_inv.words i)) c.if-words-last-eq0.true (rw take_rest at c.are_zero.ensures)

pub returns-else-words-last-eq0 : goal.returns-else-words-last-eq0
returns-else-words-last-eq0 c =
    let fits : get_or c.args.words.now (c.args.place / 64) 0 < 2 ^ 64 = omega arith in
    ne_eqb _ 0 c.if-words-last-eq0.false ∙ spare_set c.args.words.now c.args.place (c.args.place / 64) (c.args.place % 64) (omega arith) (omega arith) fits c.if-words-last-eq0.false
