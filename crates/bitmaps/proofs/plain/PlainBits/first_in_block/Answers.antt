use Rattle.std.proofs.Common.{◌-◌, ◌*◌, ◌%◌, ◌≤◌, length, drop, Some, None, sym, ap, ◌∙◌, arith}
use Rattle.std.proofs.lemmas.List.{length-take}
use Rattle.ordered.specs.Lists.{first_place}
use Rattle.bits.specs.Words.{bit_at}
use Rattle.bits.proofs.FirstPlace.{first_found}
use Rattle.bitmaps.proofs.Stretches.{first_part}
use Rattle.bitmaps.proofs.plain.PlainBits.first_in_block.Goals as goal

pub returns-in_err-first_one : goal.returns-in_err-first_one
returns-in_err-first_one c =
    c.from_residual.ensures
    ∙ first_part c.args.self.now.words.now c.args.word (8 - c.args.word % 8) None (c.in_err-first_one.ensures ∙ ap (λ xs. first_place (bit_at xs) 0 (64 * length xs)) c.block_from.ensures)

pub returns : goal.returns
returns c =
    first_part c.args.self.now.words.now c.args.word (8 - c.args.word % 8) (Some c.in_ok-first_one.field-0) (c.in_ok-first_one.ensures ∙ ap (λ xs. first_place (bit_at xs) 0 (64 * length xs)) c.block_from.ensures)

pub overflow_add-result : goal.overflow_add-result
overflow_add-result c =
    let p = c.args.self.now in
    let block = c.block_from.result.now in
    let found = first_found (bit_at block) 0 (64 * length block) c.in_ok-first_one.field-0 (sym c.in_ok-first_one.ensures) in
    let short : length block ≤ 8 = omega (arith, ap length c.block_from.ensures, length-take (8 - c.args.word % 8) (drop c.args.word p.words.now)) in
    omega (arith, found.1, p.held, p.small)
