use Rattle.std.proofs.Common.{◌≡◌, ◌+◌, ◌<◌, ltb, length, get_or, rules, ap, ◌∙◌, arith}
use Rattle.ordered.specs.Order.{first_not_below}
use Rattle.bitmaps.proofs.Blocks.{dir_bound, first_in_last}
use Rattle.bitmaps.proofs.plain.PlainBits.first_from.Goals as goal

pub overflow_add-more : goal.overflow_add-more
overflow_add-more c =
    let p = c.args.self.now in
    let within : c.args.block < length p.directory.now = search rules in
    let told : c.in_ok-more.field-0.now ≡ get_or p.directory.now c.args.block 0 = search rules in
    omega (arith, dir_bound p c.args.block within, p.small)

pub returns : goal.returns
returns c =
    let p = c.args.self.now in
    let within : c.args.block < length p.directory.now = search rules in
    let told : c.in_ok-more.field-0.now ≡ get_or p.directory.now c.args.block 0 = search rules in
    let last = c.in_ok-last_block_below.ensures.last in
    let found : c.in_ok-last_block_below.field-0 + 1 ≡ first_not_below ltb (get_or p.directory.now c.args.block 0 + 1) p.directory.now = omega (arith, last, ap (λ n. first_not_below ltb (n + 1) p.directory.now) told) in
    c.first_in_block.ensures ∙ first_in_last p c.args.block c.in_ok-last_block_below.field-0 within found
