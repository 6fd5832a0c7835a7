use Rattle.std.proofs.Common.{◌≡◌, ◌+◌, ◌*◌, eqb, length, get_or, sym, below_more, rules, arith}
use Rattle.std.proofs.lemmas.Bool.{eq-eqb, ne_eqb}
use Rattle.bits.specs.Words.{bits_in}
use Rattle.bits.proofs.Ranges.{each_from_range, each_fails}
use Rattle.bits.specs.Words.{bit_at}
use Rattle.bitmaps.specs.Counts.{ones_of}
use Rattle.bitmaps.specs.Stretches.{stretch_bits}
use Rattle.bitmaps.specs.PlainRows.{tells_ones}
use Rattle.bitmaps.proofs.Stretches.{block_at, ones_block}
use Rattle.bitmaps.proofs.Tested.{ones_bound}
use Rattle.bitmaps.proofs.plain_check.tells_ones.Goals as goal

pub returns-then-before-ones : goal.returns-then-before-ones
unfolding tells_ones
returns-then-before-ones c =
    let ws = c.args.words.now in
    let dir = c.args.directory.now in
    let block = c.loop-block.block in
    sym (each_fails (λ b. eqb (get_or dir b 0) (ones_of (bits_in ws (512 * b)))) 0 (length dir) block (omega arith) (omega arith)
    (ne_eqb (get_or dir block 0) (ones_of (bits_in ws (512 * block))) (λ s. omega (arith, c.loop-block.invariant.0))))

-- the ones before the next block
next_block : (c : goal.After-ones_in) → c.loop-block.ones + c.ones_in.result ≡ ones_of (bits_in c.args.words.now (512 * (c.loop-block.block + 1)))
next_block c =
    let told : c.ones_in.result ≡ ones_of (stretch_bits (block_at c.args.words.now c.loop-block.block)) = search rules in
    omega (arith, c.loop-block.invariant.0, told, ones_block c.args.words.now c.loop-block.block)

pub overflow_add-ones : goal.overflow_add-ones
overflow_add-ones c = omega (arith, next_block c, ones_bound (bit_at c.args.words.now) (512 * (c.loop-block.block + 1)))

pub loop-block-preserved : goal.loop-block-preserved
loop-block-preserved c = (next_block c, below_more _ _ c.loop-block.invariant.1 (omega (arith, c.loop-block.invariant.0)))

pub returns : goal.returns
unfolding tells_ones
returns c =
    let ws = c.args.words.now in
    let dir = c.args.directory.now in
    sym (each_from_range (λ b. eqb (get_or dir b 0) (ones_of (bits_in ws (512 * b)))) 0 (length dir)
    (λ b low high. eq-eqb (get_or dir b 0) (ones_of (bits_in ws (512 * b))) (c.loop-block.invariant.1 b (omega arith))))
