use Rattle.std.proofs.Common.{◌≡◌, ◌+◌, ◌*◌, ◌%◌, ◌^◌, ◌<◌, length, get_or, ap, ◌∙◌, inr, arith}
use lib.Count.{ones}
use Rattle.bits.specs.Words.{bit_at, bits_in}
use Rattle.bits.proofs.Words.{bit_in_word, ones_in_word, bit_past}
use Rattle.bitmaps.specs.Counts.{ones_of}
use Rattle.bitmaps.proofs.Ones.{ones_word}
use Rattle.bitmaps.proofs.Tested.{select_is, select_none}
use Rattle.bitmaps.proofs.stretch.nth_in.Goals as goal

pub returns-then-rest-count : goal.returns-then-rest-count
returns-then-rest-count c =
    let ws = c.args.words.now in
    let i = c.loop-index.index in
    let place = c.nth_one.result in
    let short : place < 64 = c.nth_one.ensures.within in
    let before : ones_of (bits_in ws (64 * i + place)) ≡ ones_of (bits_in ws (64 * i)) + ones (get_or ws i 0 % 2 ^ place) = ones_in_word ws i place (omega arith) in
    select_is (bit_at ws) (64 * length ws) (bit_past ws) (64 * i + place) c.args.nth
    (bit_in_word ws i place short ∙ c.nth_one.ensures.one)
    (omega (arith, before, c.nth_one.ensures.before, c.loop-index.invariant.0))

pub loop-index-preserved : goal.loop-index-preserved
loop-index-preserved c =
    let ws = c.args.words.now in
    (omega (arith, c.loop-index.invariant.0, ones_word ws c.loop-index.index (omega (arith, c.type_inv.words c.loop-index.index))), omega arith)

pub returns : goal.returns
returns c =
    let ws = c.args.words.now in
    let all : 64 * c.loop-index.index ≡ 64 * length ws = omega arith in
    select_none (bit_at ws) (64 * length ws) (bit_past ws) c.args.nth (inr (omega (arith, c.loop-index.invariant.0, c.loop-index.invariant.1, ap (λ n. ones_of (bits_in ws n)) all)))
