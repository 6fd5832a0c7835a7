use Rattle.std.proofs.Common.{◌≡◌, ℕ, ◌+◌, ◌-◌, ◌*◌, ◌/◌, ◌%◌, ◌^◌, ◌<◌, ◌≤◌, get_or, take, drop, ap, ◌∙◌, arith}
use lib.Bits.{bit_and}
use lib.Count.{ones}
use Rattle.bits.specs.Words.{bit_at, bits_in}
use Rattle.bitmaps.specs.Counts.{ones_of}
use Rattle.bitmaps.specs.Stretches.{stretch_bits}
use Rattle.bitmaps.specs.declared.plain.PlainBits.{PlainBits}
use Rattle.bitmaps.proofs.Blocks.{dir_at}
use Rattle.bitmaps.proofs.Ones.{ones_masked}
use Rattle.bitmaps.proofs.Stretches.{ones_between}
use Rattle.bitmaps.proofs.Tested.{ones_bound}
use Rattle.bitmaps.proofs.plain.PlainBits.count.Goals as goal

-- the ones of the whole words
whole : (p : PlainBits) (n k : ℕ) → 0 < n → n ≤ p.len → k ≡ ones_of (stretch_bits (take (n / 64 - 8 * ((n - 1) / 512)) (drop (8 * ((n - 1) / 512)) p.words.now))) → get_or p.directory.now ((n - 1) / 512) 0 + k ≡ ones_of (bits_in p.words.now (64 * (n / 64)))
whole p n k some within is =
    let ws = p.words.now in
    let block = (n - 1) / 512 in
    let start : 64 * (8 * block) ≡ 512 * block = omega arith in
    omega (arith, is, dir_at p block (omega (arith, p.begun)), ap (λ k. ones_of (bits_in ws k)) start, ones_between ws (8 * block) (n / 64) (omega arith) (omega (arith, p.held)))

pub overflow_add-count : goal.overflow_add-count
overflow_add-count c =
    omega (arith, whole c.args.self.now c.args.end c.ones_in.result (omega arith) c.requires c.ones_in.ensures, ones_bound (bit_at c.args.self.now.words.now) (64 * (c.args.end / 64)))

pub returns-then-end-eq0-2 : goal.returns-then-end-eq0-2
returns-then-end-eq0-2 c =
    let all : 64 * (c.args.end / 64) ≡ c.args.end = omega arith in
    whole c.args.self.now c.args.end c.ones_in.result (omega arith) c.requires c.ones_in.ensures ∙ ap (λ n. ones_of (bits_in c.args.self.now.words.now n)) all

pub returns : goal.returns
returns c =
    let ws = c.args.self.now.words.now in
    ap (λ n. n + ones (bit_and (get_or ws (c.args.end / 64) 0) (1 * 2 ^ (c.args.end % 64) % 2 ^ 64 - 1))) (whole c.args.self.now c.args.end c.ones_in.result (omega arith) c.requires c.ones_in.ensures)
    ∙ ones_masked ws c.args.end

pub overflow_add-result : goal.overflow_add-result
overflow_add-result c = omega (arith, returns c, ones_bound (bit_at c.args.self.now.words.now) c.args.end)
