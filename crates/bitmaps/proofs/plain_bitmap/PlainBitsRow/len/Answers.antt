use Rattle.std.proofs.Common.{arith}
use Rattle.std.proofs.lemmas.List.FromFn.{length-map-range_with_len}
use Rattle.bits.specs.Words.{bit_at}
use Rattle.bitmaps.proofs.plain_bitmap.PlainBitsRow.len.Goals as goal

pub returns : goal.returns
returns c = omega (arith, length-map-range_with_len (bit_at c.args.self.now.words.now) 0 c.args.self.now.len)
