use Rattle.std.proofs.Common.{◌∙◌, arith}
use Rattle.bits.specs.Words.{bit_at}
use Rattle.bitmaps.proofs.Tested.{rank_least}
use Rattle.bitmaps.proofs.plain_bitmap.PlainBitsCountedBitmap.rank.Goals as goal

pub returns : goal.returns
returns c = c.count.ensures ∙ rank_least (bit_at c.args.self.now.words.now) c.args.place c.args.self.now.len c.min.result (omega arith)
