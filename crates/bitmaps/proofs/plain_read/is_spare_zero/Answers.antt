use Rattle.bits.proofs.SpareTold.{spare_told}
use Rattle.bitmaps.proofs.plain_read.is_spare_zero.Goals as goal

pub returns : goal.returns
returns c = spare_told c.new.result c.args.words.now c.args.len c.is_spare_zero.result c.new.ensures.bits c.new.ensures.words c.requires c.is_spare_zero.ensures
