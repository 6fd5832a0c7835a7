-- What plain bits mean. Assumes nothing.
use Rattle.std.specs.Prelude.{Bool, List}
use Rattle.bits.specs.Words.{bits_in}
use Rattle.bitmaps.specs.declared.plain.PlainBits.{PlainBits}

abbrev pub plain_bits : PlainBits → List Bool
plain_bits b = bits_in b.words.now b.len
