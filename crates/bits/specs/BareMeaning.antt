-- What bare bits mean. Assumes nothing.
use Rattle.std.specs.Prelude.{ℕ, Bool, List}
use Rattle.bits.specs.Words.{bits_in}
use Rattle.bits.specs.declared.bare.BareBits.{BareBits}

-- their bits
abbrev pub bare_bits : BareBits → List Bool
bare_bits b = bits_in b.words.now b.len

-- the words in which they lie
abbrev pub bare_words : BareBits → List ℕ
bare_words b = b.words.now
