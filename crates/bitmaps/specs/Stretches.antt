-- The bits of a stretch of words. Assumes nothing.
use Rattle.std.specs.Prelude.{ℕ, ◌*◌, Bool, List, length}
use Rattle.bits.specs.Words.{bits_in}

-- all bits of the words
abbrev pub stretch_bits : List ℕ → List Bool
stretch_bits ws = bits_in ws (64 * length ws)
