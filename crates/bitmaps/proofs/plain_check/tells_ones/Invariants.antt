use Rattle.std.proofs.Common.{◌≡◌, ℕ, ◌*◌, ◌<◌, get_or}
use Rattle.bitmaps.specs.Counts.{ones_of}
use Rattle.bits.specs.Words.{bits_in}
use Rattle.bitmaps.proofs.plain_check.tells_ones.Given as goal

-- the ones before the block are counted, and the words of the directory so far tell them
abbrev pub invariant-loop-block : goal.invariant-loop-block
invariant-loop-block l =
    (l.ones ≡ ones_of (bits_in l.words (512 * l.block)))
    × ((b : ℕ) → b < l.block → get_or l.directory b 0 ≡ ones_of (bits_in l.words (512 * b)))
