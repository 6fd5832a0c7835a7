use Rattle.std.proofs.Common.{◌≡◌, ◌+◌, ◌*◌, ◌<◌}
use Rattle.bitmaps.specs.Counts.{ones_of}
use Rattle.bits.specs.Words.{bits_in}
use Rattle.bitmaps.proofs.stretch.nth_in.Given as goal

-- the ones of the words so far and the rest make up the number
abbrev pub invariant-loop-index : goal.invariant-loop-index
invariant-loop-index l = (ones_of (bits_in l.words (64 * l.index)) + l.rest ≡ l.nth) × (0 < l.rest)
