-- How many words a row of runs takes. Assumes nothing.
use Rattle.std.specs.Prelude.{◌≡◌, Bool, List, length}
use Rattle.std.proofs.Common.{arith}
use Rattle.std.proofs.lemmas.List.{length-map}
use Rattle.bitmaps.specs.BitRows.{HasBitRow}
use Rattle.runs.specs.RunWords.{run_places, run_word, run_words, run_room}

pub room_told : (bits : List Bool) → HasBitRow bits → run_room bits ≡ length (run_words bits)
room_told bits few = let size = length-map (run_places bits) (run_word bits) in omega arith
