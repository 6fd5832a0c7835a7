use Rattle.std.proofs.Common.{◌≡◌, ◌+◌, take, sum_by}
use Rattle.runs.specs.Runs.{size_of}
use Rattle.runs.proofs.run_bitmap.RunBitsCountedBitmap.select.Given as goal

-- the runs so far have all but these of the ones before the one that is looked for
abbrev pub invariant-loop-word : goal.invariant-loop-word
invariant-loop-word l = sum_by size_of (take l.word-index l.self.runs.now) + l.before + 1 ≡ l.nth
