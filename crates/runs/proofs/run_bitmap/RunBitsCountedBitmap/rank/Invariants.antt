use Rattle.std.proofs.Common.{◌≡◌, ℕ, ◌<◌, ◌≤◌, get_or, take, sum_by}
use Rattle.runs.specs.Runs.{size_of, end_of}
use Rattle.runs.proofs.run_bitmap.RunBitsCountedBitmap.rank.Given as goal

-- the runs so far are counted, and end before the place
abbrev pub invariant-loop-word : goal.invariant-loop-word
invariant-loop-word l =
    (l.count ≡ sum_by size_of (take l.word-index l.self.runs.now))
    × ((j : ℕ) → j < l.word-index → end_of (get_or l.self.runs.now j 0) ≤ l.place)
