-- What reading the words of a row of runs answers. Assumes nothing.
use Rattle.std.specs.Prelude.{ℕ, ◌+◌, Bool, cond, not, List, length, take, drop, Ok, Err, Result, nat_lt, slice_index}
use Rattle.bitmaps.specs.declared.fault.BitsFault.{BitsFault}
use Rattle.bitmaps.specs.declared.fault.BitsFault.TheVariants.{Short, TooManyBits, TooManyRuns, WrongContent}
use Rattle.runs.specs.RunMeaning.{covered_bits}
use Rattle.runs.specs.Runs.{runs_fit}

-- the words of the runs, in words that begin with the numbers of bits and of runs
abbrev pub runs_in : List ℕ → List ℕ
runs_in ws = take (slice_index ws 1) (drop 2 ws)

-- how many words the row at the front of these takes, or the first fault
unfoldable pub run_read : List ℕ → Result ℕ BitsFault
run_read ws =
    cond (nat_lt (length ws) 2) (Err Short)
    (cond (nat_lt 67108864 (slice_index ws 0)) (Err TooManyBits)
    (cond (nat_lt (slice_index ws 0) (slice_index ws 1)) (Err TooManyRuns)
    (cond (nat_lt (length ws) (2 + slice_index ws 1)) (Err Short)
    (cond (not (runs_fit 0 (slice_index ws 0) (runs_in ws))) (Err WrongContent)
    (Ok (2 + slice_index ws 1))))))

-- the bits of the row at the front of the words
abbrev pub run_bits_in : List ℕ → List Bool
run_bits_in ws = covered_bits (runs_in ws) (slice_index ws 0)
