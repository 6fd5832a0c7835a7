-- What a bitmap of runs means. Assumes nothing.
use Rattle.std.specs.Prelude.{ℕ, Bool, List, map}
use Rattle.std.specs.List.{range_with_len}
use Rattle.runs.specs.Runs.{in_runs}
use Rattle.runs.specs.declared.view.RunBits.{RunBits}

-- so many bits, with ones at the places that the runs cover
abbrev pub covered_bits : List ℕ → ℕ → List Bool
covered_bits ws len = map (in_runs ws) (range_with_len 0 len)

-- the bits of a bitmap of runs
abbrev pub run_bits : RunBits → List Bool
run_bits b = covered_bits b.runs.now b.len
