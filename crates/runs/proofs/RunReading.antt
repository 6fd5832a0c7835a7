-- Reading the words of runs. Assumes nothing.
use Rattle.std.proofs.Common.{◌≡◌, ℕ, ◌+◌, ◌-◌, ◌≤◌, true, List, length, get_or, take, drop, Ok, ap, arith}
use Rattle.std.proofs.lemmas.Bool.Decides.{nat_tests}
use Rattle.runs.specs.RunRows.{run_read, runs_in}
use Rattle.runs.specs.Runs.{runs_fit}

-- what is cut out are the words of the runs
pub runs_cut : (ws : List ℕ) (n : ℕ) → take (2 + n - 2) (drop 2 ws) ≡ take n (drop 2 ws)
runs_cut ws n = let e : 2 + n - 2 ≡ n = omega arith in ap (λ m. take m (drop 2 ws)) e

-- what is so where a row is read, and where it is so a row is read
abbrev pub IsRow : List ℕ → Type 0
IsRow ws =
    (2 ≤ length ws) × (get_or ws 0 0 ≤ 67108864) × (get_or ws 1 0 ≤ get_or ws 0 0) × (2 + get_or ws 1 0 ≤ length ws)
    × (runs_fit 0 (get_or ws 0 0) (runs_in ws) ≡ true)

pub row_facts : (ws : List ℕ) (n : ℕ) → Ok n ≡ run_read ws → IsRow ws × (n ≡ 2 + get_or ws 1 0)
unfolding run_read
row_facts ws n e = grind (arith, nat_tests)

pub row_read : (ws : List ℕ) → IsRow ws → Ok (2 + get_or ws 1 0) ≡ run_read ws
unfolding run_read
row_read ws is = grind (arith, nat_tests)
