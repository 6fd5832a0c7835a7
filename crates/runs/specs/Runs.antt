-- Runs of ones, each in one word: its first place × 2^32 + its length. Assumes nothing.
use Rattle.std.specs.Prelude.{ℕ, ◌+◌, ◌/◌, ◌%◌, ◌^◌, Bool, true, false, ◌&&◌, ◌||◌, List, [], ◌∷◌, Some, None, Option, cond, nat_le, nat_lt}

-- the first place of a run
abbrev pub first_of : ℕ → ℕ
first_of w = w / 2 ^ 32

-- how many places it covers
abbrev pub size_of : ℕ → ℕ
size_of w = w % 2 ^ 32

-- the place after its last one
abbrev pub end_of : ℕ → ℕ
end_of w = first_of w + size_of w

-- the run covers the place
abbrev pub in_run : ℕ → ℕ → Bool
in_run w k = nat_le (first_of w) k && nat_lt k (end_of w)

-- one of the runs covers the place
abbrev pub in_runs : List ℕ → ℕ → Bool
in_runs [] k = false
in_runs (w ∷ ws) k = in_run w k || in_runs ws k

-- the runs begin at the place or after it, ascend, are not empty, neither touch nor overlap, and end within so many bits
abbrev pub runs_fit : ℕ → ℕ → List ℕ → Bool
runs_fit from len [] = true
runs_fit from len (w ∷ ws) = nat_le from (first_of w) && (nat_lt 0 (size_of w) && (nat_le (end_of w) len && runs_fit (end_of w + 1) len ws))

-- the first run that ends after the place, or none if none does
abbrev pub run_after : List ℕ → ℕ → Option ℕ
run_after [] k = None
run_after (w ∷ ws) k = cond (nat_le (end_of w) k) (run_after ws k) (Some w)
