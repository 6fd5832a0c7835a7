-- The words of a row of runs, from its bits. Assumes nothing.
use Rattle.std.specs.Prelude.{ℕ, zero, suc, ◌+◌, ◌*◌, ◌^◌, Bool, cond, not, ◌&&◌, List, [], ◌∷◌, map, length, drop, filter}
use Rattle.std.specs.List.{range_with_len}
use Rattle.bitmaps.specs.Counts.{one_at}

-- the place begins a longest run: it has a one, and the place before it has none
abbrev pub begins_run : List Bool → ℕ → Bool
begins_run bits zero = one_at bits zero
begins_run bits (suc i) = one_at bits (suc i) && not (one_at bits i)

-- the places at which a longest run begins, ascending
abbrev pub run_places : List Bool → List ℕ
run_places bits = filter (begins_run bits) (range_with_len 0 (length bits))

-- how many ones a list begins with
abbrev pub leading_ones : List Bool → ℕ
leading_ones [] = 0
leading_ones (b ∷ bs) = cond b (1 + leading_ones bs) 0

-- the word of a run: its first place × 2^32 + its length
abbrev pub run_word : List Bool → ℕ → ℕ
run_word bits i = i * 2 ^ 32 + leading_ones (drop i bits)

-- the words of a row: how many bits, how many runs, and the word of each run
abbrev pub run_words : List Bool → List ℕ
run_words bits = length bits ∷ (length (run_places bits) ∷ map (run_word bits) (run_places bits))

-- how many words those are
abbrev pub run_room : List Bool → ℕ
run_room bits = 2 + length (run_places bits)
