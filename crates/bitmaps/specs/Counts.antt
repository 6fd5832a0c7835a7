-- Rank, select and following, of any list of bits. Places count from 0. Assumes nothing.
use Rattle.std.specs.Prelude.{ℕ, ◌+◌, ◌-◌, Bool, false, ◌&&◌, List, length, take, count_by, Option, ◌==◌, slice_index_or}
use Rattle.ordered.specs.Lists.{first_place}

-- how many of the bits are ones
abbrev pub ones_of : List Bool → ℕ
ones_of bits = count_by (λ b. b) bits

-- how many ones stand among the first i bits; past the end, how many there are
abbrev pub rank_of : List Bool → ℕ → ℕ
rank_of bits i = ones_of (take i bits)

-- the place has a one
abbrev pub one_at : List Bool → ℕ → Bool
one_at bits i = slice_index_or bits i false

-- the place of the j-th one, counted from 1, or none if there is none
unfoldable pub select_of : List Bool → ℕ → Option ℕ
select_of bits j = first_place (λ i. one_at bits i && rank_of bits (i + 1) == j) 0 (length bits)

-- the first place not below i with a one, or none if there is none
unfoldable pub following_of : List Bool → ℕ → Option ℕ
following_of bits i = first_place (one_at bits) i (length bits - i)
