-- Which lists of bits have a row, of whatever kind. Assumes nothing.
use Rattle.std.specs.Prelude.{◌≤◌, Bool, List, length}

-- no more than 67,108,864 bits
abbrev pub HasBitRow : List Bool → Type 0
HasBitRow bits = length bits ≤ 67108864
