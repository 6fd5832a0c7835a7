-- What reading the words of a row of packed numbers answers. Assumes nothing.
use Rattle.std.specs.Prelude.{ℕ, ◌*◌, Bool, cond, not, ◌&&◌, List, length, take, drop, Ok, Err, Result, nat_le, nat_lt, slice_index}
use Rattle.bits.specs.Words.{words_for, spare_zero}
use Rattle.numbers.specs.NumberWords.{width_of, packed_room}
use Rattle.numbers.specs.NumbersIn.{numbers_in}
use Rattle.numbers.specs.declared.fault.NumbersFault.{NumbersFault}
use Rattle.numbers.specs.declared.fault.NumbersFault.TheVariants.{Short, TooManyNumbers, WidthOutOfRange, SpareBitSet, WrongContent}

-- the width is from 1 to 32
abbrev pub in_range : ℕ → Bool
in_range w = nat_le 1 w && nat_le w 32

-- how many numbers there are, and their width, by the first two words
abbrev pub count_of : List ℕ → ℕ
count_of ws = slice_index ws 0

abbrev pub width_in : List ℕ → ℕ
width_in ws = slice_index ws 1

-- the words in which the numbers lie
abbrev pub content_words : List ℕ → List ℕ
content_words ws = take (words_for (width_in ws * count_of ws)) (drop 2 ws)

-- the numbers in them
abbrev pub numbers_packed : List ℕ → List ℕ
numbers_packed ws = numbers_in (content_words ws) (width_in ws) (count_of ws)

-- how many words the row at the front of these takes, or the first fault
unfoldable pub packed_read : List ℕ → Result ℕ NumbersFault
packed_read ws =
    cond (nat_lt (length ws) 2) (Err Short)
    (cond (nat_lt 67108864 (count_of ws)) (Err TooManyNumbers)
    (cond (not (in_range (width_in ws))) (Err WidthOutOfRange)
    (cond (nat_lt (length ws) (packed_room (width_in ws) (count_of ws))) (Err Short)
    (cond (not (spare_zero (content_words ws) (width_in ws * count_of ws))) (Err SpareBitSet)
    (cond (nat_lt (width_of (numbers_packed ws)) (width_in ws)) (Err WrongContent)
    (Ok (packed_room (width_in ws) (count_of ws))))))))
