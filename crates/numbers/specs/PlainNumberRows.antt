-- What reading the words of a row of plain numbers answers. Assumes nothing.
use Rattle.std.specs.Prelude.{ℕ, cond, not, List, length, take, drop, Ok, Err, Result, ◌==◌, nat_lt, slice_index}
use Rattle.numbers.specs.NumberWords.{each_below, plain_number_room}
use Rattle.numbers.specs.declared.fault.NumbersFault.{NumbersFault}
use Rattle.numbers.specs.declared.fault.NumbersFault.TheVariants.{Short, TooManyNumbers, WrongContent}

-- so many words after the first as it says
abbrev pub numbers_after : List ℕ → List ℕ
numbers_after ws = take (slice_index ws 0) (drop 1 ws)

-- how many words the row at the front of these takes, or the first fault
unfoldable pub plain_numbers_read : List ℕ → Result ℕ NumbersFault
plain_numbers_read ws =
    cond (length ws == 0) (Err Short)
    (cond (nat_lt 67108864 (slice_index ws 0)) (Err TooManyNumbers)
    (cond (nat_lt (length ws) (plain_number_room (slice_index ws 0))) (Err Short)
    (cond (not (each_below 32 (numbers_after ws))) (Err WrongContent)
    (Ok (plain_number_room (slice_index ws 0))))))
