-- The law of each kind of row: a list that has a row takes so many words. Assumes nothing.
use Rattle.std.specs.Prelude.{◌≡◌, ℕ, List, length}
use Rattle.std.proofs.Common.{arith}
use Rattle.std.proofs.lemmas.List.FromFn.{length-map-range_with_len}
use Rattle.numbers.specs.NumberWords.{HasNumbers, plain_number_words, plain_numbers_room, packed_words, packed_numbers_room}

pub plain_takes : (numbers : List ℕ) → HasNumbers numbers → plain_numbers_room numbers ≡ length (plain_number_words numbers)
plain_takes numbers has = omega arith

pub packed_takes : (numbers : List ℕ) → HasNumbers numbers → packed_numbers_room numbers ≡ length (packed_words numbers)
packed_takes numbers has = omega (arith, length-map-range_with_len)
