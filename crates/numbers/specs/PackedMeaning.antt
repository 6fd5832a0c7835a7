-- What packed numbers mean. Assumes nothing.
use Rattle.std.specs.Prelude.{ℕ, List}
use Rattle.numbers.specs.NumbersIn.{numbers_in}
use Rattle.numbers.specs.declared.packed.PackedNumbers.{PackedNumbers}

-- the first numbers of the words, so many as the view has
abbrev pub packed_numbers : PackedNumbers → List ℕ
packed_numbers v = numbers_in v.words.now v.width v.len
