-- What plain numbers mean. Assumes nothing.
use Rattle.std.specs.Prelude.{ℕ, List}
use Rattle.numbers.specs.declared.plain.PlainNumbers.{PlainNumbers}

-- the words of the view are its numbers
abbrev pub plain_numbers : PlainNumbers → List ℕ
plain_numbers v = v.words.now
