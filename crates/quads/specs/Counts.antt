-- How counts are answered. Assumes nothing.
use Rattle.std.specs.Prelude.{ℕ, min}

-- a count above 4,294,967,295 is answered as that number
unfoldable pub capped : ℕ → ℕ
capped n = min n 4294967295
