-- What is read of plain numbers: the words of a list of numbers, and of the words of every such list. Assumes nothing.
use Rattle.std.proofs.Common.{◌≡◌, ℕ, suc, ◌<◌, ◌≤◌, ◌^◌, true, ltb, List, [], ◌∷◌, ◌++◌, length, take, All, Ok, Result, sym, refl, ap, ◌∙◌, arith}
use Rattle.std.proofs.lemmas.Bool.Decides.{nat_tests}
use Rattle.std.proofs.lemmas.List.{length-append, length-take-le, take_at}
use Rattle.std.proofs.lemmas.Bool.{lt-ltb}
use Rattle.ordered.proofs.Lists.{each_from_places}
use Rattle.bits.specs.StoredRows.{FindsRow, TakesRow, ReadsRow}
use Rattle.bits.proofs.StoredLaws.{takes_row, finds_row}
use Rattle.numbers.specs.NumberWords.{each_below, HasNumbers, plain_number_words, plain_numbers_room}
use Rattle.numbers.specs.declared.fault.NumbersFault.{NumbersFault}
use Rattle.numbers.specs.PlainNumberRows.{plain_numbers_read, numbers_after}

-- where each number is below a power, they all are
pub below_all : (w : ℕ) (numbers : List ℕ) → All (λ n. n < 2 ^ w) numbers → each_below w numbers ≡ true
below_all w numbers all = each_from_places (λ n. ltb n (2 ^ w)) numbers 0 (λ i h. lt-ltb _ _ (all i 0 h))

-- what is read are the words of the numbers read
taken : (ws : List ℕ) (n : ℕ) → Ok n ≡ plain_numbers_read ws → take n ws ≡ plain_number_words (numbers_after ws)
unfolding plain_numbers_read
taken [] n e = cc
taken (x ∷ xs) n e =
    let end : n ≡ suc x = grind (arith, nat_tests) in
    let room : x ≤ length xs = grind (arith, nat_tests) in
    rw end (ap (λ k. k ∷ take x xs) (sym (length-take-le x xs room)))

-- of the words of a list of numbers it is read
found : (numbers rest : List ℕ) → HasNumbers numbers → Ok (plain_numbers_room numbers) ≡ plain_numbers_read (plain_number_words numbers ++ rest)
unfolding plain_numbers_read
found numbers rest has = grind (arith, nat_tests, length-append, take_at)

again : (numbers rest : List ℕ) → numbers_after (plain_number_words numbers ++ rest) ≡ numbers
again numbers rest = take_at numbers rest (length numbers) refl

pub takes : (ws : List ℕ) (r : Result ℕ NumbersFault) → r ≡ plain_numbers_read ws → TakesRow plain_number_words numbers_after ws r
takes ws = takes_row plain_number_words numbers_after plain_numbers_read ws (taken ws)

pub finds : (ws : List ℕ) (r : Result ℕ NumbersFault) → r ≡ plain_numbers_read ws → FindsRow HasNumbers plain_number_words plain_numbers_room ws r
finds = finds_row plain_number_words numbers_after plain_numbers_read HasNumbers plain_numbers_room found

pub tells : (ws : List ℕ) → ReadsRow HasNumbers plain_number_words ws (numbers_after ws)
tells ws items rest has e = ap numbers_after e ∙ again items rest
