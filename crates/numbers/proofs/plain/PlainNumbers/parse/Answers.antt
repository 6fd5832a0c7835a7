use Rattle.std.proofs.Common.{◌≡◌, true, rules}
use Rattle.numbers.specs.NumberWords.{each_below}
use Rattle.numbers.proofs.PlainNumberLaws.{below_all}
use Rattle.numbers.proofs.plain.PlainNumbers.parse.Goals as goal

pub invariant_of-result-clause-below : goal.invariant_of-result-clause-below
invariant_of-result-clause-below c =
    let below : each_below 32 c.in_ok-numbers.numbers.now ≡ true = below_all 32 c.in_ok-numbers.numbers.now (search rules) in
    cc
