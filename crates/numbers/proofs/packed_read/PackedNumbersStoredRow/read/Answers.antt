use Rattle.std.proofs.Common.{arith}
use Rattle.numbers.proofs.PackedNumberLaws.{takes, finds, tells}
use Rattle.numbers.proofs.packed_read.PackedNumbersStoredRow.read.Goals as goal

pub returns-clause-row : goal.returns-clause-row
returns-clause-row c = takes c.args.words.now _ c.parse.ensures.room (λ i. omega (arith, c.type_inv.words i))

pub returns-clause-found : goal.returns-clause-found
returns-clause-found c = finds c.args.words.now _ c.parse.ensures.room

pub returns-clause-told : goal.returns-clause-told
returns-clause-told c = tells c.args.words.now
