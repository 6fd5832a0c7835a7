use Rattle.std.proofs.Common.{[], arith}
use Rattle.bits.proofs.Words.{bit_past}
use Rattle.bitmaps.proofs.plain_read.PlainBitsStoredRow.empty.Goals as goal

pub invariant_of-result-clause-spare : goal.invariant_of-result-clause-spare
invariant_of-result-clause-spare c = λ k l. bit_past [] k (omega arith)
