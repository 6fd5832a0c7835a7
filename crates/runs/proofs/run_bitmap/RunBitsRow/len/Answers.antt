use Rattle.std.proofs.Common.{arith}
use Rattle.std.proofs.lemmas.List.FromFn.{length-map-range_with_len}
use Rattle.runs.specs.Runs.{in_runs}
use Rattle.runs.proofs.run_bitmap.RunBitsRow.len.Goals as goal

pub returns : goal.returns
returns c = omega (arith, length-map-range_with_len (in_runs c.args.self.now.runs.now) 0 c.args.self.now.len)
