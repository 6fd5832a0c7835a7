use Rattle.std.proofs.Common.{◌≡◌, drop}
use Rattle.runs.specs.Runs.{runs_fit}
use Rattle.runs.proofs.run_read.are_lawful.Given as goal

-- the runs are lawful exactly if those that are left are
abbrev pub invariant-loop-word : goal.invariant-loop-word
invariant-loop-word l = runs_fit l.from l.len (drop l.word-index l.runs) ≡ runs_fit 0 l.len l.runs
