use Rattle.std.proofs.Common.{◌≡◌, ℕ, ◌<◌, false}
use Rattle.quads.specs.PlainLists.{at_fault}
use Rattle.quads.proofs.check.check_plain.Given as goal

-- no quad before this one is at fault
abbrev pub invariant-loop-place : goal.invariant-loop-place
invariant-loop-place l = (k : ℕ) → k < l.place → at_fault l.quads k ≡ false
