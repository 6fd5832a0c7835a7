use Rattle.bitmaps.proofs.Halving.{Narrowed}
use Rattle.bitmaps.proofs.nth.nth_one.Given as goal

abbrev pub invariant-loop-half : goal.invariant-loop-half
invariant-loop-half l = Narrowed l.word l.nth l.half-index l.place l.rest
