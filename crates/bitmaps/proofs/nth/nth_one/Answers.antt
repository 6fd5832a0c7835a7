use Rattle.std.proofs.Common.{arith}
use Rattle.bitmaps.proofs.Halving.{narrowed_none, narrowed_high, narrowed_low, narrowed_all}
use Rattle.bitmaps.proofs.nth.nth_one.Goals as goal
use Rattle.bitmaps.proofs.nth.nth_one.Goals.{then-rest-low, else-rest-low}

pub loop-half-init : goal.loop-half-init
loop-half-init c = narrowed_none c.args.word c.args.nth (omega arith) c.requires.some c.requires.enough

pub loop-half-preserved : goal.loop-half-preserved
loop-half-preserved c =
    let i = c.loop-half.half-index in
    let place = c.loop-half.place in
    let rest = c.loop-half.rest in
    elim c.if-rest-low.branch [
      | then-rest-low w ↦ rw (w.place-is, w.rest-is) (narrowed_high c.args.word c.args.nth place rest i c.loop-half-test.true c.loop-half.invariant w.if-rest-low.true)
      | else-rest-low w ↦ rw (w.place-is, w.rest-is) (narrowed_low c.args.word c.args.nth place rest i c.loop-half-test.true c.loop-half.invariant w.if-rest-low.false)
    ]

pub returns-clause-one : goal.returns-clause-one
returns-clause-one c = narrowed_all c.args.word c.args.nth c.loop-half.place c.loop-half.rest c.loop-half.half-index (omega arith) c.loop-half.invariant
