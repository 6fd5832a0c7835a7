use Rattle.std.proofs.Common.{◌≡◌, sum_by, count_ones, rules, ◌∙◌, arith}
use Rattle.bitmaps.proofs.Ones.{sum_ones}
use Rattle.bitmaps.proofs.stretch.ones_in.Goals as goal

pub returns : goal.returns
returns c =
    let ws = c.args.words.now in
    let sum : c.sum.result ≡ sum_by count_ones ws = search rules in
    sum ∙ sum_ones ws (λ i. omega (arith, c.type_inv.words i))
