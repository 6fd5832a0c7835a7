use Rattle.std.proofs.Common.{◌≡◌, ◌-◌, ◌<◌, ltb, SomeIff, rules}
use Rattle.ordered.specs.Order.{first_not_below}
use Rattle.bitmaps.proofs.Blocks.{searched, last_within, last_fewer}
use Rattle.bitmaps.proofs.plain.PlainBits.last_block_below.Goals as goal

pub returns : goal.returns
returns c =
    let p = c.args.self.now in
    let next : c.first_not_below.result ≡ first_not_below ltb c.args.ones p.directory.now = searched p c.new.result.entries.now c.args.ones c.first_not_below.result c.new.ensures c.first_not_below.ensures.place in
    let last : SomeIff c.checked_sub.result (0 < first_not_below ltb c.args.ones p.directory.now) (first_not_below ltb c.args.ones p.directory.now - 1) = search rules in
    record { last = last; within = last_within p c.args.ones c.checked_sub.result last; fewer = last_fewer p c.args.ones c.checked_sub.result last }
