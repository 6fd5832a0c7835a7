use Rattle.std.proofs.Common.{◌≡◌, rules, arith}
use Rattle.ordered.specs.Order.{first_not_below}
use Rattle.ordered.proofs.Places.{place_parts, parted_by_key}
use Rattle.std.proofs.lemmas.List.Sorted.{IsPartitionPoint-from_clause}
use Rattle.ordered.proofs.list.OrderedList.first_not_below.Goals as goal

pub returns-clause-place : goal.returns-clause-place
returns-clause-place g c a =
    let below = g.T.Ordered.below in
    let key = c.args.key.now in
    let entries = c.args.self.now.entries.now in
    let point = IsPartitionPoint-from_clause (λ x. below x key) entries _ c.partition_point.ensures.partitioned (parted_by_key below g.T.Ordered.laws key entries a) (λ a r q k. search rules) in
    let place : c.partition_point.result ≡ first_not_below below key entries = place_parts below key entries _ c.partition_point.ensures.bound point in
    omega arith
