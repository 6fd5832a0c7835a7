use Rattle.std.proofs.Common.{leb, rules}
use Rattle.std.proofs.lemmas.List.Sorted.{IsPartitionedBy-leb, IsPartitionPoint-from_clause}
use Rattle.runs.specs.Runs.{end_of}
use Rattle.runs.proofs.RunPlaces.{after_part, ends_ascend}
use Rattle.runs.proofs.view.RunBits.ended_by.Goals as goal

pub returns : goal.returns
returns c =
    let p = c.args.self.now in
    let ws = p.runs.now in
    let k = c.args.place in
    let ended = c.partition_point.result in
    after_part ws k ended
    (IsPartitionPoint-from_clause (λ w. leb (end_of w) k) ws ended c.partition_point.ensures.partitioned (IsPartitionedBy-leb end_of ws k (ends_ascend p.len ws p.lawful)) (λ a r f b. search rules))
