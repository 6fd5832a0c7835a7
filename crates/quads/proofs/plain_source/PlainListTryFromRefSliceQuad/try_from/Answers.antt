use Rattle.std.proofs.Common.{sym}
use Rattle.std.proofs.lemmas.Bool.{and_parts}
use Rattle.quads.specs.PlainLists.{is_plain}
use Rattle.quads.proofs.plain_source.PlainListTryFromRefSliceQuad.try_from.Goals as goal

pub invariant_of-result : goal.invariant_of-result
unfolding is_plain
invariant_of-result c =
    let plain = and_parts _ _ (sym c.in_ok-check_plain.ensures.test) in
    record { ascending = plain.1; ids = plain.0 }
