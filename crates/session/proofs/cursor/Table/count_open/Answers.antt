use Rattle.std.proofs.Common.{rules, ◌^◌, ◌≤◌, length, arith}
use Rattle.std.proofs.lemmas.Iterator.{YieldsList-from_slice}
use Rattle.std.proofs.lemmas.Iterator.Adapters.{fits_from_length, at_most_from_yields_List}
use Rattle.session.proofs.cursor.Table.count_open.Goals as goal

-- eight cursors, and one for each at most
pub sum-requires-clause-fits : goal.sum-requires-clause-fits
sum-requires-clause-fits c =
    let few : length c.args.self.now.cursors ≤ 8 = search rules in
    fits_from_length _ _ 8 (2 ^ 64) (at_most_from_yields_List (YieldsList-from_slice c.args.self.now.cursors cc) few) c.map.ensures.closure (omega arith) (λ x r q k. search rules)
