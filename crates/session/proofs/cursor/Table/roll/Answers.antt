use Rattle.std.proofs.Common.{◌<◌, ◌≤◌, length, sym, refl, ap, ◌∙◌, arith}
use Rattle.std.proofs.lemmas.Bool.{cond-true, cond-false, lt-ltb, le-ltb}
use Rattle.session.specs.Outcomes.{counted, occurrences}
use Rattle.session.specs.Rolls.{roll_outcome, open_cursors}
use Rattle.session.proofs.Rolls.{open_once, open_count}
use Rattle.session.proofs.cursor.Table.roll.Goals as goal

pub returns-then-buffer-count_open : goal.returns-then-buffer-count_open
unfolding roll_outcome
returns-then-buffer-count_open c =
    let short : length c.args.buffer.now < length (open_cursors c.args.self.now) = omega (arith, c.count_open.ensures, open_count c.args.self.now (omega arith)) in
    record { answer = sym (cond-true _ _ _ (lt-ltb _ _ short)); wrote = tt; rest = refl }

pub returns : goal.returns
unfolding roll_outcome
returns c =
    let room : length (open_cursors c.args.self.now) ≤ length c.args.buffer.now = omega (arith, c.count_open.ensures, open_count c.args.self.now (omega arith)) in
    record {
      answer = ap counted c.write_open.ensures.count ∙ sym (cond-false _ _ _ (le-ltb _ _ room));
      wrote = λ k. ap (occurrences k) c.write_open.ensures.front ∙ open_once c.args.self.now k;
      rest = c.write_open.ensures.rest;
    }

pub write_open-requires : goal.write_open-requires
write_open-requires c = omega (arith, c.count_open.ensures, open_count c.args.self.now (omega arith))
