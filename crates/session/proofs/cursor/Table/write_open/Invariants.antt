use Rattle.std.proofs.Common.{◌≡◌, length, take, drop}
use Rattle.session.specs.Rolls.{is_open_at}
use Rattle.session.proofs.Rolls.{upto}
use Rattle.session.proofs.cursor.Table.write_open.Given as goal

-- the open cursors so far stand at the front, and what comes after them is as it was
abbrev pub invariant-loop-number : goal.invariant-loop-number
invariant-loop-number l =
    (l.count ≡ length (upto (is_open_at l.self) l.number))
    × (take l.count l.buffer ≡ upto (is_open_at l.self) l.number)
    × (drop l.count l.buffer ≡ drop l.count l.initial.buffer)
