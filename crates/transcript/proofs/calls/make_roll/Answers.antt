use Rattle.std.proofs.Common.{◌≡◌, ℕ, ◌-◌, min, List, length, take, drop, replicate, ◌∙◌, arith}
use Rattle.std.proofs.lemmas.List.{length-take, take-append-drop}
use Rattle.std.proofs.lemmas.Result.{err_from_is_err_and}
use Rattle.transcript.proofs.Rolls.{roll_ok, roll_err, roll_rest}
use Rattle.transcript.proofs.calls.make_roll.Goals as goal

zeros : List ℕ
zeros = replicate 8 0

part_size : (room m : ℕ) → m ≡ min room 8 → length (take (m - 0) zeros) ≡ min room 8
unfolding zeros
part_size room m e = length-take (m - 0) zeros ∙ omega arith

pub returns : goal.returns
unfolding zeros
returns g c =
    let q = g.S.QuadSource in
    let s = c.args.session.now.source.now in
    let t = c.args.session.now.table in
    let told = c.in_ok-count.ensures in
    let size = part_size c.args.room c.min.result c.min.ensures in
    record {
      law = roll_ok (q.means s) (g.met.S.QuadSource.ascending s) (g.met.S.QuadSource.ids s) t c.args.room c.in_ok-count.count _ c.roll.new.buffer _ size (omega arith) told.answer told.law;
      rest = roll_rest (q.means s) (g.met.S.QuadSource.ascending s) (g.met.S.QuadSource.ids s) t c.args.room c.in_ok-count.count _ c.roll.new.buffer _ size (omega arith) zeros told.answer told.rest (take-append-drop (c.min.result - 0) zeros);
    }

pub returns-in_err-count : goal.returns-in_err-count
unfolding zeros
returns-in_err-count g c =
    let q = g.S.QuadSource in
    let s = c.args.session.now.source.now in
    let t = c.args.session.now.table in
    let size = part_size c.args.room c.min.result c.min.ensures in
    let p = err_from_is_err_and c.from_residual.result c.from_residual.ensures.1 in
    rw (p.1, p.2)
    (record {
      law = roll_err (q.means s) (g.met.S.QuadSource.ascending s) (g.met.S.QuadSource.ids s) t c.args.room 0 _ c.roll.new.buffer (drop 0 zeros) size (omega arith) _ c.in_err-count.ensures.law;
      rest = tt;
    })
