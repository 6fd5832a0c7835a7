use Rattle.std.proofs.Common.{max, Some, sym, ap, ◌∙◌, arith}
use Rattle.bitmaps.proofs.Tested.{following_is, following_none}
use Rattle.runs.specs.Runs.{in_runs}
use Rattle.runs.proofs.RunPlaces.{covers_past, begun_none, begun_some}
use Rattle.runs.proofs.run_bitmap.RunBitsCountedBitmap.following.Goals as goal

pub returns-then-place-self : goal.returns-then-place-self
returns-then-place-self c =
    let p = c.args.self.now in
    let past = covers_past p.len p.runs.now p.lawful in
    following_none (in_runs p.runs.now) p.len past c.args.place (λ k low. past k (omega arith))

pub returns-in_err-first : goal.returns-in_err-first
returns-in_err-first c =
    let p = c.args.self.now in
    let ws = p.runs.now in
    c.from_residual.ensures ∙ following_none (in_runs ws) p.len (covers_past p.len ws p.lawful) c.args.place (begun_none ws c.args.place (sym c.in_err-first.ensures))

pub returns : goal.returns
returns c =
    let p = c.args.self.now in
    let ws = p.runs.now in
    let place = c.args.place in
    let first = c.in_ok-first.first in
    let begun = begun_some p.len ws p.lawful place first (sym c.in_ok-first.ensures) in
    let later = following_is (in_runs ws) p.len (covers_past p.len ws p.lawful) place (max place first) (omega arith) (λ k low high. begun.0 k low (omega arith)) begun.1 in
    ap Some (omega arith) ∙ later
