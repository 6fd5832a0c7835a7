use Rattle.std.proofs.Common.{◌≡◌, ℕ, ◌+◌, ◌<◌, length, get_or, take, Some, sum_by, ap, ◌∙◌, inl, inr, rules, arith}
use Rattle.bitmaps.proofs.Tested.{ones, select_is, select_none}
use Rattle.runs.specs.Runs.{first_of, size_of, in_runs}
use Rattle.runs.proofs.RunPlaces.{covers, covers_past, ones-between, ones_within, run_ends}
use Rattle.runs.proofs.run_bitmap.RunBitsCountedBitmap.select.Goals as goal

pub returns-in_err-before : goal.returns-in_err-before
returns-in_err-before c =
    let p = c.args.self.now in
    let ws = p.runs.now in
    let none : c.args.nth ≡ 0 = search rules in
    c.from_residual.ensures ∙ select_none (in_runs ws) p.len (covers_past p.len ws p.lawful) c.args.nth (inl none)

pub returns-then-before-size : goal.returns-then-before-size
returns-then-before-size c =
    let p = c.args.self.now in
    let ws = p.runs.now in
    let i = c.loop-word.word-index in
    let inside : i < length ws = omega arith in
    let k : ℕ = first_of (get_or ws i 0) + c.loop-word.before in
    ap Some (omega arith)
    ∙ select_is (in_runs ws) p.len (covers_past p.len ws p.lawful) k c.args.nth
    (covers ws k i inside (omega arith) (omega arith))
    (omega (arith, c.loop-word.invariant, ones_within p.len ws p.lawful i k inside (omega arith) (omega arith)))

pub returns : goal.returns
returns c =
    let p = c.args.self.now in
    let ws = p.runs.now in
    let i = c.loop-word.word-index in
    let all : ones (in_runs ws) p.len ≡ sum_by size_of (take i ws) =
    ones-between p.len ws p.lawful i p.len (omega arith) (λ j l. run_ends 0 p.len ws j p.lawful (omega arith)) (λ h. absurd (omega arith)) in
    select_none (in_runs ws) p.len (covers_past p.len ws p.lawful) c.args.nth (inr (omega (arith, all, c.loop-word.invariant)))
