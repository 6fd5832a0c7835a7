use Rattle.std.proofs.Common.{ℕ, ◌<◌, length, get_or, sym, ◌∙◌, ⊎_elim, arith}
use Rattle.std.proofs.lemmas.Bool.{cases_lt}
use Rattle.bitmaps.proofs.Tested.{rank_told}
use Rattle.runs.specs.Runs.{first_of, in_runs}
use Rattle.runs.proofs.RunPlaces.{covers_past, ones-between, ones_within, sizes_bound, run_ends}
use Rattle.runs.proofs.run_bitmap.RunBitsCountedBitmap.rank.Goals as goal

pub overflow_add-result : goal.overflow_add-result
overflow_add-result c =
    let p = c.args.self.now in
    let ws = p.runs.now in
    let i = c.loop-word.word-index in
    let inside : i < length ws = omega arith in
    omega (arith, c.loop-word.invariant.0, sizes_bound p.len ws p.lawful i inside, run_ends 0 p.len ws i p.lawful inside, c.saturating_sub.ensures, p.small)

pub returns-then-place-run : goal.returns-then-place-run
returns-then-place-run c =
    let p = c.args.self.now in
    let ws = p.runs.now in
    let i = c.loop-word.word-index in
    let k = c.args.place in
    let w : ℕ = get_or ws i 0 in
    let inside : i < length ws = omega arith in
    ⊎_elim
    (λ l. omega (arith, c.loop-word.invariant.0, c.saturating_sub.ensures, ones-between p.len ws p.lawful i k (omega arith) c.loop-word.invariant.1 (λ h. omega arith)))
    (λ l. omega (arith, c.loop-word.invariant.0, c.saturating_sub.ensures, ones_within p.len ws p.lawful i k inside l (omega arith)))
    (cases_lt k (first_of w))
    ∙ rank_told (in_runs ws) p.len (covers_past p.len ws p.lawful) k

pub overflow_add-count : goal.overflow_add-count
overflow_add-count c =
    let p = c.args.self.now in
    let ws = p.runs.now in
    omega (arith, c.loop-word.invariant.0, sizes_bound p.len ws p.lawful c.loop-word.word-index (omega arith), p.small)

pub returns : goal.returns
returns c =
    let p = c.args.self.now in
    let ws = p.runs.now in
    let k = c.args.place in
    c.loop-word.invariant.0
    ∙ sym (ones-between p.len ws p.lawful c.loop-word.word-index k (omega arith) c.loop-word.invariant.1 (λ h. absurd (omega arith)))
    ∙ rank_told (in_runs ws) p.len (covers_past p.len ws p.lawful) k
