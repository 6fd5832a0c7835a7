use Rattle.std.proofs.Common.{◌≡◌, ℕ, ◌+◌, ◌-◌, ◌<◌, ◌≤◌, true, [], ◌∷◌, length, sym, ap, ◌∙◌, subst, arith, length-append}
use Rattle.session.specs.Rolls.{is_open_at, open_cursors}
use Rattle.session.specs.declared.cursor.Table.{Table}
use Rattle.session.proofs.Rolls.{upto, upto_yes, upto_grows, wrote_yes, wrote_no, open_here}
use Rattle.session.proofs.cursor.Table.write_open.Goals as goal
use Rattle.session.proofs.cursor.Table.write_open.Goals.{then-is_open, else-is_open}

-- a cursor that is open has its room in the buffer
room : (t : Table) (k n size : ℕ) → k < 8 → is_open_at t k ≡ true → n ≡ length (upto (is_open_at t) k) → length (open_cursors t) ≤ size → n < size
unfolding open_cursors
room t k n size h e m b =
    let test = is_open_at t in
    let more : length (upto test (k + 1)) ≡ length (upto test k) + 1 = ap length (upto_yes test k e) ∙ length-append (upto test k) (k ∷ []) in
    let grows = upto_grows test (k + 1) (7 - k) in
    let eight : k + 1 + (7 - k) ≡ 8 = omega arith in
    let most : length (upto test (k + 1)) ≤ length (upto test 8) = subst (λ j. length (upto test (k + 1)) ≤ length (upto test j)) eight grows in
    omega arith

pub bounds-buffer-count : goal.bounds-buffer-count
bounds-buffer-count c =
    room c.args.self.now c.loop-number.number c.loop-number.count _ c.loop-number-test.true (open_here c.args.self.now c.loop-number.number (omega arith) ∙ sym c.if-is_open.ensures) c.loop-number.invariant.0
    (omega arith)

pub loop-number-preserved : goal.loop-number-preserved
loop-number-preserved c =
    let test = is_open_at c.args.self.now in
    let k = c.loop-number.number in
    let inv = c.loop-number.invariant in
    elim c.if-is_open.branch [
      | then-is_open w ↦ rw (w.buffer-is, w.count-is) (wrote_yes test k c.loop-number.count c.loop-number.buffer c.args.buffer.now inv.0 inv.1 inv.2 (room c.args.self.now k c.loop-number.count _ c.loop-number-test.true (open_here c.args.self.now k (omega arith) ∙ sym w.if-is_open.ensures) inv.0 (omega arith)) (open_here c.args.self.now k (omega arith) ∙ sym w.if-is_open.ensures))
      | else-is_open w ↦ rw (w.buffer-is, w.count-is) (wrote_no test k c.loop-number.count c.loop-number.buffer c.args.buffer.now inv.0 inv.1 inv.2 (open_here c.args.self.now k (omega arith) ∙ sym w.if-is_open.ensures))
    ]

pub returns : goal.returns
unfolding open_cursors
returns c =
    let eight : c.loop-number.number ≡ 8 = omega arith in
    let inv = c.loop-number.invariant in
    record {
      count = inv.0 ∙ ap (λ n. length (upto (is_open_at c.args.self.now) n)) eight;
      front = inv.1 ∙ ap (upto (is_open_at c.args.self.now)) eight;
      rest = inv.2;
    }
