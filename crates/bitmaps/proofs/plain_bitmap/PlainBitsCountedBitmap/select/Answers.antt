use Rattle.std.proofs.Common.{◌≡◌, ◌+◌, ◌-◌, ◌*◌, ◌<◌, ltb, get_or, Some, sym, ap, ◌∙◌, inl, inr, arith}
use Rattle.ordered.specs.Order.{first_not_below}
use Rattle.bits.specs.Words.{bit_at}
use Rattle.bitmaps.specs.Counts.{select_of}
use Rattle.bitmaps.specs.PlainMeaning.{plain_bits}
use Rattle.bitmaps.specs.Stretches.{stretch_bits}
use Rattle.bitmaps.proofs.Blocks.{select_first, select_some, select_fewer}
use Rattle.bitmaps.proofs.Tested.{select_none}
use Rattle.bitmaps.proofs.plain_bitmap.PlainBitsCountedBitmap.select.Goals as goal
use Rattle.bitmaps.proofs.plain_bitmap.PlainBitsCountedBitmap.select.Goals.{then-nth-eq0-via-then-nth-eq0, then-nth-eq0-via-else-nth-eq0+then-count-nth}

pub returns-then-nth-eq0 : goal.returns-then-nth-eq0
returns-then-nth-eq0 c =
    let p = c.args.self.now in
    select_none (bit_at p.words.now) p.len p.spare c.args.nth
    (elim c.then-nth-eq0.branch [
      | then-nth-eq0-via-then-nth-eq0 w ↦ inl w.if-nth-eq0.true
      | then-nth-eq0-via-else-nth-eq0+then-count-nth w ↦ inr (omega (arith, w.count.ensures, w.if-count-nth.true))
    ])

pub returns-in_err-block : goal.returns-in_err-block
returns-in_err-block c = c.from_residual.ensures ∙ select_first c.args.self.now c.args.nth (let last = c.in_err-block.ensures.last in omega arith)

pub returns-in_err-nth_in : goal.returns-in_err-nth_in
returns-in_err-nth_in c =
    let p = c.args.self.now in
    let block = c.in_ok-block.block in
    let last = c.in_ok-block.ensures.last in
    let found : block + 1 ≡ first_not_below ltb c.args.nth p.directory.now = omega arith in
    c.from_residual-in_err-nth_in.ensures
    ∙ select_fewer p c.args.nth block found (ap (λ xs. select_of (stretch_bits xs) (c.args.nth - get_or p.directory.now block 0)) (sym c.block_from.ensures) ∙ sym c.in_err-nth_in.ensures)

-- where the one was found
one : (c : goal.In_ok-nth_in) → (c.in_ok-nth_in.field-0 < 512) × (Some (512 * c.in_ok-block.block + c.in_ok-nth_in.field-0) ≡ select_of (plain_bits c.args.self.now) c.args.nth)
one c =
    let p = c.args.self.now in
    let block = c.in_ok-block.block in
    let last = c.in_ok-block.ensures.last in
    let found : block + 1 ≡ first_not_below ltb c.args.nth p.directory.now = omega arith in
    select_some p c.args.nth block found c.in_ok-nth_in.field-0 (ap (λ xs. select_of (stretch_bits xs) (c.args.nth - get_or p.directory.now block 0)) (sym c.block_from.ensures) ∙ sym c.in_ok-nth_in.ensures)

pub overflow_add-result : goal.overflow_add-result
overflow_add-result c = omega (arith, (one c).0, c.in_ok-block.ensures.within, c.args.self.now.begun, c.args.self.now.small)

pub returns : goal.returns
returns c = (one c).1
