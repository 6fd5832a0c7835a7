use Rattle.std.proofs.Common.{◌≡◌, ℕ, ◌*◌, ◌≤◌, Bool, List, true, false, length, sym, ap, ◌∙◌, arith}
use Rattle.std.proofs.lemmas.Bool.Decides.{nat_tests}
use Rattle.std.proofs.lemmas.Grind.{common_steps}
use Rattle.bits.specs.BareMeaning.{bare_bits, bare_words}
use Rattle.bits.specs.Words.{bits_in, held, spare_zero}
use Rattle.bits.specs.declared.bare.BareBits.{BareBits}
use Rattle.bits.proofs.SpareTold.{spare_told}
use Rattle.numbers.specs.NumberWords.{width_of}
use Rattle.numbers.specs.NumbersIn.{IsWidth, numbers_in, largest_of}
use Rattle.numbers.specs.PackedNumberRows.{packed_read, count_of, width_in, content_words, numbers_packed}
use Rattle.numbers.proofs.packed.PackedNumbers.parse.Goals as goal

-- what the words that were cut out tell of the row: its spare bits, its numbers, and their width by the largest
module _ (ws content : List ℕ) (len : ℕ) (is : content ≡ content_words ws) (counted : len ≡ count_of ws) where
  spare_is : (row : BareBits) (b : Bool) → width_in ws * len ≤ 64 * length content → bare_bits row ≡ bits_in content (held (width_in ws * len) (length content)) → bare_words row ≡ content → b ≡ spare_zero (bare_words row) (length (bare_bits row)) → b ≡ spare_zero (content_words ws) (width_in ws * count_of ws)
  spare_is row b room bits words e = rw (← is, ← counted) (spare_told row content (width_in ws * len) b bits words room e)

  numbers_are : numbers_in content (width_in ws) len ≡ numbers_packed ws
  numbers_are = rw (is, counted)

  width_is : (largest w : ℕ) → largest ≡ largest_of (numbers_in content (width_in ws) len) → IsWidth largest w → w ≡ width_of (numbers_packed ws)
  width_is largest w e list = list (numbers_packed ws) (ap largest_of (sym numbers_are) ∙ sym e)

pub returns-then-not-is_spare_zero : goal.returns-then-not-is_spare_zero
unfolding packed_read
returns-then-not-is_spare_zero c =
    let content : c.in_ok-content.content.now ≡ content_words c.args.words.now = grind (arith, common_steps) in
    let spare = spare_is c.args.words.now _ _ content (omega arith) c.new-2.result false (grind (arith, common_steps)) c.new-2.ensures.bits c.new-2.ensures.words c.if-not-is_spare_zero.ensures in
    grind (arith, nat_tests, common_steps, content, spare)

pub returns-then-width-width_of : goal.returns-then-width-width_of
unfolding packed_read
returns-then-width-width_of c =
    let content : c.in_ok-content.content.now ≡ content_words c.args.words.now = grind (arith, common_steps) in
    let spare = spare_is c.args.words.now _ _ content (omega arith) c.new-2.result true (grind (arith, common_steps)) c.new-2.ensures.bits c.new-2.ensures.words c.if-not-is_spare_zero.ensures in
    let width = width_is c.args.words.now _ _ content (omega arith) c.largest.result c.width_of.result c.largest.ensures c.width_of.ensures.list in
    grind (arith, nat_tests, common_steps, content, spare, width)

pub returns : goal.returns
unfolding packed_read
returns c =
    let content : c.in_ok-content.content.now ≡ content_words c.args.words.now = grind (arith, common_steps) in
    let spare = spare_is c.args.words.now _ _ content (omega arith) c.new-2.result true (grind (arith, common_steps)) c.new-2.ensures.bits c.new-2.ensures.words c.if-not-is_spare_zero.ensures in
    let width = width_is c.args.words.now _ _ content (omega arith) c.largest.result c.width_of.result c.largest.ensures c.width_of.ensures.list in
    record { room = grind (arith, nat_tests, common_steps, content, spare, width); numbers = numbers_are c.args.words.now _ _ content (omega arith) }
