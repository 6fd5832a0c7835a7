use Rattle.std.proofs.Common.{sym, refl, ◌∙◌, rules, arith}
use Rattle.bits.specs.Words.{bit_at}
use Rattle.bitmaps.proofs.Following.{following_here, following_block, following_later}
use Rattle.bitmaps.proofs.Tested.{following_none}
use Rattle.bitmaps.proofs.plain_bitmap.PlainBitsCountedBitmap.following.Goals as goal

pub returns-then-place-self : goal.returns-then-place-self
returns-then-place-self c =
    let p = c.args.self.now in
    following_none (bit_at p.words.now) p.len p.spare c.args.place (λ k low. p.spare k (omega arith))

pub returns-then-rest-ne0 : goal.returns-then-rest-ne0
returns-then-rest-ne0 c = let here = following_here c.args.self.now c.args.place (omega arith) (omega arith) in search rules

pub returns-in-Some : goal.returns-in-Some
returns-in-Some c = following_block c.args.self.now c.args.place (omega arith) c.if-rest-ne0.false _ refl c.in-Some.found (sym c.in-Some.ensures)

pub returns-in-None : goal.returns-in-None
returns-in-None c = c.first_from.ensures ∙ following_later c.args.self.now c.args.place (omega arith) c.if-rest-ne0.false _ refl (sym c.in-None.ensures)
