use Rattle.std.proofs.Common.{◌≡◌, ℕ, ◌<◌, false, length, sym, arith, below_more}
use Rattle.std.proofs.lemmas.Bool.{cond-true, cond-false}
use Rattle.quads.specs.PlainLists.{at_fault}
use Rattle.quads.proofs.Faults.{sound_at, no_id_at, falls_at, plain_from_sound, not_plain_from_fault, checked_sound, checked_fault}
use Rattle.quads.proofs.check.check_plain.Goals as goal

pub returns-then-not-has_ids : goal.returns-then-not-has_ids
returns-then-not-has_ids c =
    let qs = c.args.quads.now in
    let i = c.loop-place.place in
    let no-id = sym c.if-not-has_ids.ensures in
    let fault = no_id_at qs i no-id in
    record {
      answer = sym (checked_fault qs i 3 c.loop-place-test.true c.loop-place.invariant fault (cond-false _ 4 3 no-id));
      test = sym (not_plain_from_fault qs i c.loop-place-test.true fault);
    }

pub returns-then-not-rises_at : goal.returns-then-not-rises_at
returns-then-not-rises_at c =
    let qs = c.args.quads.now in
    let i = c.loop-place.place in
    let fault = falls_at qs i (sym c.if-not-rises_at.ensures) in
    record {
      answer = sym (checked_fault qs i 4 c.loop-place-test.true c.loop-place.invariant fault (cond-true _ 4 3 (sym c.if-not-has_ids.ensures)));
      test = sym (not_plain_from_fault qs i c.loop-place-test.true fault);
    }

pub loop-place-preserved : goal.loop-place-preserved
loop-place-preserved c =
    below_more _ _ c.loop-place.invariant
    (sound_at c.args.quads.now c.loop-place.place (sym c.if-not-has_ids.ensures) (sym c.if-not-rises_at.ensures))

pub returns : goal.returns
returns c =
    let qs = c.args.quads.now in
    let sound : (k : ℕ) → k < length qs → at_fault qs k ≡ false = λ k l. c.loop-place.invariant k (omega arith) in
    record { answer = sym (checked_sound qs sound); test = sym (plain_from_sound qs sound) }
