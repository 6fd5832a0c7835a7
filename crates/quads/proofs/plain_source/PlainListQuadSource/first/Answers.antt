use Rattle.std.proofs.Common.{◌≡◌, true, List, drop, filter, Option, sym, ap, ◌∙◌, subst}
use Rattle.std.proofs.lemmas.List.{take_rest}
use Rattle.ordered.specs.Lists.{each, foremost}
use Rattle.ordered.specs.Order.{ascends, strictly_ascends, first_not_below}
use Rattle.ordered.proofs.Kept.{ascends_strictly}
use Rattle.quads.specs.Patterns.{matches}
use Rattle.quads.specs.Quads.{has_ids, quad_below}
use Rattle.quads.specs.QuadOrder.{quad_order}
use Rattle.quads.specs.PlainMeaning.{plain_means, plain_ascending, plain_ids}
use Rattle.quads.specs.declared.quad.Quad.{Quad}
use Rattle.quads.specs.Spans.{start_of}
use Rattle.quads.proofs.Spans.{start_same, each-drop, ascends-drop}
use Rattle.quads.proofs.Search.{first_from_place}
use Rattle.quads.proofs.plain_source.PlainListQuadSource.first.Goals as goal

pub first_match-requires : goal.first_match-requires
first_match-requires c =
    let l = c.args.self.now in
    let rest = sym (take_rest l.quads.now c.first_not_below-start.result) in
    record {
      ascending = subst (λ xs. strictly_ascends quad_below xs ≡ true) rest (ascends-drop c.first_not_below-start.result l.quads.now (plain_ascending l));
      ids = subst (λ xs. each has_ids xs ≡ true) rest (each-drop has_ids c.first_not_below-start.result l.quads.now (plain_ids l));
    }

pub returns : goal.returns
returns c =
    let l = c.args.self.now in
    let qs = l.quads.now in
    let p = c.args.pattern in
    let found : List Quad → Option Quad = λ xs. foremost (filter (matches p) xs) in
    let start : Quad = start_of p c.args.mark in
    let ascending : ascends quad_below qs ≡ true = ascends_strictly quad_below quad_order qs (plain_ascending l) in
    let place : c.first_not_below-start.result ≡ first_not_below quad_below start qs =
    c.first_not_below-start.ensures.place (ap (ascends quad_below) c.new.ensures ∙ ascending)
    ∙ ap (λ m. first_not_below quad_below m c.new.result.entries.now) c.start.ensures
    ∙ ap (first_not_below quad_below start) c.new.ensures in
    c.first_match.ensures
    ∙ ap found (take_rest qs c.first_not_below-start.result ∙ ap (λ i. drop i qs) place)
    ∙ sym (first_from_place (plain_means l) p start (plain_ascending l))
    ∙ start_same (plain_means l) p c.args.mark
