use Rattle.std.proofs.Common.{◌≡◌, ℕ, leb, false, Some, None, Option, sym, refl, ap, ◌∙◌, rules, arith}
use Rattle.std.specs.Option.{option_map}
use Rattle.bitmaps.proofs.Tested.{nth-told, nth_past_told}
use Rattle.runs.specs.Runs.{first_of, in_runs, run_after}
use Rattle.runs.proofs.RunPlaces.{begun_none, begun_covers}
use Rattle.runs.proofs.run_bitmap.RunBitsRow.get.Goals as goal

pub returns-then-place-self : goal.returns-then-place-self
returns-then-place-self c =
    let p = c.args.self.now in
    sym (nth_past_told (in_runs p.runs.now) p.len c.args.place (omega arith))

-- whether the place is covered, by where the first run that ends after it begins
covered : (c : goal.After-is_some_and) (r : Option ℕ) → c.begin_after.result ≡ r → c.is_some_and.result ≡ in_runs c.args.self.now.runs.now c.args.place
covered c None e =
    let told : c.is_some_and.result ≡ false = search rules in
    let none : option_map first_of (run_after c.args.self.now.runs.now c.args.place) ≡ None = search rules in
    told ∙ sym (begun_none c.args.self.now.runs.now c.args.place none c.args.place (omega arith))
covered c (Some first) e =
    let told : c.is_some_and.result ≡ leb first c.args.place = search rules in
    let some : option_map first_of (run_after c.args.self.now.runs.now c.args.place) ≡ Some first = search rules in
    told ∙ sym (begun_covers c.args.self.now.len c.args.self.now.runs.now c.args.self.now.lawful c.args.place first some)

pub returns : goal.returns
returns c =
    let p = c.args.self.now in
    ap Some (covered c c.begin_after.result refl) ∙ sym (nth-told (in_runs p.runs.now) p.len c.args.place (omega arith))
