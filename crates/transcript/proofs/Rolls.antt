-- A roll into the front of a buffer of eight entries. Assumes nothing.
use Rattle.std.proofs.Common.{◌≡◌, ℕ, ◌≤◌, min, true, ltb, List, ◌∷◌, ◌++◌, length, take, drop, sym, ap, ◌∙◌, subst, ⊎_elim, arith}
use Rattle.std.specs.List.{range_with_len}
use Rattle.std.proofs.lemmas.List.FromFn.{length-range_with_len}
use Rattle.std.proofs.lemmas.List.{take-append-le, drop-append-le}
use Rattle.std.proofs.lemmas.List.Sums.{length-filter, count_by-le-length}
use Rattle.std.proofs.lemmas.Bool.{cases_Bool, cond-true, cond-false, ltb-false}
use Rattle.ordered.specs.Lists.{each}
use Rattle.ordered.specs.Order.{strictly_ascends}
use Rattle.quads.specs.Quads.{has_ids, quad_below}
use Rattle.quads.specs.Listings.{Listing}
use Rattle.session.specs.Histories.{History, opening_of, given_since, is_open_in}
use Rattle.session.specs.Keeps.{Follows}
use Rattle.session.specs.Law.{DueRoll, number_open}
use Rattle.session.specs.Outcomes.{Outcome, opened, gave, ended, counted, rolled, refused}
use Rattle.session.specs.Rolls.{roll_outcome, open_cursors}
use Rattle.session.specs.declared.call.Call.TheVariants.{Roll}
use Rattle.session.specs.declared.cursor.Table.{Table}
use Rattle.session.proofs.Listed.{law_from_answered}

-- no more than eight cursors are open
number_open_bound : (h : History) → number_open h ≤ 8
number_open_bound h =
    omega (arith, length-filter (is_open_in h) (range_with_len 0 8), count_by-le-length (is_open_in h) (range_with_len 0 8), length-range_with_len 0 8)

due_room : (h : History) (room : ℕ) (o : Outcome) → DueRoll h (min room 8) o → DueRoll h room o
due_room h room opened d = d
due_room h room (gave q) d = d
due_room h room ended d = d
due_room h room (counted n) d = d
due_room h room (rolled n ks) d = (omega (arith, d.0), d.1, d.2, d.3)
due_room h room (refused n) d = (omega (arith, d.0, number_open_bound h), d.1)

-- a roll into a buffer for eight comes to what one into a longer buffer has to come to
module _ (l : Listing) (ascending : strictly_ascends quad_below l.quads ≡ true) (ids : each has_ids l.quads ≡ true) where
  pub roll_room : (t : Table) (room : ℕ) (o : Outcome) → Follows l t (Roll (min room 8)) o t → Follows l t (Roll room) o t
  unfolding opening_of given_since
  roll_room t room o follows h keeps =
      let step = follows h keeps in
      let due = due_room h room o step.0 in (
        due,
        record {
          agrees = record { cursors = step.1.agrees.cursors; tally = step.1.agrees.tally; eight = step.1.agrees.eight };
          law = law_from_answered l ascending ids (record { call = Roll room; outcome = o } ∷ h) (due, keeps.law.answered);
        },
      )

-- what was written fits
pub roll_fits : (t : Table) (room n : ℕ) → counted n ≡ roll_outcome t room → n ≤ room
unfolding roll_outcome
roll_fits t room n e =
    ⊎_elim
    (λ b. let z : ◌≡◌ {A = ℕ} 0 1 = cc (e, cond-true (ltb room (length (open_cursors t))) (refused 25) (counted (length (open_cursors t))) b) in absurd (omega arith))
    (λ b.
    let f : counted n ≡ counted (length (open_cursors t)) = e ∙ cond-false (ltb room (length (open_cursors t))) (refused 25) (counted (length (open_cursors t))) b in
    let m : n ≡ length (open_cursors t) = cc in
    omega (arith, ltb-false room (length (open_cursors t)) b))
    (cases_Bool (ltb room (length (open_cursors t))))

-- the part of a buffer that was lent, what it then holds, and the whole buffer then
module _ (l : Listing) (ascending : strictly_ascends quad_below l.quads ≡ true) (ids : each has_ids l.quads ≡ true) (t : Table) (room n : ℕ) (part last rest : List ℕ) (size : length part ≡ min room 8) (long : length last ≡ length part) where
  pub roll_ok : counted n ≡ roll_outcome t (length part) → Follows l t (Roll (length part)) (rolled n (take n last)) t → Follows l t (Roll room) (rolled n (take n (last ++ rest))) t
  roll_ok answer law =
      let fits : n ≤ length last = omega (arith, roll_fits t (length part) n answer) in
      subst (λ ks. Follows l t (Roll room) (rolled n ks) t) (sym (take-append-le n last rest fits))
      (roll_room l ascending ids t room (rolled n (take n last)) (subst (λ m. Follows l t (Roll m) (rolled n (take n last)) t) size law))

  pub roll_err : (x : ℕ) → Follows l t (Roll (length part)) (refused x) t → Follows l t (Roll room) (refused x) t
  roll_err x law = roll_room l ascending ids t room (refused x) (subst (λ m. Follows l t (Roll m) (refused x) t) size law)

  pub roll_rest : (zeros : List ℕ) → counted n ≡ roll_outcome t (length part) → drop n last ≡ drop n part → part ++ rest ≡ zeros → drop n (last ++ rest) ≡ drop n zeros
  roll_rest zeros answer same whole =
      let fits : n ≤ length part = roll_fits t (length part) n answer in
      let fits_last : n ≤ length last = omega arith in
      drop-append-le n last rest fits_last ∙ ap (λ xs. xs ++ rest) same ∙ sym (drop-append-le n part rest fits) ∙ ap (drop n) whole
