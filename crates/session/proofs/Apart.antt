-- The third part of the law from the second: a cursor's answers hang on the calls that name it alone. Assumes nothing.
use Rattle.std.proofs.Common.{◌≡◌, ℕ, true, false, ◌&&◌, eqb, [], ◌∷◌, Option, sym, refl, ap, ◌∙◌, subst, ⊎_elim, arith}
use Rattle.std.proofs.lemmas.Bool.{and_parts, and_left, both_ways, cases_Bool, cond-false, eqb-true}
use Rattle.ordered.specs.Lists.{each}
use Rattle.ordered.proofs.Kept.{kept_yes, kept_no}
use Rattle.ordered.proofs.Sorted.{kept_passes}
use Rattle.quads.specs.Listings.{Listing}
use Rattle.session.specs.Asks.{tried}
use Rattle.session.specs.Histories.{History, Opening, granted, after_granted, after_call, opening_of, names, on, calls}
use Rattle.session.specs.Law.{due_in, Due, Answered}
use Rattle.session.specs.Outcomes.{Outcome}
use Rattle.session.specs.declared.call.Call.{Call}
use Rattle.session.specs.declared.call.Call.TheVariants.{On, Tally, Roll}

-- a call that does not name the cursor leaves its opening
other_opening : (k : ℕ) (call : Call) (o : Outcome) (w : Option Opening) → names k call ≡ false → after_call k call o w ≡ w
other_opening k (On j ask) o w f = cond-false (eqb j k && granted o) (after_granted ask o w) w (and_left _ _ f)
other_opening k Tally o w f = refl
other_opening k (Roll room) o w f = refl

-- its opening is told by the calls that name it
on_opening : (k : ℕ) (h : History) → opening_of k (on k h) ≡ opening_of k h
unfolding opening_of on
on_opening k [] = refl
on_opening k (e ∷ h) =
    ⊎_elim
    (λ t. ap (opening_of k) (kept_yes (λ e. names k e.call) e h t) ∙ ap (after_call k e.call e.outcome) (on_opening k h))
    (λ f. ap (opening_of k) (kept_no (λ e. names k e.call) e h f) ∙ on_opening k h ∙ sym (other_opening k e.call e.outcome (opening_of k h) f))
    (cases_Bool (names k e.call))

-- and so is what is due of it
on_due : (l : Listing) (k : ℕ) (h : History) (call : Call) (o : Outcome) → names k call ≡ true → Due l h call o → Due l (on k h) call o
on_due l k h (On j ask) o t due =
    let same : j ≡ k = eqb-true j k t in
    due ∙ ap (λ w. tried j ask (due_in l w ask)) (ap (λ i. opening_of i h) same ∙ sym (on_opening k h) ∙ ap (λ i. opening_of i (on k h)) (sym same))
on_due l k h Tally o t due = absurd (both_ways false refl t)
on_due l k h (Roll room) o t due = absurd (both_ways false refl t)

on-answered : (l : Listing) (k : ℕ) (h : History) → Answered l h → Answered l (on k h)
unfolding on
on-answered l k [] a = tt
on-answered l k (e ∷ h) a =
    ⊎_elim
    (λ t. subst (Answered l) (sym (kept_yes (λ e. names k e.call) e h t)) (on_due l k h e.call e.outcome t a.0, on-answered l k h a.1))
    (λ f. subst (Answered l) (sym (kept_no (λ e. names k e.call) e h f)) (on-answered l k h a.1))
    (cases_Bool (names k e.call))

on_named : (k : ℕ) (h : History) → each (λ e. names k e.call) (on k h) ≡ true
unfolding on
on_named k h = kept_passes (λ e. names k e.call) h

-- a call that names a cursor has one outcome that is due
same_outcome : (l : Listing) (k : ℕ) (h : History) (call : Call) (o p : Outcome) → names k call ≡ true → Due l h call o → Due l h call p → o ≡ p
same_outcome l k h (On j ask) o p t a b = a ∙ sym b
same_outcome l k h Tally o p t a b = absurd (both_ways false refl t)
same_outcome l k h (Roll room) o p t a b = absurd (both_ways false refl t)

-- the same calls, the same answers
same_answers : (l : Listing) (k : ℕ) (g h : History) → Answered l g → Answered l h → each (λ e. names k e.call) h ≡ true → calls g ≡ calls h → g ≡ h
same_answers l k [] [] a b n e = refl
same_answers l k [] (f ∷ h) a b n e = let z : ◌≡◌ {A = ℕ} 0 1 = cc in absurd (omega arith)
same_answers l k (d ∷ g) [] a b n e = let z : ◌≡◌ {A = ℕ} 0 1 = cc in absurd (omega arith)
same_answers l k (d ∷ g) (f ∷ h) a b n e =
    let head : d.call ≡ f.call = cc in
    let tail : calls g ≡ calls h = cc in
    let rest : g ≡ h = same_answers l k g h a.1 b.1 (and_parts _ _ n).1 tail in
    let moved : Due l h f.call d.outcome = subst (λ x. Due l x f.call d.outcome) rest (subst (λ c. Due l g c d.outcome) head a.0) in
    let out : d.outcome ≡ f.outcome = same_outcome l k h f.call d.outcome f.outcome (and_parts _ _ n).0 moved b.0 in
    λ i. record { call = head i; outcome = out i } ∷ rest i

pub cursors-apart : (l : Listing) (k : ℕ) (h other : History) → Answered l h → Answered l other → calls (on k other) ≡ calls (on k h) → on k other ≡ on k h
cursors-apart l k h other a b e = same_answers l k (on k other) (on k h) (on-answered l k other b) (on-answered l k h a) (on_named k h) e
