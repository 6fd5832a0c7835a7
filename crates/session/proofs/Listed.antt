-- The first part of the law from the second: what the given and the left quads of an opening are to each other.
-- Assumes nothing.
use Rattle.std.proofs.Common.{◌≡◌, ℕ, zero, suc, Bool, true, false, cond, not, ◌&&◌, ◌||◌, eqb, ltb, List, [], ◌∷◌, ◌++◌, drop, Some, None, filter, Option, sym, refl, ap, ◌∙◌, subst, ⊎_elim, arith}
use Rattle.std.proofs.lemmas.Bool.{and_parts, and_from, or_left, or_right, both_ways, cases_Bool, cond-true, cond-false, eqb-true}
use Rattle.ordered.specs.Lists.{each, foremost}
use Rattle.ordered.specs.Order.{strictly_ascends}
use Rattle.ordered.proofs.Sorted.{sorted, strictly_sorted, sorted_kept, each_weaker, each_kept, each_append, each_both, kept_passes}
use Rattle.quads.specs.Quads.{has_ids, quad_below, same_quad}
use Rattle.quads.specs.QuadOrder.{quad_order}
use Rattle.quads.specs.Listings.{Listing, matching}
use Rattle.quads.specs.declared.quad.Quad.{Quad}
use Rattle.quads.specs.declared.pattern.Pattern.{Pattern}
use Rattle.quads.proofs.Marks.{matching-sorted}
use Rattle.session.specs.Histories.{History, gives, ends, seeks, Opening, granted, next_tells, stepped, after_granted, after_call, opening_of, has, given, jumped, left, has_ended}
use Rattle.session.specs.Law.{due_in, Due, Answered, Listed, Law}
use Rattle.session.specs.Asks.{asks_only_ids, tried}
use Rattle.session.specs.Outcomes.{Outcome, gave, ended, refused, gave_or}
use Rattle.session.specs.declared.call.Ask.{Ask}
use Rattle.session.specs.declared.call.Ask.TheVariants.{Open, Next, Seek, Left, Close}
use Rattle.session.specs.declared.call.Call.{Call}
use Rattle.session.specs.declared.call.Call.TheVariants.{On, Tally, Roll}
use Rattle.session.proofs.Apart.{cursors-apart}
use Rattle.session.proofs.Openings.{same_quad_refl, further, next_given, next_left, seek_left, kept_others}

-- every quad of a list stands in it, and so does what a filter keeps
has_itself : (xs : List Quad) → each (has xs) xs ≡ true
has_itself [] = refl
has_itself (x ∷ xs) =
    and_from _ _ (or_left _ _ (same_quad_refl x)) (each_weaker (has xs) (has (x ∷ xs)) (λ q e. or_right (same_quad q x) (has xs q) e) xs (has_itself xs))

has_kept : (t : Quad → Bool) (xs : List Quad) → each (has xs) (filter t xs) ≡ true
has_kept t xs = each_kept (has xs) t xs (has_itself xs)

push_ascends : (xs : List Quad) (y : Quad) → strictly_ascends quad_below xs ≡ true → each (λ x. quad_below x y) xs ≡ true → strictly_ascends quad_below (xs ++ y ∷ []) ≡ true
push_ascends [] y h k = refl
push_ascends (x ∷ []) y h k = and_from _ _ (and_parts _ _ k).0 refl
push_ascends (x ∷ (z ∷ zs)) y h k = and_from _ _ (and_parts _ _ h).0 (push_ascends (z ∷ zs) y (and_parts _ _ h).1 (and_parts _ _ k).1)

seek_unjumped : (j b g : Bool) → not j ≡ true → g ≡ true → not (j || (b && not g)) ≡ true
seek_unjumped true b g e f = e
seek_unjumped false true true e f = refl
seek_unjumped false true false e f = f
seek_unjumped false false g e f = refl

module _ (l : Listing) (ascending : strictly_ascends quad_below l.quads ≡ true) (ids : each has_ids l.quads ≡ true) where
  left-sorted : (w : Opening) → sorted quad_below quad_order (left l w) ≡ true
  unfolding left
  left-sorted w = sorted_kept quad_below quad_order _ (matching l w.pattern) (matching-sorted l ascending ids w.pattern)

  left-ascends : (w : Opening) → strictly_ascends quad_below (left l w) ≡ true
  left-ascends w = strictly_sorted quad_below quad_order (left l w) (left-sorted w)

  left-matches : (w : Opening) → each (has (matching l w.pattern)) (left l w) ≡ true
  unfolding left
  left-matches w = has_kept _ (matching l w.pattern)

  left-unjumped : (w : Opening) → each (λ q. not (jumped w.steps q)) (left l w) ≡ true
  unfolding left
  left-unjumped w =
      each_weaker (λ q. not (has (given w.steps) q) && not (jumped w.steps q)) (λ q. not (jumped w.steps q)) (λ q e. (and_parts _ _ e).1) _
      (kept_passes (λ q. not (has (given w.steps) q) && not (jumped w.steps q)) (matching l w.pattern))

  listed_fresh : (p : Pattern) → Listed l (record { pattern = p; steps = [] })
  unfolding given has_ended
  listed_fresh p =
      record {
        found = refl;
        ascending = refl;
        unjumped = refl;
        least_first = left-ascends (record { pattern = p; steps = [] });
        above = refl;
        complete = λ e. absurd (both_ways false refl e);
      }

  -- a next that answered end, where none was left
  listed_end : (v : Opening) → left l v ≡ [] → Listed l v → Listed l (further ends v)
  unfolding given jumped left
  listed_end v e h =
      record { found = h.found; ascending = h.ascending; unjumped = h.unjumped; least_first = h.least_first; above = h.above; complete = λ t. e }

  listed_next : (v : Opening) (q : Quad) (rest : List Quad) → left l v ≡ q ∷ rest → Listed l v → Listed l (further (gives q) v)
  unfolding jumped has_ended
  listed_next v q rest e h =
      let gs = given v.steps in
      let same = next_given l v q in
      let above : each (λ x. each (quad_below x) (q ∷ rest)) gs ≡ true = subst (λ qs. each (λ x. each (quad_below x) qs) gs ≡ true) e h.above in
      let ordered : sorted quad_below quad_order (q ∷ rest) ≡ true = subst (λ qs. sorted quad_below quad_order qs ≡ true) e (left-sorted v) in
      let others : left l (further (gives q) v) ≡ rest = next_left l v q ∙ ap (filter (λ x. not (same_quad x q))) e ∙ kept_others q rest ordered in
      record {
        found =
            subst (λ qs. each (has (matching l v.pattern)) qs ≡ true) (sym same)
            (each_append (has (matching l v.pattern)) gs (q ∷ []) h.found
            (and_from _ _ (and_parts _ _ (subst (λ qs. each (has (matching l v.pattern)) qs ≡ true) e (left-matches v))).0 refl));
        ascending =
            subst (λ qs. strictly_ascends quad_below qs ≡ true) (sym same)
            (push_ascends gs q h.ascending (each_weaker (λ x. each (quad_below x) (q ∷ rest)) (λ x. quad_below x q) (λ x a. (and_parts _ _ a).0) gs above));
        unjumped =
            subst (λ qs. each (λ x. not (jumped v.steps x)) qs ≡ true) (sym same)
            (each_append (λ x. not (jumped v.steps x)) gs (q ∷ []) h.unjumped
            (and_from _ _ (and_parts _ _ (subst (λ qs. each (λ x. not (jumped v.steps x)) qs ≡ true) e (left-unjumped v))).0 refl));
        least_first = left-ascends (further (gives q) v);
        above =
            subst (λ qs. each (λ x. each (quad_below x) (left l (further (gives q) v))) qs ≡ true) (sym same)
            (subst (λ r. each (λ x. each (quad_below x) r) (gs ++ q ∷ []) ≡ true) (sym others)
            (each_append (λ x. each (quad_below x) rest) gs (q ∷ [])
            (each_weaker (λ x. each (quad_below x) (q ∷ rest)) (λ x. each (quad_below x) rest) (λ x a. (and_parts _ _ a).1) gs above)
            (and_from _ _ (and_parts _ _ ordered).0 refl)));
        complete = λ t. let none : left l v ≡ [] = h.complete t in let z : ◌≡◌ {A = ℕ} 0 1 = cc (none, e) in absurd (omega arith);
      }

  listed_seek : (v : Opening) (mark : Quad) → Listed l v → Listed l (further (seeks mark) v)
  unfolding given jumped has_ended
  listed_seek v mark h =
      let gs = given v.steps in
      record {
        found = h.found;
        ascending = h.ascending;
        unjumped =
            each_both (λ q. not (jumped v.steps q)) (has gs) (λ q. not (jumped (seeks mark ∷ v.steps) q))
            (λ q n g. seek_unjumped (jumped v.steps q) (quad_below q mark) (has gs q) n g) gs h.unjumped (has_itself gs);
        least_first = left-ascends (further (seeks mark) v);
        above =
            subst (λ rest. each (λ q. each (quad_below q) rest) gs ≡ true) (sym (seek_left l v mark))
            (each_weaker (λ q. each (quad_below q) (left l v)) (λ q. each (quad_below q) (filter (λ x. not (quad_below x mark)) (left l v)))
            (λ q a. each_kept (quad_below q) (λ x. not (quad_below x mark)) (left l v) a) gs h.above);
        complete = λ t. seek_left l v mark ∙ ap (filter (λ x. not (quad_below x mark))) (h.complete t);
      }

  -- one call on, by what is asked and what came of it
  listed-granted : (w : Opening) (before : Option Opening) (ask : Ask) (o : Outcome) → ((v : Opening) → before ≡ Some v → Listed l v) → o ≡ due_in l before ask → after_granted ask o before ≡ Some w → Listed l w
  listed-granted w before (Open p) o ih due e = let same : record { pattern = p; steps = [] } ≡ w = cc in subst (Listed l) same (listed_fresh p)
  listed-granted w before Close o ih due e = let z : ◌≡◌ {A = ℕ} 0 1 = cc in absurd (omega arith)
  listed-granted w before Left o ih due e = ih w e
  listed-granted w None Next o ih due e = let z : ◌≡◌ {A = ℕ} 0 1 = cc in absurd (omega arith)
  listed-granted w None (Seek mark) o ih due e = let z : ◌≡◌ {A = ℕ} 0 1 = cc in absurd (omega arith)
  listed-granted w (Some v) (Seek mark) o ih due e = let same : further (seeks mark) v ≡ w = cc in subst (Listed l) same (listed_seek v mark (ih v refl))
  listed-granted w (Some v) Next o ih due e = next (left l v) refl
    where
      next : (qs : List Quad) → left l v ≡ qs → Listed l w
      next [] f =
          let said : o ≡ ended = due ∙ ap (λ xs. gave_or (foremost xs)) f in
          let same : Some (further ends v) ≡ Some w = ap (λ x. stepped (next_tells x) (Some v)) (sym said) ∙ e in
          let is : further ends v ≡ w = cc in
          subst (Listed l) is (listed_end v f (ih v refl))
      next (q ∷ rest) f =
          let said : o ≡ gave q = due ∙ ap (λ xs. gave_or (foremost xs)) f in
          let same : Some (further (gives q) v) ≡ Some w = ap (λ x. stepped (next_tells x) (Some v)) (sym said) ∙ e in
          let is : further (gives q) v ≡ w = cc in
          subst (Listed l) is (listed_next v q rest f (ih v refl))

  -- a granted call came to what is due in the opening
  granted_due : (k : ℕ) (before : Option Opening) (ask : Ask) (o : Outcome) → granted o ≡ true → o ≡ tried k ask (due_in l before ask) → o ≡ due_in l before ask
  granted_due k before ask o g due = go (ltb 7 k) (asks_only_ids ask) due
    where
      go : (a b : Bool) → o ≡ cond a (refused 11) (cond b (due_in l before ask) (refused 12)) → o ≡ due_in l before ask
      go true b e = absurd (both_ways false refl (sym (ap granted e) ∙ g))
      go false true e = e
      go false false e = absurd (both_ways false refl (sym (ap granted e) ∙ g))

  listed_step : (h : History) (k : ℕ) (w : Opening) (call : Call) (o : Outcome) → ((v : Opening) → opening_of k h ≡ Some v → Listed l v) → Due l h call o → after_call k call o (opening_of k h) ≡ Some w → Listed l w
  listed_step h k w (On j ask) o ih due f =
      ⊎_elim
      (λ t.
      let parts = and_parts (eqb j k) (granted o) t in
      let same : j ≡ k = eqb-true j k parts.0 in
      listed-granted w (opening_of k h) ask o ih
      (granted_due k (opening_of k h) ask o parts.1 (due ∙ ap (λ i. tried i ask (due_in l (opening_of i h) ask)) same))
      (sym (cond-true (eqb j k && granted o) (after_granted ask o (opening_of k h)) (opening_of k h) t) ∙ f))
      (λ n. ih w (sym (cond-false (eqb j k && granted o) (after_granted ask o (opening_of k h)) (opening_of k h) n) ∙ f))
      (cases_Bool (eqb j k && granted o))
  listed_step h k w Tally o ih due f = ih w f
  listed_step h k w (Roll room) o ih due f = ih w f

  pub opening_listed : (h : History) → Answered l h → (k : ℕ) (w : Opening) → opening_of k h ≡ Some w → Listed l w
  unfolding opening_of
  opening_listed [] a k w e = let z : ◌≡◌ {A = ℕ} 0 1 = cc in absurd (omega arith)
  opening_listed (ev ∷ h) a k w e = listed_step h k w ev.call ev.outcome (λ v f. opening_listed h a.1 k v f) a.0 e

  answered_before : (n : ℕ) (h : History) → Answered l h → Answered l (drop n h)
  answered_before zero h a = a
  answered_before (suc n) [] a = tt
  answered_before (suc n) (e ∷ h) a = answered_before n h a.1

  -- the law, whole, where every answer was due
  pub law_from_answered : (h : History) → Answered l h → Law l h
  law_from_answered h a =
      record {
        answered = a;
        listed = λ later k w e. opening_listed (drop later h) (answered_before later h a) k w e;
        apart = λ k other b e. cursors-apart l k h other a b e;
      }
