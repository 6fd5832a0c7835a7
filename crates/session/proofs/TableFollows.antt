-- A session that keeps to a history answers what is due, and keeps to the history with the call added. Assumes nothing.
use Rattle.std.proofs.Common.{◌≡◌, ℕ, ◌+◌, ◌<◌, ◌≤◌, Bool, true, false, cond, ◌&&◌, eqb, ltb, List, [], ◌∷◌, length, get_or, set, is_some, Some, None, Ok, Err, Option, Result, sym, refl, ap, ◌∙◌, subst, ⊎_elim, add-zero, arith}
use Rattle.std.specs.List.{range_with_len}
use Rattle.std.proofs.lemmas.List.{set-get_or, get_or-set_same, get_or-set_other, get_or-replicate, length-set, length-take-le}
use Rattle.std.proofs.lemmas.Bool.{cases_Bool, cases_eq, cond-true, cond-false, ltb-true, ltb-false, eq-eqb, ne_eqb, and_left, and_right}
use Rattle.ordered.specs.Lists.{each}
use Rattle.ordered.specs.Order.{strictly_ascends}
use Rattle.quads.specs.Counts.{capped}
use Rattle.quads.specs.Quads.{has_ids, quad_below}
use Rattle.quads.specs.Listings.{Listing, first_from}
use Rattle.quads.specs.declared.quad.Quad.{Quad}
use Rattle.quads.specs.declared.pattern.Pattern.{Pattern}
use Rattle.session.specs.Cursors.{closed, outcome_in, after_in, cursor_outcome, cursor_after}
use Rattle.session.specs.Histories.{Event, History, Opening, granted, tells, given, after_granted, opening_of, given_since, is_open_in}
use Rattle.session.specs.Keeps.{StandsIn, Stands, Agrees, Keeps, Follows, OneAsked}
use Rattle.session.specs.Law.{due_in, Due, DueRoll, number_open}
use Rattle.session.specs.Outcomes.{Outcome, counted, refused, refusal_number, of_count, of_roll, gave_or}
use Rattle.session.specs.Rolls.{is_open, is_open_at, open_cursors, roll_outcome, RollWrote}
use Rattle.session.specs.Asks.{asks_only_ids}
use Rattle.session.specs.Tables.{new_table, cursor_at, tallied, ask_outcome, asked, ask_after}
use Rattle.session.specs.declared.call.Ask.{Ask}
use Rattle.session.specs.declared.call.Ask.TheVariants.{Open, Next, Seek, Left, Close}
use Rattle.session.specs.declared.call.Call.{Call}
use Rattle.session.specs.declared.call.Call.TheVariants.{On, Tally, Roll}
use Rattle.session.specs.declared.cursor.Cursor.{Cursor}
use Rattle.session.specs.declared.cursor.State.{State}
use Rattle.session.specs.declared.cursor.State.TheVariants.{Closed, Waiting, Ended}
use Rattle.session.specs.declared.cursor.Table.{Table}
use Rattle.session.specs.declared.refusal.Refusal.{Refusal}
use Rattle.ordered.proofs.Sorted.{kept_same}
use Rattle.session.proofs.Listed.{law_from_answered}
use Rattle.session.proofs.CursorFollows.{capped_more, goes, cursor_of, cursor_follows}

agrees_none : (l : Listing) → Agrees l [] new_table
unfolding opening_of given_since capped
agrees_none l =
    record {
      cursors = λ k h. subst (λ c. Stands l None c) (sym (get_or-replicate 8 k closed closed h)) refl;
      tally = refl;
      eight = refl;
    }

-- the event of a call
abbrev pub event : Call → Outcome → Event
event call o = record { call = call; outcome = o }

-- a call that changes nothing
keeps_same : (l : Listing) (h : History) (t : Table) (call : Call) (o : Outcome) → Agrees l h t
    → ((k : ℕ) → opening_of k (event call o ∷ h) ≡ opening_of k h) → given_since (event call o ∷ h) ≡ given_since h → Agrees l (event call o ∷ h) t
keeps_same l h t call o keeps same count =
    record {
      cursors = λ k b. subst (λ w. Stands l w (cursor_at t k)) (sym (same k)) (keeps.cursors k b);
      tally = keeps.tally ∙ ap capped (sym count);
      eight = keeps.eight;
    }

refused-gave : (ask : Ask) (n : ℕ) → given (tells ask (refused n)) ≡ []
unfolding given
refused-gave (Open p) n = refl
refused-gave Next n = refl
refused-gave (Seek mark) n = refl
refused-gave Left n = refl
refused-gave Close n = refl

refused_opening : (k j : ℕ) (ask : Ask) (n : ℕ) (h : History) → opening_of k (event (On j ask) (refused n) ∷ h) ≡ opening_of k h
unfolding opening_of
refused_opening k j ask n h = cond-false (eqb j k && false) _ _ (and_right (eqb j k) false refl)

refused_since : (j : ℕ) (ask : Ask) (n : ℕ) (h : History) → given_since (event (On j ask) (refused n) ∷ h) ≡ given_since h
unfolding given_since
refused_since j ask n h = ap (λ qs. given_since h + length qs) (refused-gave ask n) ∙ add-zero (given_since h)

keeps_refused : (l : Listing) (h : History) (t : Table) (k : ℕ) (ask : Ask) (n : ℕ) → Agrees l h t → Agrees l (event (On k ask) (refused n) ∷ h) t
keeps_refused l h t k ask n keeps = keeps_same l h t (On k ask) (refused n) keeps (λ j. refused_opening j k ask n h) (refused_since k ask n h)

-- the tally and the quads given
tallied-gave : (l : Listing) (s : State) (p : Pattern) (n : ℕ) (ask : Ask) (m g : ℕ) → m ≡ capped g
    → tallied m (outcome_in l (cursor_of s p n) s ask) ≡ capped (g + length (given (tells ask (outcome_in l (cursor_of s p n) s ask))))
unfolding given
tallied-gave l s p n ask m g e = go s ask
  where
    none : m ≡ capped (g + 0)
    none = e ∙ ap capped (sym (add-zero g))

    next : (r : Option Quad) → tallied m (gave_or r) ≡ capped (g + length (given (tells Next (gave_or r))))
    next None = none
    next (Some q) = ap (λ x. capped (x + 1)) e ∙ capped_more g

    seek : (b : Bool) (to : Quad) (x : ℕ) → tallied m (cond b (refused 24) (counted x)) ≡ capped (g + length (given (tells (Seek to) (cond b (refused 24) (counted x)))))
    seek true to x = none
    seek false to x = none

    go : (s : State) (ask : Ask) → tallied m (outcome_in l (cursor_of s p n) s ask) ≡ capped (g + length (given (tells ask (outcome_in l (cursor_of s p n) s ask))))
    go Closed (Open q) = none
    go Closed Next = none
    go Closed (Seek to) = none
    go Closed Left = none
    go Closed Close = none
    go (Waiting mark) (Open q) = none
    go (Waiting mark) Next = next (first_from l p mark)
    go (Waiting mark) (Seek to) = seek (quad_below to mark) to _
    go (Waiting mark) Left = none
    go (Waiting mark) Close = none
    go Ended (Open q) = none
    go Ended Next = none
    go Ended (Seek to) = none
    go Ended Left = none
    go Ended Close = none

module _ (l : Listing) (ascending : strictly_ascends quad_below l.quads ≡ true) (ids : each has_ids l.quads ≡ true) where
  -- a call that reaches its cursor
  keeps_asked : (h : History) (t : Table) (k : ℕ) (ask : Ask) → k < 8 → Agrees l h t
      → (cursor_outcome l (cursor_at t k) ask ≡ due_in l (opening_of k h) ask) × Agrees l (event (On k ask) (cursor_outcome l (cursor_at t k) ask) ∷ h) (asked l t k ask)
  unfolding opening_of given_since
  keeps_asked h t k ask b keeps =
      let c = cursor_at t k in
      let o = cursor_outcome l c ask in
      let step = cursor_follows l ascending ids (opening_of k h) c.state c.pattern c.given ask (keeps.cursors k b) in (
        step.0,
        record {
          cursors = λ j m.
              ⊎_elim
              (λ e.
              let here : get_or (set t.cursors k (cursor_after l c ask)) j closed ≡ cursor_after l c ask =
              ap (λ i. get_or (set t.cursors k (cursor_after l c ask)) i closed) e ∙ get_or-set_same t.cursors k (cursor_after l c ask) closed (omega (arith, keeps.eight)) in
              let named : opening_of j (event (On k ask) o ∷ h) ≡ goes (opening_of k h) ask o =
              ap (λ t'. cond (t' && granted o) (after_granted ask o (opening_of j h)) (opening_of j h)) (eq-eqb k j (sym e)) ∙ ap (λ i. goes (opening_of i h) ask o) e in
              subst (λ w. Stands l w (get_or (set t.cursors k (cursor_after l c ask)) j closed)) (sym named) (subst (λ d. Stands l (goes (opening_of k h) ask o) d) (sym here) step.1))
              (λ n.
              let there : get_or (set t.cursors k (cursor_after l c ask)) j closed ≡ cursor_at t j = get_or-set_other t.cursors k j (cursor_after l c ask) closed n in
              let other : opening_of j (event (On k ask) o ∷ h) ≡ opening_of j h = cond-false (eqb k j && granted o) _ _ (and_left _ _ (ne_eqb k j (λ e. n (sym e)))) in
              subst (λ w. Stands l w (get_or (set t.cursors k (cursor_after l c ask)) j closed)) (sym other) (subst (λ d. Stands l (opening_of j h) d) (sym there) (keeps.cursors j m)))
              (cases_eq j k);
          tally = tallied-gave l c.state c.pattern c.given ask t.given (given_since h) keeps.tally;
          eight = length-set t.cursors k (cursor_after l c ask) ∙ keeps.eight;
        },
      )

  -- a call whose outcome is due, and after which the table agrees, keeps the law
  follows : (before after : Table) (call : Call) (o : Outcome) → ((h : History) → Agrees l h before → Due l h call o × Agrees l (event call o ∷ h) after) → Follows l before call o after
  follows before after call o step h keeps =
      let done = step h keeps.agrees in
      (done.0, record { agrees = done.1; law = law_from_answered l ascending ids (event call o ∷ h) (done.0, keeps.law.answered) })

  -- a new session keeps to the empty history
  pub keeps_none : Keeps l [] new_table
  keeps_none = record { agrees = agrees_none l; law = law_from_answered l ascending ids [] tt }

  ask_agrees : (t : Table) (k : ℕ) (ask : Ask) (h : History) → Agrees l h t → Due l h (On k ask) (ask_outcome l t k ask) × Agrees l (event (On k ask) (ask_outcome l t k ask) ∷ h) (ask_after l t k ask)
  ask_agrees t k ask h keeps = go (ltb 7 k) refl
    where
      input : (b : Bool) → asks_only_ids ask ≡ b → ltb 7 k ≡ false
          → (cond b (cursor_outcome l (cursor_at t k) ask) (refused 12) ≡ cond b (due_in l (opening_of k h) ask) (refused 12))
          × Agrees l (event (On k ask) (cond b (cursor_outcome l (cursor_at t k) ask) (refused 12)) ∷ h) (cond b (asked l t k ask) t)
      input true e f = keeps_asked h t k ask (omega (arith, ltb-false 7 k f)) keeps
      input false e f = (refl, keeps_refused l h t k ask 12 keeps)

      go : (b : Bool) → ltb 7 k ≡ b
          → (cond b (refused 11) (cond (asks_only_ids ask) (cursor_outcome l (cursor_at t k) ask) (refused 12)) ≡ cond b (refused 11) (cond (asks_only_ids ask) (due_in l (opening_of k h) ask) (refused 12)))
          × Agrees l (event (On k ask) (cond b (refused 11) (cond (asks_only_ids ask) (cursor_outcome l (cursor_at t k) ask) (refused 12))) ∷ h) (cond b t (cond (asks_only_ids ask) (asked l t k ask) t))
      go true e = (refl, keeps_refused l h t k ask 11 keeps)
      go false e = input (asks_only_ids ask) refl e

  ask_follows : (t : Table) (k : ℕ) (ask : Ask) → Follows l t (On k ask) (ask_outcome l t k ask) (ask_after l t k ask)
  ask_follows t k ask = follows t (ask_after l t k ask) (On k ask) (ask_outcome l t k ask) (ask_agrees t k ask)

  -- the same of what a call answered and left, where it is this
  pub ask_law : (t after : Table) (k : ℕ) (ask : Ask) (o : Outcome) → o ≡ ask_outcome l t k ask → after ≡ ask_after l t k ask → Follows l t (On k ask) o after
  ask_law t after k ask o answer then =
      subst (λ u. Follows l t (On k ask) o u) (sym then) (subst (λ x. Follows l t (On k ask) x (ask_after l t k ask)) (sym answer) (ask_follows t k ask))

  pub one_asked : (t after : Table) (k : ℕ) (ask : Ask) (o : Outcome) → o ≡ ask_outcome l t k ask → after ≡ ask_after l t k ask → (granted o ≡ false → after ≡ t) → OneAsked l t k ask o after
  one_asked t after k ask o answer then kept = record { answer = answer; table = then; kept = kept; law = ask_law t after k ask o answer then }

-- asking what is left changes nothing
left_stays : (l : Listing) (c : Cursor) (s : State) → after_in l c s Left ≡ c
left_stays l c Closed = refl
left_stays l c (Waiting mark) = refl
left_stays l c Ended = refl

left_counts : (l : Listing) (c : Cursor) (n : ℕ) (s : State) → tallied n (outcome_in l c s Left) ≡ n
left_counts l c n Closed = refl
left_counts l c n (Waiting mark) = refl
left_counts l c n Ended = refl

cond_same : {A : Type 0} (b : Bool) (x : A) → cond b x x ≡ x
cond_same true x = refl
cond_same false x = refl

pub left-same : (l : Listing) (t : Table) (k : ℕ) → ask_after l t k Left ≡ t
left-same l t k =
    let c = cursor_at t k in
    let kept : asked l t k Left ≡ t = λ i. record {
      cursors = (ap (set t.cursors k) (left_stays l c c.state) ∙ set-get_or t.cursors k closed) i;
      given = left_counts l c t.given c.state i;
    } in
    ap (cond (ltb 7 k) t) kept ∙ cond_same (ltb 7 k) t

-- tally
tally-agrees : (l : Listing) (t : Table) (h : History) → Agrees l h t → Due l h Tally (counted t.given) × Agrees l (event Tally (counted t.given) ∷ h) t
unfolding opening_of given_since
tally-agrees l t h keeps =
    (ap counted keeps.tally, keeps_same l h t Tally (counted t.given) keeps (λ k. refl) (add-zero (given_since h)))

-- a cursor is open in the table as the history tells
open_stands : (l : Listing) (w : Option Opening) (c : Cursor) (s : State) → StandsIn l w c s → is_open s ≡ is_some w
open_stands l w c Closed e = sym (ap is_some e)
open_stands l w c (Waiting mark) h = sym (ap is_some h.1)
open_stands l w c Ended h = sym (ap is_some h.1)

open_same : (l : Listing) (h : History) (t : Table) → Agrees l h t → (k : ℕ) → is_open_at t k ≡ is_open_in h k
unfolding is_open_at is_open_in
open_same l h t keeps k =
    ⊎_elim
    (λ b. ap (λ s. ltb k 8 && s) (open_stands l (opening_of k h) (cursor_at t k) (cursor_at t k).state (keeps.cursors k (ltb-true k 8 b))))
    (λ b. and_left _ _ b ∙ sym (and_left _ _ b))
    (cases_Bool (ltb k 8))

number_same : (l : Listing) (h : History) (t : Table) → Agrees l h t → length (open_cursors t) ≡ number_open h
unfolding open_cursors
number_same l h t keeps = ap length (kept_same (is_open_at t) (is_open_in h) (open_same l h t keeps) (range_with_len 0 8))

-- roll
due_roll : (l : Listing) (h : History) (t : Table) (before after : List ℕ) (r : Result ℕ Refusal) → Agrees l h t → length after ≡ length before
    → of_count r ≡ roll_outcome t (length before) → RollWrote t after r → DueRoll h (length before) (of_roll r after)
unfolding roll_outcome
due_roll l h t before after (Ok n) keeps long answer wrote =
    ⊎_elim
    (λ b. let z : ◌≡◌ {A = ℕ} 0 1 = cc (answer, cond-true (ltb (length before) (length (open_cursors t))) (refused 25) (counted (length (open_cursors t))) b) in absurd (omega arith))
    (λ b.
    let e : counted n ≡ counted (length (open_cursors t)) = answer ∙ cond-false (ltb (length before) (length (open_cursors t))) (refused 25) (counted (length (open_cursors t))) b in
    let m : n ≡ length (open_cursors t) = cc in
    let same : length (open_cursors t) ≡ number_open h = number_same l h t keeps in
    let room : length (open_cursors t) ≤ length before = ltb-false _ _ b in
    (omega arith, omega arith, length-take-le n after (omega arith), λ k. wrote k ∙ ap (λ s. cond s 1 0) (open_same l h t keeps k)))
    (cases_Bool (ltb (length before) (length (open_cursors t))))
due_roll l h t before after (Err r) keeps long answer wrote =
    ⊎_elim
    (λ b.
    let e : refused (refusal_number r) ≡ refused 25 = answer ∙ cond-true (ltb (length before) (length (open_cursors t))) (refused 25) (counted (length (open_cursors t))) b in
    let m : refusal_number r ≡ 25 = cc in
    let same : length (open_cursors t) ≡ number_open h = number_same l h t keeps in
    let short : length before < length (open_cursors t) = ltb-true _ _ b in
    (omega arith, m))
    (λ b. let z : ◌≡◌ {A = ℕ} 0 1 = cc (answer, cond-false (ltb (length before) (length (open_cursors t))) (refused 25) (counted (length (open_cursors t))) b) in absurd (omega arith))
    (cases_Bool (ltb (length before) (length (open_cursors t))))

roll_agrees : (l : Listing) (t : Table) (before after : List ℕ) (r : Result ℕ Refusal) → length after ≡ length before
    → of_count r ≡ roll_outcome t (length before) → RollWrote t after r → (h : History) → Agrees l h t → Due l h (Roll (length before)) (of_roll r after) × Agrees l (event (Roll (length before)) (of_roll r after) ∷ h) t
unfolding opening_of given_since
roll_agrees l t before after r long answer wrote h keeps = (
  due_roll l h t before after r keeps long answer wrote,
  keeps_same l h t (Roll (length before)) (of_roll r after) keeps (λ k. refl) (add-zero (given_since h)),
)

module _ (l : Listing) (ascending : strictly_ascends quad_below l.quads ≡ true) (ids : each has_ids l.quads ≡ true) where
  pub left_asked : (t : Table) (k : ℕ) (o : Outcome) → o ≡ ask_outcome l t k Left → OneAsked l t k Left o t
  left_asked t k o answer = one_asked l ascending ids t t k Left o answer (sym (left-same l t k)) (λ refused. refl)

  pub tally_follows : (t : Table) → Follows l t Tally (counted t.given) t
  tally_follows t = follows l ascending ids t t Tally (counted t.given) (tally-agrees l t)

  pub roll_follows : (t : Table) (before after : List ℕ) (r : Result ℕ Refusal) → length after ≡ length before
      → of_count r ≡ roll_outcome t (length before) → RollWrote t after r → Follows l t (Roll (length before)) (of_roll r after) t
  roll_follows t before after r long answer wrote =
      follows l ascending ids t t (Roll (length before)) (of_roll r after) (roll_agrees l t before after r long answer wrote)
