-- A cursor that stands as its opening tells answers what is due, and stands so after the call too. Assumes nothing.
use Rattle.std.proofs.Common.{◌≡◌, ℕ, ◌+◌, Bool, true, false, cond, not, List, [], ◌∷◌, length, Some, None, filter, Option, sym, refl, ap, ◌∙◌, subst, ⊎_elim, arith, length-append}
use Rattle.std.proofs.lemmas.Bool.{cases_Bool, cond-true, cond-false, ltb-true, not_from_false}
use Rattle.ordered.specs.Lists.{each, foremost}
use Rattle.ordered.specs.Order.{strictly_ascends}
use Rattle.ordered.proofs.Sorted.{sorted, kept_all, each_weaker}
use Rattle.quads.specs.Counts.{capped}
use Rattle.quads.specs.Quads.{has_ids, quad_below, same_quad}
use Rattle.quads.specs.QuadOrder.{quad_order, below_or_cases}
use Rattle.quads.specs.Listings.{Listing, matching, not_below, first_from}
use Rattle.quads.specs.Marks.{lowest, right_after, between}
use Rattle.quads.specs.declared.quad.Quad.{Quad}
use Rattle.quads.specs.declared.pattern.Pattern.{Pattern}
use Rattle.quads.proofs.Marks.{first_none, first_some, not_below-sorted, not_below-right_after}
use Rattle.session.specs.Cursors.{opened_at, advanced, cursor_outcome, cursor_after}
use Rattle.session.specs.Histories.{gives, ends, seeks, Opening, granted, stepped, after_granted, given, jumped, left, newly_jumped, has_ended, mark_of}
use Rattle.session.specs.Keeps.{Waits, Finished, StandsIn, Stands}
use Rattle.session.specs.Law.{due_in}
use Rattle.session.specs.Outcomes.{Outcome, gave, ended, counted, refused, gave_or}
use Rattle.session.specs.declared.call.Ask.{Ask}
use Rattle.session.specs.declared.call.Ask.TheVariants.{Open, Next, Seek, Left, Close}
use Rattle.session.specs.declared.cursor.Cursor.{Cursor}
use Rattle.session.specs.declared.cursor.State.{State}
use Rattle.session.specs.declared.cursor.State.TheVariants.{Closed, Waiting, Ended}
use Rattle.session.proofs.Openings.{further, end_left, end_given, next_given, next_left, seek_given, seek_left, kept_others, not_below_later}

pub capped_more : (n : ℕ) → capped (capped n + 1) ≡ capped (n + 1)
unfolding capped
capped_more n = omega arith

capped-zero : 0 ≡ capped 0
unfolding capped
capped-zero = refl

-- nothing is below the lowest mark
lowest_below : (q : Quad) → quad_below q lowest ≡ false
unfolding quad_below
lowest_below q =
    ⊎_elim (λ t. ⊎_elim (λ l. absurd (omega arith)) (λ s.
    ⊎_elim (λ l. absurd (omega arith)) (λ p.
    ⊎_elim (λ l. absurd (omega arith)) (λ o. absurd (omega (arith, ltb-true q.g 0 o.1))) (below_or_cases q.o 0 _ p.1))
    (below_or_cases q.p 0 _ s.1))
    (below_or_cases q.s 0 _ t))
    (λ f. f)
    (cases_Bool (quad_below q lowest))

all : (qs : List Quad) → each (λ q. true) qs ≡ true
all [] = refl
all (q ∷ qs) = all qs

pub from_lowest : (qs : List Quad) → not_below lowest qs ≡ qs
unfolding not_below
from_lowest qs = kept_all (λ q. not (quad_below q lowest)) qs (each_weaker (λ q. true) (λ q. not (quad_below q lowest)) (λ q e. not_from_false _ (lowest_below q)) qs (all qs))

fresh_left : (l : Listing) (p : Pattern) → left l (record { pattern = p; steps = [] }) ≡ matching l p
unfolding left given jumped
fresh_left l p = kept_all (λ q. true) (matching l p) (all (matching l p))

-- the opening after a call with this outcome
abbrev pub goes : Option Opening → Ask → Outcome → Option Opening
goes w ask o = cond (granted o) (after_granted ask o w) w

abbrev pub cursor_of : State → Pattern → ℕ → Cursor
cursor_of s p n = record { state = s; pattern = p; given = n }

-- what is to be shown of a call
abbrev pub CursorFollows : Listing → Option Opening → Cursor → Ask → Type 0
CursorFollows l w c ask = (cursor_outcome l c ask ≡ due_in l w ask) × Stands l (goes w ask (cursor_outcome l c ask)) (cursor_after l c ask)

module _ (l : Listing) (ascending : strictly_ascends quad_below l.quads ≡ true) (ids : each has_ids l.quads ≡ true) where
  opens : (p : Pattern) → StandsIn l (Some (record { pattern = p; steps = [] })) (opened_at p) (Waiting lowest)
  unfolding has_ended mark_of given
  opens p = (
    record { pattern = p; steps = [] },
    refl,
    record {
      pattern = refl;
      unended = refl;
      at = refl;
      rest = fresh_left l p ∙ sym (from_lowest (matching l p));
      count = capped-zero;
    },
  )

  -- next at a mark
  next_none : (v : Opening) (p : Pattern) (n : ℕ) (mark : Quad) → Waits l v (cursor_of (Waiting mark) p n) mark → first_from l p mark ≡ None → (ended ≡ gave_or (foremost (left l v))) × Finished l (further ends v) (cursor_of Ended p n)
  unfolding has_ended
  next_none v p n mark h e =
      let none : left l v ≡ [] = h.rest ∙ ap (λ r. not_below mark (matching l r)) h.pattern ∙ first_none l p mark e in (
        ap (λ qs. gave_or (foremost qs)) (sym none),
        record {
          pattern = h.pattern;
          done = refl;
          rest = end_left l v ∙ none;
          count = h.count ∙ ap (λ qs. capped (length qs)) (sym (end_given l v));
        },
      )

  next_some : (v : Opening) (p : Pattern) (n : ℕ) (mark q : Quad) → Waits l v (cursor_of (Waiting mark) p n) mark → first_from l p mark ≡ Some q
      → (gave q ≡ gave_or (foremost (left l v))) × Waits l (further (gives q) v) (cursor_of (Waiting (right_after q)) p (capped (n + 1))) (right_after q)
  unfolding has_ended mark_of
  next_some v p n mark q h e =
      let found = first_some l p mark q e in
      let rest : left l v ≡ q ∷ found.0 = h.rest ∙ ap (λ r. not_below mark (matching l r)) h.pattern ∙ found.1 in
      let ascends : sorted quad_below quad_order (q ∷ found.0) ≡ true = subst (λ qs. sorted quad_below quad_order qs ≡ true) found.1 (not_below-sorted l ascending ids p mark) in
      let more : length (given (gives q ∷ v.steps)) ≡ length (given v.steps) + 1 = ap length (next_given l v q) ∙ length-append (given v.steps) (q ∷ []) in (
        ap (λ qs. gave_or (foremost qs)) (sym rest),
        record {
          pattern = h.pattern;
          unended = h.unended;
          at = refl;
          rest =
              next_left l v q
              ∙ ap (filter (λ x. not (same_quad x q))) rest
              ∙ kept_others q found.0 ascends
              ∙ sym (not_below-right_after l ascending ids p mark q found.0 found.1)
              ∙ ap (λ r. not_below (right_after q) (matching l r)) (sym h.pattern);
          count = ap (λ m. capped (m + 1)) h.count ∙ capped_more (length (given v.steps)) ∙ ap capped (sym more);
        },
      )

  -- seek to a mark that is not below
  seek_on : (v : Opening) (p : Pattern) (n : ℕ) (mark to : Quad) → Waits l v (cursor_of (Waiting mark) p n) mark → quad_below to mark ≡ false
      → (between mark to (matching l p) ≡ newly_jumped l v to) × Waits l (further (seeks to) v) (cursor_of (Waiting to) p n) to
  unfolding has_ended mark_of between newly_jumped
  seek_on v p n mark to h f =
      let rest : left l v ≡ not_below mark (matching l p) = h.rest ∙ ap (λ r. not_below mark (matching l r)) h.pattern in (
        ap (filter (λ q. quad_below q to)) (sym rest),
        record {
          pattern = h.pattern;
          unended = h.unended;
          at = refl;
          rest =
              seek_left l v to
              ∙ ap (filter (λ x. not (quad_below x to))) rest
              ∙ not_below_later mark to (matching l p) f
              ∙ ap (λ r. not_below to (matching l r)) (sym h.pattern);
          count = h.count ∙ ap (λ qs. capped (length qs)) (sym (seek_given l v to));
        },
      )

  -- end again
  next_again : (v : Opening) (c : Cursor) → Finished l v c → Finished l (further ends v) c
  unfolding has_ended
  next_again v c h =
      record { pattern = h.pattern; done = refl; rest = end_left l v ∙ h.rest; count = h.count ∙ ap (λ qs. capped (length qs)) (sym (end_given l v)) }

  waiting_next : (w : Option Opening) (v : Opening) (p : Pattern) (n : ℕ) (mark : Quad) → w ≡ Some v → Waits l v (cursor_of (Waiting mark) p n) mark → CursorFollows l w (cursor_of (Waiting mark) p n) Next
  waiting_next w v p n mark e h = go (first_from l p mark) refl
    where
      go : (r : Option Quad) → first_from l p mark ≡ r
          → (gave_or r ≡ due_in l w Next) × Stands l (goes w Next (gave_or r)) (advanced (cursor_of (Waiting mark) p n) r)
      go None f =
          let step = next_none v p n mark h f in
          (step.0 ∙ ap (λ z. due_in l z Next) (sym e), (further ends v, ap (stepped (ends ∷ [])) e, step.1))
      go (Some q) f =
          let step = next_some v p n mark q h f in
          (step.0 ∙ ap (λ z. due_in l z Next) (sym e), (further (gives q) v, ap (stepped (gives q ∷ [])) e, step.1))

  waiting_seek : (w : Option Opening) (v : Opening) (p : Pattern) (n : ℕ) (mark to : Quad) → w ≡ Some v → Waits l v (cursor_of (Waiting mark) p n) mark → CursorFollows l w (cursor_of (Waiting mark) p n) (Seek to)
  waiting_seek w v p n mark to e h = go (quad_below to mark) refl
    where
      c : Cursor
      c = cursor_of (Waiting mark) p n

      jumps : Outcome
      jumps = counted (capped (length (between mark to (matching l p))))

      due : (b : Bool) → quad_below to mark ≡ b → due_in l (Some v) (Seek to) ≡ cond b (refused 24) (counted (capped (length (newly_jumped l v to))))
      due b f =
          cond-false (has_ended v.steps) _ _ h.unended
          ∙ ap (λ m. cond (quad_below to m) (refused 24) (counted (capped (length (newly_jumped l v to))))) h.at
          ∙ ap (λ z. cond z (refused 24) (counted (capped (length (newly_jumped l v to))))) f

      go : (b : Bool) → quad_below to mark ≡ b
          → (cond b (refused 24) jumps ≡ due_in l w (Seek to)) × Stands l (goes w (Seek to) (cond b (refused 24) jumps)) (cond b c (cursor_of (Waiting to) p n))
      go true f = (sym (due true f) ∙ ap (λ z. due_in l z (Seek to)) (sym e), (v, e, h))
      go false f =
          let step = seek_on v p n mark to h f in (
            ap (λ qs. counted (capped (length qs))) step.0 ∙ sym (due false f) ∙ ap (λ z. due_in l z (Seek to)) (sym e),
            (further (seeks to) v, ap (stepped (seeks to ∷ [])) e, step.1),
          )

  -- by the state and what is asked
  pub cursor_follows : (w : Option Opening) (s : State) (p : Pattern) (n : ℕ) (ask : Ask) → StandsIn l w (cursor_of s p n) s → CursorFollows l w (cursor_of s p n) ask
  cursor_follows w Closed p n (Open q) e = (ap (λ z. due_in l z (Open q)) (sym e), opens q)
  cursor_follows w Closed p n Next e = (ap (λ z. due_in l z Next) (sym e), e)
  cursor_follows w Closed p n (Seek to) e = (ap (λ z. due_in l z (Seek to)) (sym e), e)
  cursor_follows w Closed p n Left e = (ap (λ z. due_in l z Left) (sym e), e)
  cursor_follows w Closed p n Close e = (ap (λ z. due_in l z Close) (sym e), e)
  cursor_follows w (Waiting mark) p n (Open q) h = (ap (λ z. due_in l z (Open q)) (sym h.1), h)
  cursor_follows w (Waiting mark) p n Next h = waiting_next w h.0 p n mark h.1 h.2
  cursor_follows w (Waiting mark) p n (Seek to) h = waiting_seek w h.0 p n mark to h.1 h.2
  cursor_follows w (Waiting mark) p n Left h =
      let rest : not_below mark (matching l p) ≡ left l h.0 = sym (h.2.rest ∙ ap (λ r. not_below mark (matching l r)) h.2.pattern) in
      (ap (λ qs. counted (capped (length qs))) rest ∙ ap (λ z. due_in l z Left) (sym h.1), h)
  cursor_follows w (Waiting mark) p n Close h = (ap counted h.2.count ∙ ap (λ z. due_in l z Close) (sym h.1), refl)
  cursor_follows w Ended p n (Open q) h = (ap (λ z. due_in l z (Open q)) (sym h.1), h)
  cursor_follows w Ended p n Next h = (
    ap (λ qs. gave_or (foremost qs)) (sym h.2.rest) ∙ ap (λ z. due_in l z Next) (sym h.1),
    (further ends h.0, ap (stepped (ends ∷ [])) h.1, next_again h.0 (cursor_of Ended p n) h.2),
  )
  cursor_follows w Ended p n (Seek to) h = (sym (cond-true (has_ended h.0.steps) _ _ h.2.done) ∙ ap (λ z. due_in l z (Seek to)) (sym h.1), h)
  cursor_follows w Ended p n Left h =
      (ap counted (capped-zero ∙ ap (λ qs. capped (length qs)) (sym h.2.rest)) ∙ ap (λ z. due_in l z Left) (sym h.1), h)
  cursor_follows w Ended p n Close h = (ap counted h.2.count ∙ ap (λ z. due_in l z Close) (sym h.1), refl)
