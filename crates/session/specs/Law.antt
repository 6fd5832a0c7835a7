-- The session law: what a host is promised of any use of a session. Assumes nothing.
use Rattle.std.specs.Prelude.{◌≡◌, ℕ, ◌<◌, ◌≤◌, true, cond, not, [], ◌∷◌, length, drop, Some, None, filter, Option}
use Rattle.std.specs.List.{range_with_len}
use Rattle.ordered.specs.Lists.{each, foremost}
use Rattle.ordered.specs.Order.{strictly_ascends}
use Rattle.quads.specs.Counts.{capped}
use Rattle.quads.specs.Quads.{quad_below}
use Rattle.quads.specs.Listings.{Listing, matching}
use Rattle.session.specs.Asks.{tried}
use Rattle.session.specs.Histories.{History, Opening, opening_of, has, given, jumped, left, newly_jumped, has_ended, mark_of, given_since, is_open_in, on, calls}
use Rattle.session.specs.Outcomes.{Outcome, opened, gave, ended, counted, rolled, refused, gave_or, occurrences}
use Rattle.session.specs.declared.call.Ask.{Ask}
use Rattle.session.specs.declared.call.Ask.TheVariants.{Open, Next, Seek, Left, Close}
use Rattle.session.specs.declared.call.Call.{Call}
use Rattle.session.specs.declared.call.Call.TheVariants.{On, Tally, Roll}

-- what has to come of asking a cursor that is in this opening, or in none. Closed, it refuses all but open, with 21; open,
-- it refuses open with 22. Next gives the least quad left, and ends exactly if none is left; left, seek and close answer the
-- numbers left, newly jumped and given by this opening, as counts are answered; seek refuses with 23 once the opening has
-- ended, and with 24 a mark below the cursor's
abbrev pub due_in : Listing → Option Opening → Ask → Outcome
due_in l None (Open p) = opened
due_in l None Next = refused 21
due_in l None (Seek mark) = refused 21
due_in l None Left = refused 21
due_in l None Close = refused 21
due_in l (Some w) (Open p) = refused 22
due_in l (Some w) Next = gave_or (foremost (left l w))
due_in l (Some w) (Seek mark) = cond (has_ended w.steps) (refused 23) (cond (quad_below mark (mark_of w.steps)) (refused 24) (counted (capped (length (newly_jumped l w mark)))))
due_in l (Some w) Left = counted (capped (length (left l w)))
due_in l (Some w) Close = counted (capped (length (given w.steps)))

-- how many cursors are open
abbrev pub number_open : History → ℕ
number_open h = length (filter (is_open_in h) (range_with_len 0 8))

-- roll: the open cursors, each just once and nothing else, in any order; 25 exactly for a buffer that is too short
abbrev pub DueRoll : History → ℕ → Outcome → Type 0
DueRoll h room opened = ⊥
DueRoll h room (gave q) = ⊥
DueRoll h room ended = ⊥
DueRoll h room (counted n) = ⊥
DueRoll h room (rolled n ks) = (number_open h ≤ room) × (n ≡ number_open h) × (length ks ≡ n) × ((k : ℕ) → occurrences k ks ≡ cond (is_open_in h k) 1 0)
DueRoll h room (refused n) = (room < number_open h) × (n ≡ 25)

-- what has to come of a call after the calls of this history
abbrev pub Due : Listing → History → Call → Outcome → Type 0
Due l h (On k ask) o = o ≡ tried k ask (due_in l (opening_of k h) ask)
Due l h Tally o = o ≡ counted (capped (given_since h))
Due l h (Roll room) o = DueRoll h room o

-- each call came to what was due after the calls before it
abbrev pub Answered : Listing → History → Type 0
Answered l [] = Unit {0}
Answered l (e ∷ h) = Due l h e.call e.outcome × Answered l h

-- of an opening: the quads given are in the listing and match; they came in ascending order, so none came twice; none of
-- them was jumped; those left ascend too, so that the first of them is the least; each quad left is above all given; and
-- once a next has answered end, none is left
pub record Listed (l : Listing) (w : Opening) : Type 0 where
  pub found : each (has (matching l w.pattern)) (given w.steps) ≡ true
  pub ascending : strictly_ascends quad_below (given w.steps) ≡ true
  pub unjumped : each (λ q. not (jumped w.steps q)) (given w.steps) ≡ true
  pub least_first : strictly_ascends quad_below (left l w) ≡ true
  pub above : each (λ q. each (quad_below q) (left l w)) (given w.steps) ≡ true
  pub complete : has_ended w.steps ≡ true → left l w ≡ []

-- the law: each call came to what was due; at every earlier time too, with the later calls taken away, the opening of every
-- open cursor is as `Listed` says; and whoever makes the same calls on a cursor over the same listing, whatever else is
-- called, has the same answers to them
pub record Law (l : Listing) (h : History) : Type 0 where
  pub answered : Answered l h
  pub listed : (later k : ℕ) (w : Opening) → opening_of k (drop later h) ≡ Some w → Listed l w
  pub apart : (k : ℕ) (other : History) → Answered l other → calls (on k other) ≡ calls (on k h) → on k other ≡ on k h
