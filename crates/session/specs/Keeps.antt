-- That a session's table stands as a history tells. This is the tie between the record and the law; the law itself does
-- not speak of it. Assumes nothing.
use Rattle.std.specs.Prelude.{◌≡◌, ℕ, ◌<◌, true, false, [], ◌∷◌, length, Some, None, Option}
use Rattle.quads.specs.Counts.{capped}
use Rattle.quads.specs.Listings.{Listing, matching, not_below}
use Rattle.quads.specs.declared.quad.Quad.{Quad}
use Rattle.session.specs.Histories.{History, Opening, granted, opening_of, given, left, has_ended, mark_of, given_since}
use Rattle.session.specs.Law.{Due, Law}
use Rattle.session.specs.Outcomes.{Outcome}
use Rattle.session.specs.Tables.{cursor_at, ask_outcome, ask_after}
use Rattle.session.specs.declared.call.Ask.{Ask}
use Rattle.session.specs.declared.call.Call.{Call}
use Rattle.session.specs.declared.call.Call.TheVariants.{On}
use Rattle.session.specs.declared.cursor.Cursor.{Cursor}
use Rattle.session.specs.declared.cursor.State.{State}
use Rattle.session.specs.declared.cursor.State.TheVariants.{Closed, Waiting, Ended}
use Rattle.session.specs.declared.cursor.Table.{Table}

-- a cursor waiting at a mark: what is left of its opening are the matching quads from there on
pub record Waits (l : Listing) (w : Opening) (c : Cursor) (mark : Quad) : Type 0 where
  pub pattern : w.pattern ≡ c.pattern
  pub unended : has_ended w.steps ≡ false
  pub at : mark_of w.steps ≡ mark
  pub rest : left l w ≡ not_below mark (matching l w.pattern)
  pub count : c.given ≡ capped (length (given w.steps))

-- a cursor that has ended: nothing is left of its opening
pub record Finished (l : Listing) (w : Opening) (c : Cursor) : Type 0 where
  pub pattern : w.pattern ≡ c.pattern
  pub done : has_ended w.steps ≡ true
  pub rest : left l w ≡ []
  pub count : c.given ≡ capped (length (given w.steps))

-- a cursor stands as its opening tells: closed where it is in none, and else waiting or ended
abbrev pub StandsIn : Listing → Option Opening → Cursor → State → Type 0
StandsIn l w c Closed = w ≡ None
StandsIn l w c (Waiting mark) = (v : Opening) × (w ≡ Some v) × Waits l v c mark
StandsIn l w c Ended = (v : Opening) × (w ≡ Some v) × Finished l v c

abbrev pub Stands : Listing → Option Opening → Cursor → Type 0
Stands l w c = StandsIn l w c c.state

-- the table stands as the history tells: each of the eight cursors as its opening, and as many quads were given
pub record Agrees (l : Listing) (h : History) (t : Table) : Type 0 where
  pub cursors : (k : ℕ) → k < 8 → Stands l (opening_of k h) (cursor_at t k)
  pub tally : t.given ≡ capped (given_since h)
  pub eight : length t.cursors ≡ 8

-- the session with this table keeps to this history: the table stands as it tells, and the law holds of it
pub record Keeps (l : Listing) (h : History) (t : Table) : Type 0 where
  pub agrees : Agrees l h t
  pub law : Law l h

-- for every history that the session keeps to, the outcome of the call is due, and then the session keeps to the history
-- with this call added
abbrev pub Follows : Listing → Table → Call → Outcome → Table → Type 0
Follows l before call o after =
    (h : History) → Keeps l h before → Due l h call o × Keeps l (record { call = call; outcome = o } ∷ h) after

-- what came of asking a cursor, and the table then: both are as they should be, a refusal changed nothing, and the law goes on
pub record OneAsked (l : Listing) (before : Table) (k : ℕ) (ask : Ask) (o : Outcome) (after : Table) : Type 0 where
  pub answer : o ≡ ask_outcome l before k ask
  pub table : after ≡ ask_after l before k ask
  pub kept : granted o ≡ false → after ≡ before
  pub law : Follows l before (On k ask) o after
