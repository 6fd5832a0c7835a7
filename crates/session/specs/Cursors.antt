-- What a cursor answers and what it is then, by its state and what is asked of it. Assumes nothing.
use Rattle.std.specs.Prelude.{◌+◌, cond, length, Some, None, Option}
use Rattle.quads.specs.Counts.{capped}
use Rattle.quads.specs.Quads.{quad_below}
use Rattle.quads.specs.Listings.{Listing, matching, not_below, first_from}
use Rattle.quads.specs.Marks.{lowest, right_after, between}
use Rattle.quads.specs.declared.quad.Quad.{Quad}
use Rattle.quads.specs.declared.pattern.Pattern.{Pattern}
use Rattle.quads.specs.declared.pattern.Place.TheVariants.{Any}
use Rattle.session.specs.Outcomes.{Outcome, opened, ended, counted, refused, gave_or}
use Rattle.session.specs.declared.call.Ask.{Ask}
use Rattle.session.specs.declared.call.Ask.TheVariants.{Open, Next, Seek, Left, Close}
use Rattle.session.specs.declared.cursor.Cursor.{Cursor}
use Rattle.session.specs.declared.cursor.State.{State}
use Rattle.session.specs.declared.cursor.State.TheVariants.{Closed, Waiting, Ended}

abbrev pub closed : Cursor
closed = record { state = Closed; pattern = record { s = Any; p = Any; o = Any; g = Any }; given = 0 }

-- a cursor that was just opened waits at the lowest mark and has given nothing
abbrev pub opened_at : Pattern → Cursor
opened_at p = record { state = Waiting lowest; pattern = p; given = 0 }

-- next: the mark moves right after the quad that is given, or the cursor has ended
abbrev pub advanced : Cursor → Option Quad → Cursor
advanced c (Some q) = record { state = Waiting (right_after q); pattern = c.pattern; given = capped (c.given + 1) }
advanced c None = record { state = Ended; pattern = c.pattern; given = c.given }

-- seek: the mark moves forward or stays, and the matching quads from the old mark on and below the new one are jumped
abbrev pub sought_outcome : Listing → Pattern → Quad → Quad → Outcome
sought_outcome l p mark to = cond (quad_below to mark) (refused 24) (counted (capped (length (between mark to (matching l p)))))

abbrev pub sought : Cursor → Quad → Quad → Cursor
sought c mark to = cond (quad_below to mark) c (record { state = Waiting to; pattern = c.pattern; given = c.given })

-- left: the matching quads from the mark on
abbrev pub left_from : Listing → Pattern → Quad → Outcome
left_from l p mark = counted (capped (length (not_below mark (matching l p))))

-- by the state, with 21 for a cursor that is closed, 22 for one that is open already and 23 for one that has ended
abbrev pub outcome_in : Listing → Cursor → State → Ask → Outcome
outcome_in l c Closed (Open p) = opened
outcome_in l c Closed Next = refused 21
outcome_in l c Closed (Seek to) = refused 21
outcome_in l c Closed Left = refused 21
outcome_in l c Closed Close = refused 21
outcome_in l c (Waiting mark) (Open p) = refused 22
outcome_in l c (Waiting mark) Next = gave_or (first_from l c.pattern mark)
outcome_in l c (Waiting mark) (Seek to) = sought_outcome l c.pattern mark to
outcome_in l c (Waiting mark) Left = left_from l c.pattern mark
outcome_in l c (Waiting mark) Close = counted c.given
outcome_in l c Ended (Open p) = refused 22
outcome_in l c Ended Next = ended
outcome_in l c Ended (Seek to) = refused 23
outcome_in l c Ended Left = counted 0
outcome_in l c Ended Close = counted c.given

abbrev pub after_in : Listing → Cursor → State → Ask → Cursor
after_in l c Closed (Open p) = opened_at p
after_in l c Closed Next = c
after_in l c Closed (Seek to) = c
after_in l c Closed Left = c
after_in l c Closed Close = c
after_in l c (Waiting mark) (Open p) = c
after_in l c (Waiting mark) Next = advanced c (first_from l c.pattern mark)
after_in l c (Waiting mark) (Seek to) = sought c mark to
after_in l c (Waiting mark) Left = c
after_in l c (Waiting mark) Close = closed
after_in l c Ended (Open p) = c
after_in l c Ended Next = c
after_in l c Ended (Seek to) = c
after_in l c Ended Left = c
after_in l c Ended Close = closed

-- what the cursor answers over this listing
abbrev pub cursor_outcome : Listing → Cursor → Ask → Outcome
cursor_outcome l c ask = outcome_in l c c.state ask

-- what it is then; where it refuses, what it was
abbrev pub cursor_after : Listing → Cursor → Ask → Cursor
cursor_after l c ask = after_in l c c.state ask
