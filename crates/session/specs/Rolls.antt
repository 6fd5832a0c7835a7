-- The roll: which cursors are open, as they are written into a buffer. Assumes nothing.
use Rattle.std.specs.Prelude.{◌≡◌, ℕ, Bool, true, false, cond, ◌&&◌, List, length, take, Ok, Err, filter, Result, nat_lt}
use Rattle.std.specs.List.{range_with_len}
use Rattle.session.specs.Outcomes.{Outcome, counted, refused, occurrences}
use Rattle.session.specs.Tables.{cursor_at}
use Rattle.session.specs.declared.cursor.State.{State}
use Rattle.session.specs.declared.cursor.State.TheVariants.{Closed, Waiting, Ended}
use Rattle.session.specs.declared.cursor.Table.{Table}
use Rattle.session.specs.declared.refusal.Refusal.{Refusal}

-- a cursor is open while it waits or has ended
abbrev pub is_open : State → Bool
is_open Closed = false
is_open (Waiting mark) = true
is_open Ended = true

-- there is a cursor of this number, and it is open
unfoldable pub is_open_at : Table → ℕ → Bool
is_open_at t k = nat_lt k 8 && is_open (cursor_at t k).state

-- the numbers of the open cursors
unfoldable pub open_cursors : Table → List ℕ
open_cursors t = filter (is_open_at t) (range_with_len 0 8)

-- what roll answers, as a count: how many they are, or 25 for a buffer with too little room
unfoldable pub roll_outcome : Table → ℕ → Outcome
roll_outcome t room = cond (nat_lt room (length (open_cursors t))) (refused 25) (counted (length (open_cursors t)))

-- the front of the buffer then has each open cursor just once and nothing else, in any order
abbrev pub RollWrote : Table → List ℕ → Result ℕ Refusal → Type 0
RollWrote t after (Ok n) = (k : ℕ) → occurrences k (take n after) ≡ cond (is_open_at t k) 1 0
RollWrote t after (Err r) = Unit {0}
