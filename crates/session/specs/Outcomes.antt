-- What a call comes to: which number and which values belong to each case of an answer. Assumes nothing.
use Rattle.std.specs.Prelude.{◌≡◌, ℕ, List, take, drop, Some, None, Ok, Err, count_by, Option, Result, nat_eq}
use Rattle.quads.specs.declared.quad.Quad.{Quad}
use Rattle.session.specs.declared.refusal.Refusal.{Refusal}
use Rattle.session.specs.declared.refusal.Refusal.TheVariants.{NoSuchCursor, NotAnId, CursorClosed, CursorOpen, CursorEnded, MarkBehind, BufferShort}
use Rattle.session.specs.declared.call.Reply.{Reply}
use Rattle.session.specs.declared.call.Reply.TheVariants.{Opened, Next, Counted}

-- a cursor was opened; a quad was given; a next answered end; a number was answered; so many cursors were written, and
-- these; the call was refused with a number
pub data Outcome : Type 0 where
  opened : Outcome
  gave : Quad → Outcome
  ended : Outcome
  counted : ℕ → Outcome
  rolled : ℕ → List ℕ → Outcome
  refused : ℕ → Outcome

-- what a next comes to: this quad, or end where there is none
abbrev pub gave_or : Option Quad → Outcome
gave_or (Some q) = gave q
gave_or None = ended

-- how often the number stands in the list
abbrev pub occurrences : ℕ → List ℕ → ℕ
occurrences k ns = count_by (nat_eq k) ns

-- the number of each refusal
abbrev pub refusal_number : Refusal → ℕ
refusal_number NoSuchCursor = 11
refusal_number NotAnId = 12
refusal_number CursorClosed = 21
refusal_number CursorOpen = 22
refusal_number CursorEnded = 23
refusal_number MarkBehind = 24
refusal_number BufferShort = 25

-- the outcome of a cursor's reply; written out, as those of the public calls below are
abbrev pub replied : Result Reply Refusal → Outcome
replied (Ok Opened) = opened
replied (Ok (Next found)) = gave_or found
replied (Ok (Counted n)) = counted n
replied (Err r) = refused (refusal_number r)

-- the count in a reply, or 0
abbrev pub count_of : Reply → ℕ
count_of Opened = 0
count_of (Next found) = 0
count_of (Counted n) = n

-- the outcomes of the public calls, by what each returns: open; next; seek, left and close. Each is written out, so that a
-- reader of a call's contract sees all its answers in one place
abbrev pub of_open : {A : Type 0} → Result A Refusal → Outcome
of_open (Ok x) = opened
of_open (Err r) = refused (refusal_number r)

abbrev pub of_next : Result (Option Quad) Refusal → Outcome
of_next (Ok (Some q)) = gave q
of_next (Ok None) = ended
of_next (Err r) = refused (refusal_number r)

abbrev pub of_count : Result ℕ Refusal → Outcome
of_count (Ok n) = counted n
of_count (Err r) = refused (refusal_number r)

-- roll: how many it answers, and the so many entries that its buffer then holds at the front
abbrev pub of_roll : Result ℕ Refusal → List ℕ → Outcome
of_roll (Ok n) buffer = rolled n (take n buffer)
of_roll (Err r) buffer = refused (refusal_number r)

-- what roll leaves as it was: the entries after those that it wrote, and the whole buffer if it is refused
abbrev pub RollLeft : Result ℕ Refusal → List ℕ → List ℕ → Type 0
RollLeft (Ok n) before after = drop n after ≡ drop n before
RollLeft (Err r) before after = after ≡ before
