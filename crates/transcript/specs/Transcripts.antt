-- What a transcript, a list of calls with their answers, tells. Assumes nothing.
use Rattle.std.specs.Prelude.{◌≡◌, List, map, reverse, take, drop, replicate, Some, None, Ok, Err, Option, Result, All}
use Rattle.quads.specs.Listings.{Listing}
use Rattle.session.specs.Histories.{Event, History}
use Rattle.session.specs.Keeps.{Follows}
use Rattle.session.specs.Law.{Law}
use Rattle.session.specs.Outcomes.{Outcome, opened, counted, rolled, refused, gave_or, refusal_number}
use Rattle.session.specs.declared.call.Call.{Call}
use Rattle.session.specs.declared.cursor.Table.{Table}
use Rattle.session.specs.declared.refusal.Refusal.{Refusal}
use Rattle.transcript.specs.declared.records.Answer.{Answer}
use Rattle.transcript.specs.declared.records.Answer.TheVariants.{Opened, Next, Counted, Rolled}
use Rattle.transcript.specs.declared.records.Record.{Record}

-- the number and the values of each answer, and of each refusal
abbrev pub outcome_of : Result Answer Refusal → Outcome
outcome_of (Ok Opened) = opened
outcome_of (Ok (Next found)) = gave_or found
outcome_of (Ok (Counted n)) = counted n
outcome_of (Ok (Rolled n buffer)) = rolled n (take n buffer)
outcome_of (Err r) = refused (refusal_number r)

-- what a record tells; a call that is not yet made tells 'refused 0', which is never due
abbrev pub outcome_told : Option (Result Answer Refusal) → Outcome
outcome_told None = refused 0
outcome_told (Some answer) = outcome_of answer

-- later entries keep what they held: the buffer that a roll is lent holds zeros
abbrev pub RestKept : Result Answer Refusal → Type 0
RestKept (Ok Opened) = Unit {0}
RestKept (Ok (Next found)) = Unit {0}
RestKept (Ok (Counted n)) = Unit {0}
RestKept (Ok (Rolled n buffer)) = drop n buffer ≡ drop n (replicate 8 0)
RestKept (Err r) = Unit {0}

-- that a call was made, and came to this: the session goes on to follow the law, and a roll left the rest of its buffer
pub record Made (l : Listing) (before : Table) (call : Call) (answer : Result Answer Refusal) (after : Table) : Type 0 where
  pub law : Follows l before call (outcome_of answer) after
  pub rest : RestKept answer

abbrev pub RestTold : Option (Result Answer Refusal) → Type 0
RestTold None = Unit {0}
RestTold (Some answer) = RestKept answer

-- a call that is not yet made
abbrev pub pending : Call → Record
pending call = record { call = call; answer = None }

-- the call of a record, and the outcome that its answer tells
abbrev pub event_of : Record → Event
event_of r = record { call = r.call; outcome = outcome_told r.answer }

-- the history that a transcript tells: its calls with their outcomes, the newest first
unfoldable pub history_of : List Record → History
history_of rs = reverse (map event_of rs)

-- the calls alone
abbrev pub calls_of : List Record → List Call
calls_of rs = map (λ r. r.call) rs

-- that a session over the listing was taken through the calls of these records, and what came of each was written beside
-- it: the calls are the same, the law holds of what the records then tell, and each roll left the rest of its buffer
pub record IsTranscript (l : Listing) (before after : List Record) : Type 0 where
  pub calls : calls_of after ≡ calls_of before
  pub law : Law l (history_of after)
  pub rest : All (λ r. RestTold r.answer) after
