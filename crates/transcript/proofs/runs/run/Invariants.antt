use Rattle.std.proofs.Common.{◌≡◌, take}
use Rattle.session.specs.Keeps.{Keeps}
use Rattle.std.specs.Prelude.{All}
use Rattle.transcript.specs.Transcripts.{RestTold, history_of, calls_of}
use Rattle.transcript.proofs.runs.run.Given as goal

-- the session keeps to the history that the records so far tell
abbrev pub invariant-loop-record : goal.invariant-loop-record
invariant-loop-record g l =
    let means = g.S.QuadSource.means in
    let done = take l.record-index l.records in
    (l.session.source.now ≡ l.initial.session.source.now)
    × Keeps (means l.initial.session.source.now) (history_of done) l.session.table
    × (calls_of l.records ≡ calls_of l.initial.records)
    × All (λ r. RestTold r.answer) done
