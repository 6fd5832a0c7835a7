-- One record more of a transcript. Assumes nothing.
use Rattle.std.proofs.Common.{◌≡◌, ℕ, ◌+◌, ◌<◌, List, [], ◌∷◌, ◌++◌, map, reverse, length, get_or, take, set, Some, None, Result, sym, refl, ap, ◌∙◌, subst}
use Rattle.std.specs.Prelude.{All}
use Rattle.std.proofs.lemmas.List.Elements.{All-push}
use Rattle.std.proofs.lemmas.List.{map-append, map-set, reverse-append, take_more_set, get_or-map, set-get_or}
use Rattle.quads.specs.Listings.{Listing}
use Rattle.session.specs.Keeps.{Keeps, Follows}
use Rattle.quads.specs.declared.pattern.Place.TheVariants.{Any}
use Rattle.session.specs.declared.call.Ask.TheVariants.{Open}
use Rattle.session.specs.declared.call.Call.TheVariants.{On}
use Rattle.session.specs.declared.cursor.Table.{Table}
use Rattle.session.specs.declared.refusal.Refusal.{Refusal}
use Rattle.transcript.specs.Transcripts.{outcome_of, RestKept, RestTold, event_of, history_of, calls_of}
use Rattle.transcript.specs.declared.records.Record.{Record}
use Rattle.transcript.specs.declared.records.Answer.{Answer}

-- what stands past the end of a transcript
abbrev pub blank : Record
blank = record { call = On 0 (Open (record { s = Any; p = Any; o = Any; g = Any })); answer = None }

history_push : (rs : List Record) (r : Record) → history_of (rs ++ r ∷ []) ≡ event_of r ∷ history_of rs
unfolding history_of
history_push rs r = ap reverse (map-append event_of rs (r ∷ [])) ∙ reverse-append (map event_of rs) (event_of r ∷ [])

pub history_none : history_of [] ≡ []
unfolding history_of
history_none = refl

module _ (rs : List Record) (i : ℕ) (d : Record) (answer : Result Answer Refusal) (within : i < length rs) where
  -- the record at place i with this answer
  abbrev made : Record
  made = record { call = (get_or rs i d).call; answer = Some answer }

  done : take (i + 1) (set rs i made) ≡ take i rs ++ made ∷ []
  done = take_more_set rs i made within

  history_more : history_of (take (i + 1) (set rs i made)) ≡ event_of made ∷ history_of (take i rs)
  history_more = ap history_of done ∙ history_push (take i rs) made

  pub keeps_more : (l : Listing) (before after : Table) → Follows l before (get_or rs i d).call (outcome_of answer) after → Keeps l (history_of (take i rs)) before → Keeps l (history_of (take (i + 1) (set rs i made))) after
  keeps_more l before after law keeps = subst (λ h. Keeps l h after) (sym history_more) (law (history_of (take i rs)) keeps).1

  pub calls_more : calls_of (set rs i made) ≡ calls_of rs
  calls_more =
      map-set (λ r. r.call) rs i made
      ∙ ap (set (calls_of rs) i) (sym (get_or-map (λ r. r.call) rs i d d.call within))
      ∙ set-get_or (calls_of rs) i d.call

  pub rest_more : All (λ r. RestTold r.answer) (take i rs) → RestKept answer → All (λ r. RestTold r.answer) (take (i + 1) (set rs i made))
  rest_more all this = subst (All (λ r. RestTold r.answer)) (sym done) (All-push (λ r. RestTold r.answer) (take i rs) made all this)
