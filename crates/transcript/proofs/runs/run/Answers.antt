use Rattle.std.proofs.Common.{◌<◌, length, get_or, sym, refl, ◌∙◌, subst, arith}
use Rattle.session.specs.Keeps.{Keeps, Follows}
use Rattle.transcript.specs.Transcripts.{outcome_of}
use Rattle.transcript.proofs.Steps.{blank, history_none, keeps_more, calls_more, rest_more}
use Rattle.transcript.proofs.runs.run.Goals as goal

pub loop-record-init : goal.loop-record-init
loop-record-init g c =
    let means = g.S.QuadSource.means in
    let src = c.attach-session.result.source in (
      refl,
      subst (λ h. Keeps (means src.now) h c.attach-session.result.table) (sym history_none)
          (subst (λ s. Keeps (means s) _ c.attach-session.result.table) (sym c.attach-session.ensures.source) c.attach-session.ensures.law),
      refl,
      λ k d l. absurd (omega arith),
    )

pub loop-record-preserved : goal.loop-record-preserved
loop-record-preserved g c =
    let means = g.S.QuadSource.means in
    let src = c.attach-session.result.source.now in
    let rs = c.loop-record.records in
    let i = c.loop-record.record-index in
    let within : i < length rs = omega arith in
    let inv = c.loop-record.invariant in
    let told = c.make.ensures.made in
    let law : Follows (means src) c.loop-record.session.table (get_or rs i blank).call (outcome_of c.make.result) c.make.new.session.table =
    subst (λ s. Follows (means s) c.loop-record.session.table (get_or rs i blank).call (outcome_of c.make.result) c.make.new.session.table) inv.0 told.law in (
      c.make.ensures.source ∙ inv.0,
      keeps_more rs i blank c.make.result within (means src) _ _ law inv.1,
      calls_more rs i blank c.make.result within ∙ inv.2,
      rest_more rs i blank c.make.result within inv.3 told.rest,
    )
