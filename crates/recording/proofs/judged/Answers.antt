-- `recording::judged` meets its contract: a refusal before the samples, the first sample outside the width, or the header.
use mathlib.Core.Path.{sym, ap, ◌∙◌}
use Rattle.rules.proofs.Tables.{or_err, or_ok, raised}
use Rattle.recording.specs.Recording.{read_as}
use Rattle.recording.proofs.Answers.{refused_early, sample_refused, accepted}
use Rattle.recording.proofs.Shapes.{shaped}
use Rattle.recording.proofs.judged.Goals as goal

pub returns-in_err-header : goal.returns-in_err-header
returns-in_err-header c =
    let a = c.args in
    ap read_as (raised c.from_residual.ensures.1)
    ∙ refused_early a.mislent a.bytes.now (or_err _ _ (sym c.shape.ensures ∙ c.in_err-header.was))

-- past the first test, the shape is accepted
pub invariant_of-recording : goal.invariant_of-recording
invariant_of-recording c =
    let a = c.args in
    let found = or_ok _ _ (sym c.shape.ensures ∙ c.in_ok-header.was) in
    rw (← found.1) (record { laid = (shaped a.mislent a.bytes.now found.0).laid })

pub returns-in-Some : goal.returns-in-Some
returns-in-Some c =
    let a = c.args in
    let found = or_ok _ _ (sym c.shape.ensures ∙ c.in_ok-header.was) in
    let first = rw (← found.1) at c.first_outside.ensures in
    sample_refused a.mislent a.bytes.now found.0 (sym first ∙ c.in-Some.is)

pub returns-in-None : goal.returns-in-None
returns-in-None c =
    let a = c.args in
    let found = or_ok _ _ (sym c.shape.ensures ∙ c.in_ok-header.was) in
    let first = rw (← found.1) at c.first_outside.ensures in
    rw (← found.1) (accepted a.mislent a.bytes.now found.0 (sym first ∙ c.in-None.is))
