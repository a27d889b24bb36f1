-- `Readings::vote` meets its contract: a refusal, or the median, or an alarm, as the tests say.
use mathlib.Core.Path.{sym, ◌∙◌}
use Rattle.rules.specs.Refusal.{refusal_of}
use Rattle.rules.specs.Table.{first}
use Rattle.threshold.specs.Threshold.{threshold_of}
use Rattle.threshold.proofs.Readings.vote.Goals as goal

pub returns-then-bad : goal.returns-then-bad
unfolding threshold_of first refusal_of
returns-then-bad c = simp (sym c.bad.ensures ∙ c.if-bad.true)

pub returns-then-agree : goal.returns-then-agree
unfolding threshold_of first
returns-then-agree c =
    simp (c.median.ensures, sym c.bad.ensures ∙ c.if-bad.false, sym c.agree.ensures ∙ c.if-agree.true)

pub returns : goal.returns
unfolding threshold_of first
returns c =
    simp (sym c.bad.ensures ∙ c.if-bad.false, sym c.agree.ensures ∙ c.if-agree.false)
