-- `vote::columns::write_steps` meets its contract: where a length differs nothing is taken.
use mathlib.Core.Path.{refl}
use Rattle.trace.specs.Trace.{trace}
use Rattle.vote.proofs.Parts.{all_long, promised}
use Rattle.vote.proofs.columns.write_steps.Goals as goal

pub returns-then-apart : goal.returns-then-apart
unfolding trace
returns-then-apart c = record { answered = rw c.if-apart.true; words_after = refl; marks_after = refl; which_after = refl }

pub take_steps-requires : goal.take_steps-requires
take_steps-requires c = all_long _ _ _ c.if-apart.false

pub returns : goal.returns
returns c =
    promised _ _ _ _ _ _ c.take_steps.result c.if-apart.false c.take_steps.ensures
