-- `confirm::run` meets its contract: where a run is not refused, every slice is as long as the trace.
use mathlib.Core.Path.{sym, ◌∙◌}
use Rattle.rules.specs.Limits.{outside}
use Rattle.rules.proofs.Ranges.{same}
use Rattle.rules.proofs.Tables.{or_each}
use Rattle.trace.proofs.Runs.{answer_done}
use Rattle.confirm.proofs.run.Goals as goal

pub write_steps-requires : goal.write_steps-requires
write_steps-requires c =
    let alike = (answer_done _ _ _ _ _ outside _ (sym c.judge.ensures ∙ c.in_ok-judge.was)).alike in
    let p = or_each (or_each (same _ _) (same _ _)) (same _ _) alike in
    (p.0.0, p.0.1, p.1)
