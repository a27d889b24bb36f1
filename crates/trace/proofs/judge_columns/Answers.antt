-- `trace::judge_columns` meets its contract: a row before the last refuses, or the samples decide.
use mathlib.Core.Path.{sym, ◌∙◌}
use Rattle.std.specs.Prelude.{Err}
use Rattle.rules.proofs.Tables.{told_ok, raised, refuses, works}
use Rattle.trace.specs.Answers.{at_once}
use Rattle.trace.proofs.Pairs.{columns_fit}
use Rattle.trace.proofs.judge_columns.Goals as goal

pub returns-in_err-run_refusal : goal.returns-in_err-run_refusal
returns-in_err-run_refusal c =
    let told = rw (c.some_long-long.ensures, c.some_apart.ensures) at c.run_refusal.ensures in
    raised c.from_residual.ensures.1 ∙ refuses (λ r. Err (at_once r)) _ _ (sym told ∙ c.in_err-run_refusal.was)

pub sampled-requires : goal.sampled-requires
sampled-requires c =
    let x = c.args in
    let told = rw (c.some_long-long.ensures, c.some_apart.ensures) at c.run_refusal.ensures in
    rw c.earliest.ensures (columns_fit x.miscounted x.n x.word x.columns.now x.unequal (told_ok (sym told ∙ c.in_ok-run_refusal.was)))

pub returns : goal.returns
returns c =
    let told = rw (c.some_long-long.ensures, c.some_apart.ensures) at c.run_refusal.ensures in
    c.sampled.ensures ∙ rw c.earliest.ensures (works (λ r. Err (at_once r)) _ _ (told_ok (sym told ∙ c.in_ok-run_refusal.was)))
