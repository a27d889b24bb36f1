-- `vote::run` meets its contract: a refused run leaves every slice, and where none is refused the lengths are alike.
use mathlib.Core.Path.{◌≡◌, sym, ◌∙◌}
use mathlib.Core.List.{List, zip}
use mathlib.Core.Bool.{false}
use Prim.Native.Nat.{ℕ}
use Rattle.trace.specs.Answers.{apart_pair}
use Rattle.trace.specs.Samples.{outside_pair}
use Rattle.trace.specs.Answers.{done}
use Rattle.trace.proofs.Runs.{answer_done}
use Rattle.vote.specs.Run.{answer_of, unequal}
use Rattle.vote.proofs.ByRun.{promised}
use Rattle.vote.proofs.Parts.{all_long, whole_run}
use Rattle.vote.proofs.run.Goals as goal

-- where the run is not refused, every slice is as long as the first column
alike : (n need word : ℕ) (a b words marks which : List ℕ) → done ≡ answer_of n need word a b words marks which
    → apart_pair a b (unequal a words marks which) ≡ false
alike n need word a b words marks which e = (answer_done _ _ _ _ _ outside_pair (zip a b) (sym e)).alike

pub take_steps-requires : goal.take_steps-requires
take_steps-requires c =
    let x = c.args in
    let done = rw c.bad_count.ensures at (sym c.in_ok-judge_pair.was ∙ c.judge_pair.ensures) in
    all_long _ _ _ (alike x.n x.need x.word x.a.now x.b.now x.words.now x.marks.now x.which.now done)

pub returns : goal.returns
returns c =
    let whole = whole_run _ _ _ _ _ _ c.take_steps.ensures in
    let start = c.fresh.ensures in
    promised (rw c.bad_count.ensures at (sym c.in_ok-judge_pair.was ∙ c.judge_pair.ensures)) (rw (← start) whole.words_are) (rw (← start) whole.marks_are) (rw (← start) whole.which_are)
