-- `tuple::run` meets its contract: a refused run leaves every slice, and the steps of an accepted one are written.
use mathlib.Core.Path.{◌≡◌, refl, sym, ap, ◌∙◌}
use mathlib.Core.List.{List}
use mathlib.Core.Bool.{Bool}
use Prim.Native.Nat.{ℕ}
use Rattle.rules.proofs.Tables.{raised}
use Rattle.trace.specs.Answers.{RunResult, pair_answer}
use Rattle.tuple.specs.Run.{unequal, answer_of}
use Rattle.tuple.specs.Tuple.{bad_counts}
use Rattle.tuple.proofs.SecondRuns.{promised}
use Rattle.tuple.proofs.run.Goals as goal

-- the trace's answer is the definition's, whose row 1 asks of both counts
answered :
    (n votes need word : ℕ) (a b words masks marks seconds : List ℕ) {m : Bool} {r : RunResult} → m ≡ bad_counts votes need
    → r ≡ pair_answer m n word a b (unequal a words masks marks seconds) → r ≡ answer_of n votes need word a b words masks marks seconds
answered n votes need word a b words masks marks seconds counted is =
    is ∙ ap (λ (m : Bool). pair_answer m n word a b (unequal a words masks marks seconds)) counted

pub returns-in_err-judge_pair : goal.returns-in_err-judge_pair
returns-in_err-judge_pair c =
    let x = c.args in
    let out = raised c.from_residual.ensures.1 in
    let is = out ∙ sym c.in_err-judge_pair.was ∙ c.judge_pair.ensures in
    promised (answered x.n x.votes x.need x.word x.a.now x.b.now x.words.now x.masks.now x.marks.now x.seconds.now c.bad_counts.ensures is)
    (rw out) (rw out) (rw out) (rw out)

pub write_steps-requires : goal.write_steps-requires
write_steps-requires c =
    let x = c.args in
    let done = sym (answered x.n x.votes x.need x.word x.a.now x.b.now x.words.now x.masks.now x.marks.now x.seconds.now c.bad_counts.ensures (sym c.in_ok-judge_pair.was ∙ c.judge_pair.ensures)) in
    rw c.fresh-start.ensures (record { accepted = done; from_fresh = refl })

pub returns : goal.returns
returns c =
    let x = c.args in
    let wrote = rw c.fresh-start.ensures at c.write_steps.ensures in
    promised (answered x.n x.votes x.need x.word x.a.now x.b.now x.words.now x.masks.now x.marks.now x.seconds.now c.bad_counts.ensures (sym c.in_ok-judge_pair.was ∙ c.judge_pair.ensures))
    wrote.words_after wrote.masks_after wrote.marks_after wrote.seconds_after
