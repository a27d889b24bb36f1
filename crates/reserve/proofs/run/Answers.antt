-- `reserve::run` meets its contract: a refused run leaves every slice, and where none is refused the lengths are alike.
use mathlib.Core.Path.{◌≡◌, sym, ap, ◌∙◌}
use mathlib.Core.List.{List}
use Prim.Native.Nat.{ℕ}
use Rattle.rules.specs.Limits.{bad_count}
use Rattle.rules.proofs.Ranges.{same}
use Rattle.rules.proofs.Readings.{Runs, run_makes}
use Rattle.rules.proofs.Tables.{or_each}
use Rattle.trace.specs.Answers.{long_four, apart_four}
use Rattle.trace.specs.Samples.{somewhere, outside_four}
use Rattle.trace.specs.Answers.{done}
use Rattle.trace.proofs.Runs.{answer_done}
use Rattle.vote.specs.Run.{unequal}
use Rattle.vote.proofs.Parts.{slices_long}
use Rattle.reserve.specs.declared.Reserve.{Reserve}
use Rattle.rules.specs.declared.answers.Made.{Made}
use Rattle.reserve.specs.Reserve.{fresh, made_of}
use Rattle.reserve.specs.Run.{samples_of, answer_of}
use Rattle.reserve.proofs.ByRun.{promised}
use Rattle.reserve.proofs.Stepwise.{made_fresh}
use Rattle.reserve.proofs.run.Goals as goal

module _ (n need word : ℕ) (a b c d words marks which : List ℕ) (done : done ≡ answer_of n need word a b c d words marks which) where
  -- where the run is not refused
  fine : Runs (bad_count need) n word (long_four a b c d) (apart_four a b c d (unequal a words marks which)) (somewhere (outside_four n) (samples_of a b c d))
  fine = answer_done _ _ _ _ _ outside_four _ (sym done)

  -- the run starts from the fresh state
  start : (m : Made Reserve) → m ≡ made_of n need word → m.state ≡ fresh n need word
  start m e = ap (λ (m : Made Reserve). m.state) (e ∙ made_fresh _ _ _ (run_makes _ _ _ _ _ _ fine))

pub write_steps-requires : goal.write_steps-requires
write_steps-requires c =
    let x = c.args in
    let done = rw c.bad_count.ensures at (sym c.in_ok-judge_four.was ∙ c.judge_four.ensures) in
    let columns = or_each (or_each (same _ _) (same _ _)) (same _ _) in
    let p = or_each columns (λ e. e) (fine x.n x.need x.word x.a.now x.b.now x.c.now x.d.now x.words.now x.marks.now x.which.now done).alike in
    let from = start x.n x.need x.word x.a.now x.b.now x.c.now x.d.now x.words.now x.marks.now x.which.now done _ c.from_word.ensures in
    record {
      as_long = slices_long _ _ _ p.0.0.0 p.1;
      a_len = (p.0.0.1, p.0.1);
      phase_value = ap (λ (s : Reserve). s.phase) from;
    }

pub returns : goal.returns
returns c =
    let x = c.args in
    let done = rw c.bad_count.ensures at (sym c.in_ok-judge_four.was ∙ c.judge_four.ensures) in
    let from = start x.n x.need x.word x.a.now x.b.now x.c.now x.d.now x.words.now x.marks.now x.which.now done _ c.from_word.ensures in
    let all = c.write_steps.ensures in
    promised done (rw (← from) all.words_after) (rw (← from) all.marks_after) (rw (← from) all.which_after)
