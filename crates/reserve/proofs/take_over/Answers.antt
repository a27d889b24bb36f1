-- `reserve::take_over` meets its contract: the step with a reset is stored at its sample, and the steps after it fill the rest.
use Prim.Native.Nat.{◌+◌}
use mathlib.Core.Bool.{false}
use Rattle.vote.specs.Parts.{lent}
use Rattle.vote.specs.Run.{shown_word, shown_mark, shown_which}
use Rattle.vote.proofs.Parts.{stored_as, stored_long, rests_long, as_taken, whole_run}
use Rattle.reserve.proofs.Parts.{handed_over_lem}
use Rattle.reserve.proofs.take_over.Goals as goal

pub returns : goal.returns
returns c =
    let x = c.args in
    let inside = c.requires.over_in_bounds in
    let long = c.requires.as_long in
    let came = lent x.words.now x.marks.now x.which.now in
    let step = c.clauses-taken.result in
    let is = c.clauses-taken.ensures in
    let stored = stored_long came x.over step.answer (stored_as came x.over step.answer c.word.ensures c.mark.ensures c.which.ensures) long in
    let went = as_taken false _ _ _ _ _ (rests_long (x.over + 1) _ _ _ stored) _ c.write_steps.ensures in
    let whole = whole_run _ _ _ _ _ _ went in
    record {
      words_after = handed_over_lem shown_word x.alarmed x.over x.c.now x.d.now x.words.now inside long.second_long long.words_long
          step c.word.result _ is c.word.ensures whole.words_are;
      marks_after = handed_over_lem shown_mark x.alarmed x.over x.c.now x.d.now x.marks.now inside long.second_long long.marks_long
          step c.mark.result _ is c.mark.ensures whole.marks_are;
      which_after = handed_over_lem shown_which x.alarmed x.over x.c.now x.d.now x.which.now inside long.second_long long.which_long
          step c.which.result _ is c.which.ensures whole.which_are;
    }
