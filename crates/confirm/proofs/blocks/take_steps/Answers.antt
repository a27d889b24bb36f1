-- `confirm::blocks::take_steps` meets its contract: each sample is one turn, and past the last all is written.
use mathlib.Core.Path.{refl, sym}
use Rattle.trace.proofs.Fill.{turn, filled, goes_on, gone}
use Rattle.confirm.specs.Confirm.{clauses}
use Rattle.confirm.specs.Run.{leaves, shown_word, shown_mark, shown_count}
use Rattle.confirm.proofs.blocks.take_steps.Goals as goal

pub loop-i-preserved : goal.loop-i-preserved
loop-i-preserved c =
    let inv = c.loop-i.invariant in
    let t = c.clauses-taken.result in
    let e = c.clauses-taken.ensures in
    let more = c.loop-i-test.true in (
      turn clauses leaves shown_word _ _ _ _ _ 0 t _ e c.word.ensures more inv.0,
      turn clauses leaves shown_mark _ _ _ _ _ 0 t _ e c.mark.ensures more inv.1,
      turn clauses leaves shown_count _ _ _ _ _ 0 t _ e refl more inv.2,
      goes_on clauses leaves _ _ _ _ 0 t e more inv.3,
    )

pub returns : goal.returns
returns c = let inv = c.loop-i.invariant in let past = c.loop-i-test.false in record {
  value = gone clauses leaves _ _ _ _ past inv.3;
  wrote = record {
    words_shown = filled clauses leaves shown_word _ _ _ _ _ past inv.0;
    marks_shown = filled clauses leaves shown_mark _ _ _ _ _ past inv.1;
    counts_shown = filled clauses leaves shown_count _ _ _ _ _ past inv.2;
  };
}

pub loop-i-init : goal.loop-i-init
loop-i-init c = let long = c.requires in ((sym long.0, refl), (sym long.1, refl), (sym long.2, refl), refl)
