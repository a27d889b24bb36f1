-- Demand 3 of the calls: what `confirm::run` leaves in the lent slice, and what the public steps answer from a fresh state.
use mathlib.Core.Path.{◌≡◌, sym, ◌∙◌}
use mathlib.Core.List.{List, map}
use mathlib.Core.Bool.{false}
use Prim.Native.Nat.{ℕ, ◌≤◌}
use native.Mathlib.Omega.{arith}
use contract.Lifetimes.{Lfts}
use lib.ListN.{length}
use borrow.Author.Tests.{le-ltb}
use Rattle.rules.specs.Limits.{bad_count, bad_width, outside}
use Rattle.rules.proofs.Readings.{Makes}
use Rattle.rules.proofs.Width.{lt_inside}
use Rattle.trace.specs.Samples.{somewhere}
use Rattle.trace.specs.Answers.{done}
use Rattle.trace.proofs.Runs.{done_when}
use Rattle.trace.proofs.Samples.{nowhere_if}
use Rattle.confirm.specs.Confirm.{made_of}
use Rattle.confirm.specs.Run.{steps, public_steps, shown_word, unequal, answer_of}
use Rattle.confirm.proofs.Stepwise.{same_steps}
use Rattle.confirm.proofs.run.Reads as run
use Rattle.plant.specs.Plant.{Watch, fresh_of, Observed, TrulyShown, outputs}
use Rattle.plant.specs.Calls.{Means, RunOn}
use Rattle.plant.proofs.Samples.{samples_inside}
use Rattle.plant.proofs.Shown.{truly_shown}

-- `confirm::run`: where it is done, the words that it has written into the lent slice
pub run_shown :
    (κs : Lfts 4) (w : Watch) → Observed w
    → Means (run.Learnt κs)
    (λ a z e. RunOn w a.0 a.1.0 a.1.1.0 a.1.1.1.0.now → z ≡ done → TrulyShown w e.1.1.1.1.0.now)
run_shown κs w o a z e p on ran =
    let written : e.1.1.1.1.0.now ≡ outputs w = p.words_after ∙ simp (ran, on.same_width, on.same_need, on.same_word, on.same_samples) in
    rw written (truly_shown w o)

-- where n and N are not refused; the initial word is one that the plant showed
module _ (w : Watch) (o : Observed w) (counted : bad_count w.need ≡ false) (wide : bad_width w.n ≡ false) where
  pub none_refused : Makes (bad_count w.need) w.n w.initial
  none_refused = record {
    counted = counted;
    wide = wide;
    word_in = lt_inside w.n w.initial (rw (o.rests 0 (omega arith)) at (o.fits 0));
  }

  -- the public steps from the state that it made are the clauses, so none is refused
  pub public_steps_lem : public_steps (made_of w.n w.need w.initial).state w.samples ≡ steps (fresh_of w) w.samples
  public_steps_lem = sym (same_steps w.n w.need w.initial none_refused w.samples (samples_inside w o.formed))

  pub steps_shown : TrulyShown w (map shown_word (public_steps (made_of w.n w.need w.initial).state w.samples))
  steps_shown = rw public_steps_lem (truly_shown w o)

  -- so no sample is refused
  none_outside : somewhere (outside w.n) w.samples ≡ false
  none_outside = nowhere_if (outside w.n) w.samples 0 (samples_inside w o.formed)

  -- and a run over at most 2,048 of them, with slices of that length, is done
  pub run_done :
      (words marks counts : List ℕ) → length w.samples ≤ 2048 → unequal w.samples words marks counts ≡ false
      → answer_of w.n w.need w.initial w.samples words marks counts ≡ done
  run_done words marks counts short same =
      done_when _ _ _ _ _ outside w.samples (record {
        counted = none_refused.counted;
        wide = none_refused.wide;
        short = le-ltb 2048 (length w.samples) short;
        alike = same;
        word_in = none_refused.word_in;
        samples_in = none_outside;
      })
