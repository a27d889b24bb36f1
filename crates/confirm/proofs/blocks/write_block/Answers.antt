-- `confirm::blocks::write_block` meets its contract: where the input is confirmed and every sample is it, all steps are one.
use mathlib.Core.Path.{◌≡◌, refl, sym, ◌∙◌}
use mathlib.Core.List.{List, map}
use mathlib.Core.Bool.{false}
use Prim.Native.Nat.{ℕ, ◌-◌, ◌<◌}
use lib.Dec.{ltb}
use lib.ListN.{length, get_or, replicate}
use Rattle.rules.specs.Limits.{differ}
use Rattle.rules.proofs.Ranges.{same}
use Rattle.rules.proofs.Tables.{or_each}
use Rattle.trace.specs.Samples.{somewhere}
use Rattle.trace.proofs.Samples.{nowhere}
use Rattle.trace.proofs.Steps.{unmoved, unmoved_left}
use Rattle.confirm.specs.declared.Confirm.{Confirm}
use Rattle.confirm.specs.declared.ConfirmAnswer.TheVariants.{Confirmed}
use Rattle.confirm.specs.Answers.{ConfirmStep}
use Rattle.confirm.specs.Confirm.{clauses}
use Rattle.confirm.specs.Parts.{left_by}
use Rattle.confirm.specs.Run.{leaves, steps, shown_word, shown_mark, shown_count}
use Rattle.confirm.proofs.Clauses.{settled}
use Rattle.confirm.proofs.blocks.write_block.Goals as goal

-- where the input is confirmed already, and no sample is another word, each step is the same one
module _
    (s : Confirm) (samples : List ℕ)
    (still : ((ltb s.count (s.need - 1) ≡ false) × (s.output ≡ s.input)) × (somewhere (differ s.input) samples ≡ false)) where
  abbrev again : ConfirmStep
  again = record { state = s; answer = Confirmed s.input }

  each : (i : ℕ) → i < length samples → clauses s (get_or samples i 0) ≡ again
  each i h = settled s still.0.0 still.0.1 _ (same _ _ (nowhere (differ s.input) samples 0 still.1 i h))

  shows : (f : ConfirmStep → ℕ) → replicate (length samples) (f again) ≡ map f (steps s samples)
  shows f = sym (unmoved clauses leaves s again refl 0 f samples each)

  leaves_it : s ≡ left_by s samples
  leaves_it = sym (unmoved_left clauses leaves s again refl 0 samples each)

pub returns-then-moving : goal.returns-then-moving
returns-then-moving c = c.take_steps.ensures

pub returns : goal.returns
returns c =
    let s = c.args.start in
    let samples = c.args.samples.now in
    let still = or_each (or_each (λ e. e) (same _ _)) (λ e. e) (rw (c.some_other.ensures, c.last.ensures) at c.if-moving.false) in
    record {
      value = leaves_it s samples still;
      wrote = record {
        words_shown = c.fill.ensures.after (λ _ e. e) ∙ rw (← c.requires.0) (shows s samples still shown_word);
        marks_shown = c.fill-2.ensures.after (λ _ e. e) ∙ rw (← c.requires.1) (shows s samples still shown_mark);
        counts_shown = c.fill-3.ensures.after (λ _ e. e) ∙ rw (← c.requires.2) (shows s samples still shown_count);
      };
    }
