-- What is known of a run that is accepted: the samples are few, every slice is as long as the first column, the run starts from a
-- state that a step takes, and each word of both columns is inside the width.
use mathlib.Core.Path.{◌≡◌, sym, ap, ◌∙◌}
use mathlib.Core.List.{List, zip}
use mathlib.Core.Bool.{false}
use Prim.Native.Nat.{ℕ, ◌≤◌, ◌<◌}
use native.Mathlib.Omega.{arith}
use lib.ListN.{length, get_or}
use borrow.Author.Tests.{ltb-false}
use Rattle.rules.specs.Limits.{too_long, outside}
use Rattle.rules.proofs.Ranges.{same}
use Rattle.rules.proofs.Readings.{Runs, run_makes}
use Rattle.rules.proofs.Tables.{or_neither, or_each}
use Rattle.trace.specs.Answers.{long_pair, apart_pair}
use Rattle.trace.specs.Samples.{somewhere, outside_pair}
use Rattle.trace.specs.Answers.{done}
use Rattle.trace.proofs.Columns.{zip_length, zip_at}
use Rattle.trace.proofs.Runs.{answer_done}
use Rattle.trace.proofs.Samples.{nowhere}
use Rattle.tuple.specs.declared.Tuple.{Tuple}
use Rattle.tuple.specs.Run.{unequal, answer_of}
use Rattle.tuple.specs.Tuple.{bad_counts, fresh}
use Rattle.tuple.proofs.Sound.{Sound, fresh_sound}

pub record Accepted (n : ℕ) (start : Tuple) (a b words masks marks seconds : List ℕ) : Type 0 where
  pub few : length a ≤ 2048
  pub second_long : length a ≡ length b
  pub words_long : length a ≡ length words
  pub masks_long : length a ≡ length masks
  pub marks_long : length a ≡ length marks
  pub seconds_long : length a ≡ length seconds
  pub start_sound : Sound n start
  pub inside : (i : ℕ) → i < length a → (outside n (get_or a i 0) ≡ false) × (outside n (get_or b i 0) ≡ false)

module _ (n votes need word : ℕ) (a b words masks marks seconds : List ℕ) (accepted : answer_of n votes need word a b words masks marks seconds ≡ done) where
  pub fine : Runs (bad_counts votes need) n word (long_pair a b) (apart_pair a b (unequal a words masks marks seconds)) (somewhere (outside_pair n) (zip a b))
  fine = answer_done _ _ _ _ _ outside_pair (zip a b) accepted

  pub accept : Accepted n (fresh n votes need word) a b words masks marks seconds
  accept =
      let all = or_each (same _ _) (or_each (or_each (or_each (same _ _) (same _ _)) (same _ _)) (same _ _)) fine.alike in
      record {
        few = ltb-false 2048 (length a) (or_neither (too_long (length a)) (too_long (length b)) fine.short).0;
        second_long = all.0;
        words_long = all.1.0.0.0;
        masks_long = all.1.0.0.1;
        marks_long = all.1.0.1;
        seconds_long = all.1.1;
        start_sound = fresh_sound n votes need word (run_makes _ _ _ _ _ _ fine);
        inside = λ i l.
            let none = nowhere (outside_pair n) (zip a b) (0, 0) fine.samples_in i (omega (arith, zip_length a b all.0)) in
            or_neither (outside n (get_or a i 0)) (outside n (get_or b i 0)) (ap (outside_pair n) (sym (zip_at a b i 0 0 l all.0)) ∙ none);
      }
