-- A run over columns that an accepted recording may hold: it answers Done, and its slices hold what the steps show.
use mathlib.Core.Path.{◌≡◌, sym, ◌∙◌}
use mathlib.Core.Bool.{Bool, false}
use mathlib.Core.List.{List, map, zip}
use Prim.Native.Nat.{ℕ, ◌≤◌}
use lib.ListN.{length}
use borrow.Author.Tests.{le-ltb, eq-eqb}
use Rattle.rules.specs.Limits.{bad_count, too_long, differ, outside}
use Rattle.rules.proofs.Readings.{Runs}
use Rattle.trace.specs.Samples.{somewhere, outside_pair, outside_four}
use Rattle.trace.specs.Answers.{RunResult}
use Rattle.trace.specs.Answers.{done}
use Rattle.trace.proofs.Columns.{zip_length}
use Rattle.trace.proofs.Pairs.{neither}
use Rattle.trace.proofs.Runs.{done_when}
use Rattle.confirm.specs.Confirm as confirm
use Rattle.confirm.specs.Run as confirm_run
use Rattle.confirm.specs.Answers.{ConfirmStep}
use Rattle.tuple.specs.Run as tuple_run
use Rattle.tuple.specs.declared.TupleStep.{TupleStep}
use Rattle.tuple.proofs.OneCount.{same_count}
use Rattle.reserve.specs.Reserve as reserve
use Rattle.reserve.specs.Run as reserve_run
use Rattle.reserve.specs.declared.ReserveStep.{ReserveStep}
use Rattle.recording.specs.declared.Header.{Header}
use Rattle.listing.specs.Listing.{pair_steps}
use Rattle.listing.specs.Runnable.{Column, Runnable, Room, Spare}

alike : {a b c : ℕ} → a ≡ c → b ≡ c → differ a b ≡ false
alike {a} {b} p q = rw (eq-eqb a b (p ∙ sym q))

short : {a c : ℕ} → a ≡ c → c ≤ 2048 → too_long a ≡ false
short {a} e l = le-ltb 2048 a (rw e l)

same : {h : Header} {x y : List ℕ} → Column h x → Column h y → length x ≡ length y
same p q = p.whole ∙ sym q.whole

module _ (h : Header) (run : Runnable h) where
  -- the tests of a run, once its columns are known
  abbrev fine : (long unequal outlying : Bool) → long ≡ false → unequal ≡ false → outlying ≡ false → Runs (bad_count h.need) h.n h.word long unequal outlying
  fine long unequal outlying l u o =
      record { counted = run.counted; wide = run.wide; short = l; alike = u; word_in = run.word_in; samples_in = o }

  module _ {one words marks counts : List ℕ} (x : Column h one) (r : Room h words marks counts) where
    abbrev confirm_taken : List ConfirmStep
    confirm_taken = confirm_run.steps (confirm.fresh h.n h.need h.word) one

    pub confirm_done : confirm_run.answer_of h.n h.need h.word one words marks counts ≡ done
    confirm_done =
        let e = x.whole in
        done_when _ _ _ _ _ outside one
        (fine _ _ _ (short e run.few) (rw (alike e r.for_words, alike e r.for_marks) (alike e r.for_lasts)) x.inside)

    pub confirm_shown_lem :
        {a : RunResult} {words' marks' counts' : List ℕ} → confirm_run.Ran h.n h.need h.word one words marks counts a words' marks' counts'
        → (words' ≡ map confirm_run.shown_word confirm_taken) × (marks' ≡ map confirm_run.shown_mark confirm_taken) × (counts' ≡ map confirm_run.shown_count confirm_taken)
    confirm_shown_lem {a} ran =
        let d : a ≡ done = ran.answered ∙ confirm_done in
        (rw d at ran.words_after, rw d at ran.marks_after, rw d at ran.counts_after)

  module _ {one two words marks masks seconds : List ℕ} (x : Column h one) (y : Column h two) (r : Room h words marks masks) (told : Spare h seconds) where
    abbrev pair_taken : List TupleStep
    pair_taken = pair_steps h.n h.need h.word one two

    pub pair_done : tuple_run.answer_of h.n h.need h.need h.word one two words masks marks seconds ≡ done
    pair_done =
        let e = x.whole in
        rw (same_count h.need) (done_when _ _ _ _ _ outside_pair (zip one two)
        (fine _ _ _ (rw (short e run.few) (short y.whole run.few))
        (rw (alike e y.whole, alike e r.for_words, alike e r.for_lasts, alike e r.for_marks) (alike e told.for_told))
        (neither (outside h.n) (outside h.n) one two (same x y) x.inside y.inside)))

    pub pair_shown :
        {a : RunResult} {words' masks' marks' seconds' : List ℕ}
        → tuple_run.Ran h.n h.need h.need h.word one two words masks marks seconds a words' masks' marks' seconds'
        → (words' ≡ map tuple_run.shown_word pair_taken) × (marks' ≡ map tuple_run.shown_mark pair_taken) × (masks' ≡ map tuple_run.shown_mask pair_taken)
    pair_shown {a} ran =
        let d : a ≡ done = ran.answered ∙ pair_done in
        (rw d at ran.words_after, rw d at ran.marks_after, rw d at ran.masks_after)

  module _ {one two three four : List ℕ} (units : (Column h one) × (Column h two) × (Column h three) × (Column h four)) where
    abbrev reserve_taken : List ReserveStep
    reserve_taken = reserve_run.steps (reserve.fresh h.n h.need h.word) (reserve_run.samples_of one two three four)

    pub four_in : somewhere (outside_four h.n) (reserve_run.samples_of one two three four) ≡ false
    four_in =
        let p = same units.0 units.1 in
        let q = same units.2 units.3 in
        neither (outside_pair h.n) (outside_pair h.n) (zip one two) (zip three four)
        (zip_length one two p ∙ same units.0 units.2 ∙ sym (zip_length three four q))
        (neither (outside h.n) (outside h.n) one two p units.0.inside units.1.inside)
        (neither (outside h.n) (outside h.n) three four q units.2.inside units.3.inside)

    module _ {words marks lasts which : List ℕ} (r : Room h words marks lasts) (told : Spare h which) where
      pub reserve_done : reserve_run.answer_of h.n h.need h.word one two three four words marks which ≡ done
      reserve_done =
          let e = units.0.whole in
          let few = run.few in
          done_when _ _ _ _ _ outside_four (reserve_run.samples_of one two three four)
          (fine _ _ _ (rw (short e few, short units.1.whole few, short units.2.whole few) (short units.3.whole few))
          (rw (alike e units.1.whole, alike e units.2.whole, alike e units.3.whole, alike e r.for_words, alike e r.for_marks) (alike e told.for_told))
          four_in)

      pub reserve_shown_lem :
          {a : RunResult} {words' marks' which' : List ℕ} → reserve_run.Ran h.n h.need h.word one two three four words marks which a words' marks' which'
          → (words' ≡ map reserve_run.shown_word reserve_taken) × (marks' ≡ map reserve_run.shown_mark reserve_taken)
      reserve_shown_lem {a} ran =
          let d : a ≡ done = ran.answered ∙ reserve_done in
          (rw d at ran.words_after, rw d at ran.marks_after)
