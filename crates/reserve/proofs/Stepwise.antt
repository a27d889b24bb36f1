-- A run equals its steps: what an accepted run writes is what the public constructor and steps show, one after the other.
use mathlib.Core.Path.{◌≡◌, sym, ap, ◌∙◌}
use mathlib.Core.List.{List, map}
use mathlib.Core.Bool.{false, ◌||◌}
use Prim.Native.Nat.{ℕ, ◌<◌}
use lib.ListN.{length, get_or}
use borrow.Author.Tests.{le-ltb}
use Rattle.rules.specs.Limits.{bad_count, outside}
use Rattle.rules.specs.Table.{first}
use Rattle.rules.proofs.Readings.{Makes, makes, run_makes}
use Rattle.rules.proofs.Tables.{or_neither}
use Rattle.trace.specs.Samples.{outside_four}
use Rattle.trace.specs.Answers.{done}
use Rattle.trace.proofs.Runs.{answer_done}
use Rattle.trace.proofs.Samples.{nowhere}
use Rattle.trace.proofs.Steps.{agree}
use Rattle.vote.proofs.Stepwise.{Sound}
use Rattle.vote.proofs.Stepwise as vote_steps
use Rattle.reserve.specs.declared.Reserve.{Reserve}
use Rattle.reserve.specs.declared.ReserveStep.{ReserveStep}
use Rattle.reserve.specs.Reserve.{fresh, made, not_made, made_of, step_of}
use Rattle.reserve.specs.Run.{leaves, Sample, stepped, public_step, steps, public_steps, shown_word, shown_mark, shown_which, samples_of, Ran, Stepwise}
use Rattle.reserve.proofs.Clauses.{either_pair}

-- on a state whose vote is sound, with words inside the width, the public step is the clauses
pub step_is_clauses : (n : ℕ) (s : Reserve) (x : Sample) → Sound n s.vote → outside_four n x ≡ false → public_step s x ≡ stepped s x
unfolding step_of first
step_is_clauses n s x g e = simp (g.width, g.counted, g.wide, e, le-ltb _ _ g.small, g.word_in)

-- and the clauses leave such a state again
pub sound_next : (n : ℕ) (s : Reserve) (x : Sample) → Sound n s.vote → outside_four n x ≡ false → Sound n (stepped s x).state.vote
sound_next n s x g e =
    let units = or_neither (outside n x.0.0 || outside n x.0.1) (outside n x.1.0 || outside n x.1.1) e in
    either_pair s x (λ (t : ReserveStep). Sound n t.state.vote)
    (vote_steps.sound_next n s.vote x.0.0 x.0.1 false g units.0)
    (λ reset. vote_steps.sound_next n s.vote x.1.0 x.1.1 reset g units.1)

-- a constructor that refuses nothing makes the fresh state
pub made_fresh : (n need word : ℕ) → Makes (bad_count need) n word → made_of n need word ≡ made n need word
unfolding made_of
made_fresh n need word = makes (bad_count need) n word not_made (made n need word)

-- and its vote is one that a step takes, so on samples inside the width each public step is the clauses
same_steps :
    (n need word : ℕ) → Makes (bad_count need) n word → (xs : List Sample) → ((i : ℕ) → i < length xs → outside_four n (get_or xs i ((0, 0), (0, 0))) ≡ false)
    → steps (fresh n need word) xs ≡ public_steps (made_of n need word).state xs
same_steps n need word m xs inside =
    rw (made_fresh n need word m)
    (agree stepped public_step leaves (λ (s : Reserve). Sound n s.vote) (λ (x : Sample). outside_four n x ≡ false)
    (step_is_clauses n) (sound_next n) ((0, 0), (0, 0)) (fresh n need word) xs (vote_steps.fresh_sound n need word m) inside)

pub run_is_steps :
    (n need word : ℕ) (a b c d words marks which words' marks' which' : List ℕ)
    → Ran n need word a b c d words marks which done words' marks' which' → Stepwise n need word a b c d words' marks' which'
run_is_steps n need word a b c d words marks which words' marks' which' ran =
    let xs = samples_of a b c d in
    let fine = answer_done _ _ _ _ _ outside_four xs (sym ran.answered) in
    let m = run_makes _ _ _ _ _ _ fine in
    let same = same_steps n need word m xs (nowhere (outside_four n) xs ((0, 0), (0, 0)) fine.samples_in) in
    record {
      made = rw (made_fresh n need word m);
      words_same = ran.words_after ∙ ap (map shown_word) same;
      marks_same = ran.marks_after ∙ ap (map shown_mark) same;
      which_same = ran.which_after ∙ ap (map shown_which) same;
    }
