-- T-09, of a run: the byte at each sample is of the pair that was voted on, which is told from the marks, and of the word that the pairs voted on
-- before agreed on last; told by hand, of the word that stands written beside it; and a run of width 1 never writes "neither".
use mathlib.Core.Path.{◌≡◌, refl, sym, ap, ◌∙◌}
use mathlib.Core.List.{List, [], ◌∷◌, map, zip, zip_with}
use mathlib.Core.Bool.{false}
use Prim.Native.Nat.{ℕ, zero, suc, ◌<◌}
use native.Mathlib.Omega.{arith}
use lib.ListN.{length, get_or, take}
use Rattle.std.specs.Prelude.{if◌then◌else◌}
use Rattle.rules.proofs.Ranges.{same}
use Rattle.rules.proofs.Readings.{run_makes}
use Rattle.rules.proofs.Tables.{or_each}
use Rattle.trace.specs.Answers.{after}
use Rattle.trace.specs.Samples.{outside_four}
use Rattle.trace.specs.Trace.{trace, left}
use Rattle.trace.specs.Answers.{RunResult}
use Rattle.trace.specs.Answers.{done}
use Rattle.trace.proofs.Columns.{zip_length, zip_at, four_length}
use Rattle.trace.proofs.Runs.{answer_done}
use Rattle.trace.proofs.Samples.{nowhere}
use Rattle.trace.proofs.Steps.{shown_at, column_shows}
use Rattle.vote.specs.Alarms.{equal}
use Rattle.vote.specs.Which.{Says, NotNeither, last_agreed}
use Rattle.vote.proofs.ByRun.{word_kept}
use Rattle.vote.proofs.Stepwise.{Sound, fresh_sound}
use Rattle.reserve.specs.declared.Reserve.{Reserve}
use Rattle.reserve.specs.declared.ReserveStep.{ReserveStep}
use Rattle.reserve.specs.Pairs.{pairs_of}
use Rattle.reserve.specs.Reserve.{fresh}
use Rattle.reserve.specs.Run.{Sample, stepped, leaves, steps, shown_word, shown_mark, shown_which, shown_pair, samples_of, answer_of, Ran}
use Rattle.reserve.specs.Voted.{voted_on, voted_words}
use Rattle.reserve.proofs.Bytes.{which_exactly, which_shown, inside_single}
use Rattle.reserve.proofs.Clauses.{either_pair}
use Rattle.reserve.proofs.Stepwise.{sound_next}
use Rattle.reserve.proofs.Told.{pairs_told}

-- what the pairs voted on showed, by the steps themselves
abbrev voted : Reserve → List Sample → List (ℕ × ℕ)
voted s xs = voted_words (map shown_pair (steps s xs)) xs

voted_at : (s : Reserve) (xs : List Sample) (k : ℕ) → k < length xs → let x = get_or xs k ((0, 0), (0, 0)) in
    get_or (voted s xs) k (0, 0) ≡ voted_on (stepped (left stepped leaves s (take k xs)) x).pair x
unfolding trace left zip_with
voted_at s [] k l = absurd (omega arith)
voted_at s (x ∷ xs) zero l = refl
voted_at s (x ∷ xs) (suc k) l = voted_at (leaves (stepped s x)) xs k (omega arith)

-- which is what the pair told for it showed
voted_place : (s : Reserve) (xs : List Sample) (k : ℕ) → k < length xs
    → get_or (voted s xs) k (0, 0) ≡ voted_on (get_or (map shown_pair (steps s xs)) k 0) (get_or xs k ((0, 0), (0, 0)))
voted_place s xs k l =
    let x = get_or xs k ((0, 0), (0, 0)) in
    voted_at s xs k l ∙ ap (λ (pair : ℕ). voted_on pair x) (sym (shown_at stepped leaves ((0, 0), (0, 0)) shown_pair 0 s xs k l))

-- a step keeps the word that its pair agrees on, so the samples leave the last agreed word
kept : (s : Reserve) (x : Sample) → let p = voted_on (stepped s x).pair x in (stepped s x).state.vote.word ≡ (if equal p then p.0 else s.vote.word)
kept s x =
    either_pair s x (λ (t : ReserveStep). let p = voted_on t.pair x in t.state.vote.word ≡ (if equal p then p.0 else s.vote.word))
    (word_kept s.vote x.0 false) (word_kept s.vote x.1)

left_agreed : (s : Reserve) (xs : List Sample) (k : ℕ) → (left stepped leaves s (take k xs)).vote.word ≡ last_agreed s.vote.word (take k (voted s xs))
unfolding trace left zip_with last_agreed
left_agreed s xs zero = refl
left_agreed s [] (suc k) = refl
left_agreed s (x ∷ xs) (suc k) = left_agreed (leaves (stepped s x)) xs k ∙ ap (λ (w : ℕ). last_agreed w (take k (voted (leaves (stepped s x)) xs))) (kept s x)

module _ (s : Reserve) (xs : List Sample) (k : ℕ) (l : k < length xs) where
  pub steps_which :
      let p = get_or (voted s xs) k (0, 0) in Says (last_agreed s.vote.word (take k (voted s xs))) p.0 p.1 (get_or (map shown_which (steps s xs)) k 0)
  steps_which =
      rw (voted_at s xs k l, ← left_agreed s xs k, shown_at stepped leaves ((0, 0), (0, 0)) shown_which 0 s xs k l) (which_exactly (left stepped leaves s (take k xs)) _)

  steps_by_hand :
      let p = get_or (voted s xs) k (0, 0) in Says (get_or (map shown_word (steps s xs)) k 0) p.0 p.1 (get_or (map shown_which (steps s xs)) k 0)
  steps_by_hand =
      rw (voted_at s xs k l, shown_at stepped leaves ((0, 0), (0, 0)) shown_word 0 s xs k l, shown_at stepped leaves ((0, 0), (0, 0)) shown_which 0 s xs k l)
      (which_shown (left stepped leaves s (take k xs)) _)

-- neither is never written by a run of width 1, so a run's answer and slices are all that its promise asks for
steps_not_neither :
    (n : ℕ) (s : Reserve) (xs : List Sample) → Sound n s.vote → ((k : ℕ) → k < length xs → outside_four n (get_or xs k ((0, 0), (0, 0))) ≡ false)
    → (i : ℕ) → i < length (map shown_which (steps s xs)) → NotNeither n (get_or (map shown_which (steps s xs)) i 0)
steps_not_neither n =
    column_shows stepped leaves (λ (s : Reserve). Sound n s.vote) (λ (x : Sample). outside_four n x ≡ false) (sound_next n) ((0, 0), (0, 0)) shown_which (NotNeither n)
    (λ s x g o. inside_single s x g.word_in o)

pub promised :
    {n need word : ℕ} {a b c d words marks which : List ℕ} {r : RunResult} {words' marks' which' : List ℕ}
    → let taken = steps (fresh n need word) (samples_of a b c d) in
    r ≡ answer_of n need word a b c d words marks which → words' ≡ after r words (map shown_word taken) → marks' ≡ after r marks (map shown_mark taken)
    → which' ≡ after r which (map shown_which taken) → Ran n need word a b c d words marks which r words' marks' which'
promised {n} {need} {word} {a} {b} {c} {d} is in_words_lem in_marks in_which =
    record {
      answered = is;
      words_after = in_words_lem;
      marks_after = in_marks;
      which_after = in_which;
      not_neither = λ done.
          let xs = samples_of a b c d in
          let fine = answer_done _ _ _ _ _ outside_four xs (sym is ∙ done) in
          let start = fresh_sound n need word (run_makes _ _ _ _ _ _ fine) in
          rw (in_which, done) (steps_not_neither n (fresh n need word) xs start (nowhere (outside_four n) xs ((0, 0), (0, 0)) fine.samples_in));
    }

-- what a run says, by its contract: the pair is told from the marks that stand written
module _
    (n need word : ℕ) (a b c d words marks which words' marks' which' : List ℕ)
    (ran : Ran n need word a b c d words marks which done words' marks' which') where
  -- what the pair that was voted on showed
  abbrev shown : List (ℕ × ℕ)
  shown = voted_words (pairs_of marks') (samples_of a b c d)

  is_voted : shown ≡ voted (fresh n need word) (samples_of a b c d)
  is_voted = ap (λ (pairs : List ℕ). voted_words pairs (samples_of a b c d)) (ap pairs_of ran.marks_after ∙ sym (pairs_told n need word (samples_of a b c d)))

  -- at sample k that is what one pair's two columns have there
  abbrev here : ℕ → ℕ × ℕ
  here k = voted_on (get_or (pairs_of marks') k 0) ((get_or a k 0, get_or b k 0), (get_or c k 0, get_or d k 0))

  alike : (length a ≡ length b) × (length a ≡ length c) × (length a ≡ length d)
  alike =
      let columns = or_each (or_each (same _ _) (same _ _)) (same _ _) in
      let p = (or_each columns (λ e. e) (answer_done _ _ _ _ _ outside_four (samples_of a b c d) (sym ran.answered)).alike).0 in
      (p.0.0, p.0.1, p.1)

  inside : (k : ℕ) → k < length a → k < length (samples_of a b c d)
  inside k l = omega (arith, four_length a b c d alike.0 alike.1 alike.2)

  is_here : (k : ℕ) → k < length a → get_or (voted (fresh n need word) (samples_of a b c d)) k (0, 0) ≡ here k
  is_here k l =
      let ab = alike.0 in
      let cd : length c ≡ length d = sym alike.1 ∙ alike.2 in
      let pairs : length (zip a b) ≡ length (zip c d) = omega (arith, zip_length a b ab, zip_length c d cd, alike.1) in
      voted_place (fresh n need word) (samples_of a b c d) k (inside k l)
      ∙ rw (
        pairs_told n need word (samples_of a b c d),
        ← ran.marks_after,
        zip_at (zip a b) (zip c d) k (0, 0) (0, 0) (omega (arith, zip_length a b ab)) pairs,
        zip_at a b k 0 0 l ab,
        zip_at c d k 0 0 (omega (arith, alike.1)) cd,
      )

  pub run_which : (k : ℕ) → k < length a → let p = here k in Says (last_agreed word (take k shown)) p.0 p.1 (get_or which' k 0)
  run_which k l = rw (is_voted, ← is_here k l, ran.which_after) (steps_which (fresh n need word) (samples_of a b c d) k (inside k l))

  pub run_by_hand : (k : ℕ) → k < length a → let p = here k in Says (get_or words' k 0) p.0 p.1 (get_or which' k 0)
  run_by_hand k l = rw (← is_here k l, ran.words_after, ran.which_after) (steps_by_hand (fresh n need word) (samples_of a b c d) k (inside k l))
