-- T-09, of a run of the tuple vote: what stands written for the second unit, signal by signal, by the samples alone; no bit at n or above; and
-- "neither" for no signal.
use mathlib.Core.Path.{◌≡◌, refl, sym, ap, subst, ◌∙◌}
use mathlib.Core.List.{List, [], ◌∷◌, map, zip}
use mathlib.Core.Bool.{false}
use Prim.Native.Nat.{ℕ, ◌<◌}
use native.Mathlib.Omega.{arith}
use lib.ListN.{length, get_or, take}
use Rattle.rules.specs.Bits.{bit}
use Rattle.rules.specs.Limits.{outside}
use Rattle.trace.specs.Answers.{after}
use Rattle.trace.specs.Trace.{left}
use Rattle.trace.specs.Answers.{RunResult}
use Rattle.trace.specs.Answers.{done}
use Rattle.trace.proofs.Columns.{zip_length, zip_at}
use Rattle.trace.proofs.Steps.{shown_at, kept}
use Rattle.vote.specs.Run as vote_run
use Rattle.vote.specs.Which.{last_agreed}
use Rattle.vote.specs.declared.Vote.{Vote}
use Rattle.vote.proofs.ByRun.{left_agreed}
use Rattle.tuple.specs.declared.Tuple.{Tuple}
use Rattle.tuple.specs.Run.{leaves, stepped, steps, shown_word, shown_mask, shown_mark, shown_second, answer_of, Ran}
use Rattle.tuple.specs.Second.{signal_of, OneWhereSecond, FirstOrSecond}
use Rattle.tuple.specs.Tuple.{width, fresh, voter}
use Rattle.tuple.proofs.Accepted.{accept}
use Rattle.tuple.proofs.Clauses.{same_sizes}
use Rattle.tuple.proofs.PerSignal.{per_signal}
use Rattle.tuple.proofs.Seconds.{second_exactly, second_inside, tells}

-- samples leave each voter as they leave the plain vote of its signal, and so with the last agreed bit of the signal's samples
left_voter :
    (s : Tuple) (i : ℕ) → i < width s → (xs : List (ℕ × ℕ))
    → voter (left stepped leaves s xs) i ≡ left vote_run.plain vote_run.leaves (voter s i) (map (signal_of i) xs)
unfolding left
left_voter s i l [] = refl
left_voter s i l (x ∷ xs) =
    left_voter (leaves (stepped s x)) i (rw (same_sizes s x.0 x.1).0 l) xs
    ∙ ap (λ (v : Vote). left vote_run.plain vote_run.leaves v (map (signal_of i) xs)) (per_signal s x.0 x.1 i l)

left_bit : (s : Tuple) (i : ℕ) → i < width s → (xs : List (ℕ × ℕ)) → bit i (left stepped leaves s xs).agreed ≡ last_agreed (bit i s.agreed) (map (signal_of i) xs)
left_bit s i l xs = ap (λ (v : Vote). v.word) (left_voter s i l xs) ∙ left_agreed (voter s i) (map (signal_of i) xs)

module _ (s : Tuple) (xs : List (ℕ × ℕ)) (k : ℕ) (m : k < length xs) where
  -- the state before sample k, whose width is the run's
  abbrev before : Tuple
  before = left stepped leaves s (take k xs)

  same_width : width before ≡ width s
  same_width =
      kept stepped leaves (0, 0) (λ j (t : Tuple). width t ≡ width s) xs (λ j t l e. let x = get_or xs j (0, 0) in (same_sizes t x.0 x.1).0 ∙ e) s refl k (omega arith)

  abbrev written : ℕ
  written = get_or (map shown_second (steps s xs)) k 0

  at_sample : written ≡ shown_second (stepped before (get_or xs k (0, 0)))
  at_sample = shown_at stepped leaves (0, 0) shown_second 0 s xs k m

  module _ (i : ℕ) (l : i < width s) where
    pub steps_second : let x = signal_of i (get_or xs k (0, 0)) in
        OneWhereSecond (last_agreed (bit i s.agreed) (map (signal_of i) (take k xs))) x (bit i written)
    steps_second = rw (at_sample, ← left_bit s i l (take k xs)) (second_exactly before _ _ i (rw same_width l))

    steps_tell : let x = signal_of i (get_or xs k (0, 0)) in
        (x.0 ≡ x.1 → ⊥) → FirstOrSecond (last_agreed (bit i s.agreed) (map (signal_of i) (take k xs))) x (bit i written)
    steps_tell = rw (at_sample, ← left_bit s i l (take k xs)) (tells before _ _ i (rw same_width l))

  pub steps_inside : outside (width s) written ≡ false
  steps_inside =
      let x = get_or xs k (0, 0) in
      rw at_sample (subst (λ (n : ℕ). outside n (shown_second (stepped before x)) ≡ false) same_width (second_inside before x.0 x.1))

-- so a run's answer and slices are all that its promise asks for
pub promised :
    {n votes need word : ℕ} {a b words masks marks seconds : List ℕ} {r : RunResult} {words' masks' marks' seconds' : List ℕ}
    → let taken = steps (fresh n votes need word) (zip a b) in
    r ≡ answer_of n votes need word a b words masks marks seconds
    → words' ≡ after r words (map shown_word taken) → masks' ≡ after r masks (map shown_mask taken) → marks' ≡ after r marks (map shown_mark taken)
    → seconds' ≡ after r seconds (map shown_second taken) → Ran n votes need word a b words masks marks seconds r words' masks' marks' seconds'
promised {n} {votes} {need} {word} {a} {b} {words} {masks} {marks} {seconds} is in_words_lem in_masks in_marks in_seconds =
    record {
      answered = is;
      words_after = in_words_lem;
      masks_after = in_masks;
      marks_after = in_marks;
      seconds_after = in_seconds;
      first_or_second = λ done k m i l.
          let long = (accept n votes need word a b words masks marks seconds (sym is ∙ done)).second_long in
          let at = steps_tell (fresh n votes need word) (zip a b) k (omega (arith, zip_length a b long)) i l in
          rw (in_seconds, done) (rw (zip_at a b k 0 0 m long) at at);
    }

-- what a run says, by its contract
module _
    (n votes need word : ℕ) (a b words masks marks seconds words' masks' marks' seconds' : List ℕ)
    (ran : Ran n votes need word a b words masks marks seconds done words' masks' marks' seconds') (k : ℕ) (m : k < length a) where
  long : length a ≡ length b
  long = (accept n votes need word a b words masks marks seconds (sym ran.answered)).second_long

  inside : k < length (zip a b)
  inside = omega (arith, zip_length a b long)

  pub run_second : (i : ℕ) → i < n → let x = signal_of i (get_or a k 0, get_or b k 0) in
      OneWhereSecond (last_agreed (bit i word) (map (signal_of i) (take k (zip a b)))) x (bit i (get_or seconds' k 0))
  run_second i l =
      let at = steps_second (fresh n votes need word) (zip a b) k inside i l in
      rw ran.seconds_after (rw (zip_at a b k 0 0 m long) at at)

  pub run_inside : outside n (get_or seconds' k 0) ≡ false
  run_inside = rw ran.seconds_after (steps_inside (fresh n votes need word) (zip a b) k inside)
