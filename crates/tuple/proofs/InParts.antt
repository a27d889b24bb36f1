-- A step that is taken in parts, the counts in place, is the step of the clauses.
use mathlib.Core.Path.{◌≡◌, refl, sym, ap, subst, ◌∙◌}
use mathlib.Core.List.{List}
use mathlib.Core.Bool.{Bool, false}
use Prim.Native.Nat.{ℕ, ◌≤◌}
use native.Mathlib.Omega.{arith}
use lib.ListN.{length, replicate}
use Rattle.rules.specs.Limits.{outside}
use Rattle.rules.proofs.Ranges.{width_range}
use Rattle.rules.proofs.Signals.{places_length}
use Rattle.confirm.specs.declared.Confirm.{Confirm}
use Rattle.tuple.specs.declared.Tuple.{Tuple}
use Rattle.tuple.specs.declared.TupleAnswer.{TupleAnswer}
use Rattle.tuple.specs.declared.TupleStep.{TupleStep}
use Rattle.tuple.specs.declared.Voters.{Voters}
use Rattle.tuple.specs.Disagreement.{disagreement, voters_by}
use Rattle.tuple.specs.Parts.{alarms_by, counts_by, step_with, Decides, Resting}
use Rattle.tuple.specs.Run.{shown_word, shown_mask, shown_second}
use Rattle.tuple.specs.Tuple.{vote_need, signal_vote, voters, voters_of, decided, clauses}
use Rattle.tuple.proofs.Agreeing.{agreeing}
use Rattle.tuple.proofs.Clauses.{shown_stays, same_sizes}
use Rattle.tuple.proofs.Disagreement.{look}
use Rattle.tuple.proofs.Masks.{mask_shown}
use Rattle.tuple.proofs.Sound.{Sound, above_zero, sound_next}

-- the voters, when each of their parts was told
module _ (n need agreed : ℕ) (counts : List ℕ) (a d : ℕ) where
  pub together :
      {word mask second : ℕ} {left : List ℕ} → word ≡ (voters_by n need agreed counts a d).word → mask ≡ alarms_by n need counts d
      → second ≡ (voters_by n need agreed counts a d).second → left ≡ counts_by n need counts d
      → ◌≡◌ {A = Voters} (record { word = word; mask = mask; second = second; counts = left }) (voters_by n need agreed counts a d)
  together w m s c = rw (w, m, s, c)

-- what is known of such a step: that it is the clauses', what it shows, and what it leaves
pub record Taken (n need : ℕ) (s : Tuple) (a b : ℕ) (v : Voters) (left : Confirm) (answer : TupleAnswer) : Type 0 where
  pub whole : step_with s v left answer ≡ clauses s a b
  pub word_shown : left.output ≡ shown_word (step_with s v left answer)
  pub mask_shown : v.mask ≡ shown_mask (step_with s v left answer)
  pub second_shown : v.second ≡ shown_second (step_with s v left answer)
  pub as_long : length v.counts ≡ 32
  pub sound_left : Sound n (step_with s v left answer).state
  pub votes_left : vote_need (step_with s v left answer).state ≡ need
  pub all_rest : outside n a ≡ false → disagreement n a b ≡ 0 → v.counts ≡ replicate 32 0

-- a state that a step takes may rest: where no voter waits every count is zero
module _ (n need : ℕ) (s : Tuple) (g : Sound n s) (votes : vote_need s ≡ need) where
  pub wide : n ≤ 32
  wide = (width_range n g.confirm_sound.wide).1

  pub rests : (waiting : Bool) → (waiting ≡ false → s.counts ≡ replicate 32 0) → Resting n waiting s.counts
  rests waiting rest = record { above = above_zero n s g; rest = rest }

  module _ (long : length s.counts ≡ 32) (a b : ℕ) (v : Voters) (voted : v ≡ voters n need s.agreed s.counts a b) where
    of_state : v ≡ voters_of s a b
    of_state = rw (g.confirm_sound.width, votes) voted

    as_long : length v.counts ≡ 32
    as_long =
        let f : ℕ → ℕ = λ i. (signal_vote need s.agreed s.counts a b i).state.count in
        ap (λ (x : Voters). length x.counts) voted ∙ places_length f s.counts n (omega (arith, wide)) ∙ long

    all_rest : outside n a ≡ false → disagreement n a b ≡ 0 → v.counts ≡ replicate 32 0
    all_rest inside none =
        let looked = voted ∙ sym (look n need s.agreed s.counts a b) ∙ ap (λ (d : ℕ). voters_by n need s.agreed s.counts a d) none in
        ap (λ (x : Voters). x.counts) (looked ∙ sym (agreeing n need s.agreed s.counts a wide long (above_zero n s g) inside))

    module _ (left : Confirm) (answer : TupleAnswer) (decides : Decides s.confirm v.word v.mask left answer) where
      whole : step_with s v left answer ≡ clauses s a b
      unfolding clauses
      whole = sym (decides s v refl refl refl) ∙ ap (decided s) of_state

      pub taken : Taken n need s a b v left answer
      taken =
          record {
            whole = whole;
            word_shown = ap (λ (t : TupleStep). t.state.confirm.output) whole ∙ sym (shown_stays s a b) ∙ sym (ap shown_word whole);
            mask_shown = ap (λ (x : Voters). x.mask) of_state ∙ sym (mask_shown s a b) ∙ sym (ap shown_mask whole);
            second_shown = refl;
            as_long = as_long;
            sound_left = subst (λ (t : TupleStep). Sound n t.state) (sym whole) (sound_next n s g a b);
            votes_left = ap (λ (t : TupleStep). vote_need t.state) whole ∙ (same_sizes s a b).1 ∙ votes;
            all_rest = all_rest;
          }
