-- What the clauses of a tuple keep, alarm or not: the width, both counts, what the voters left, and as the output the word that is shown.
use mathlib.Core.Path.{◌≡◌, refl, ◌∙◌}
use mathlib.Core.Bool.{Bool, true, false, not}
use Prim.Native.Nat.{ℕ, ◌≤◌}
use native.Mathlib.Omega.{arith}
use lib.Dec.{eqb}
use Rattle.std.specs.Prelude.{if◌then◌else◌}
use Rattle.confirm.specs.Confirm as confirm
use Rattle.confirm.specs.Answers as confirm_answers
use Rattle.confirm.specs.declared.ConfirmAnswer.{ConfirmAnswer}
use Rattle.confirm.specs.declared.ConfirmAnswer.TheVariants.{Confirmed, Held, Refused}
use Rattle.confirm.proofs.Clauses.{same_sizes as confirm_sizes, shown_stays as confirm_stays, marks_few as confirm_marks}
use Rattle.tuple.specs.declared.Tuple.{Tuple}
use Rattle.tuple.specs.declared.TupleStep.{TupleStep}
use Rattle.tuple.specs.declared.Voters.{Voters}
use Rattle.tuple.specs.Tuple.{width, vote_need, voters_of, alarm, confirmed_as, confirms, clauses}
use Rattle.tuple.specs.Answers.{number_of, word_of, mark_of, mask_of}
use Rattle.tuple.specs.Run.{shown_word, shown_mark}

-- the decision, of any test
abbrev pub by_test : Tuple → Voters → Bool → TupleStep
by_test s v alarmed = if alarmed then alarm s v else confirms s v (confirm.clauses s.confirm v.word)

-- what confirmation answers the tuple vote shows as it is, without a mask
pub record Same (x : ConfirmAnswer) : Type 0 where
  pub number : number_of (confirmed_as x) ≡ confirm_answers.number_of x
  pub word : word_of (confirmed_as x) ≡ confirm_answers.word_of x
  pub mark : mark_of (confirmed_as x) ≡ confirm_answers.mark_of x
  pub no_mask : mask_of (confirmed_as x) ≡ 0

pub confirmed_as_lem : (x : ConfirmAnswer) → Same x
confirmed_as_lem (Confirmed w) = record { number = refl; word = refl; mark = refl; no_mask = refl }
confirmed_as_lem (Held w) = record { number = refl; word = refl; mark = refl; no_mask = refl }
confirmed_as_lem (Refused k) = record { number = refl; word = refl; mark = refl; no_mask = refl }

module _ (s : Tuple) (a b : ℕ) where
  -- what holds of an alarm and of a confirmation holds of the step
  pub either_way :
      (P : TupleStep → Type 0) → let v = voters_of s a b in
      P (alarm s v) → P (confirms s v (confirm.clauses s.confirm v.word)) → P (clauses s a b)
  unfolding clauses
  either_way P loud quiet = go (not (eqb (voters_of s a b).mask 0)) where
    go : (p : Bool) → P (by_test s (voters_of s a b) p)
    go true = loud
    go false = quiet

  -- the word that is shown is the output that stays, alarm or not
  pub shown_stays : shown_word (clauses s a b) ≡ (clauses s a b).state.confirm.output
  shown_stays =
      either_way (λ (t : TupleStep). shown_word t ≡ t.state.confirm.output) refl
      ((confirmed_as_lem (confirm.clauses s.confirm (voters_of s a b).word).answer).word ∙ confirm_stays s.confirm (voters_of s a b).word)

  pub marks_few : shown_mark (clauses s a b) ≤ 2
  marks_few =
      either_way (λ (t : TupleStep). shown_mark t ≤ 2) (omega arith)
      (rw (confirmed_as_lem (confirm.clauses s.confirm (voters_of s a b).word).answer).mark (omega (arith, confirm_marks s.confirm (voters_of s a b).word)))

  pub same_sizes :
      let left = (clauses s a b).state in (width left ≡ width s) × (vote_need left ≡ vote_need s) × (left.confirm.need ≡ s.confirm.need)
  same_sizes =
      let sizes = confirm_sizes s.confirm (voters_of s a b).word in
      either_way (λ (t : TupleStep). (width t.state ≡ width s) × (vote_need t.state ≡ vote_need s) × (t.state.confirm.need ≡ s.confirm.need))
      (refl, refl, refl) (sizes.0, refl, sizes.1)

  pub voters_left : ((clauses s a b).state.agreed ≡ (voters_of s a b).word) × ((clauses s a b).state.counts ≡ (voters_of s a b).counts)
  voters_left = either_way (λ (t : TupleStep). (t.state.agreed ≡ (voters_of s a b).word) × (t.state.counts ≡ (voters_of s a b).counts)) (refl, refl) (refl, refl)
