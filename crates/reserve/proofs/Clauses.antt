-- What the clauses of a reserve vote show, whichever pair is in force: the word that its vote keeps, a mark of the vote, and the pair.
use mathlib.Core.Path.{◌≡◌, refl}
use mathlib.Core.Bool.{Bool, true, false}
use Prim.Native.Nat.{◌≤◌}
use native.Mathlib.Omega.{arith}
use lib.Dec.{eqb}
use Rattle.std.specs.Prelude.{if◌then◌else◌}
use Rattle.vote.specs.Answers.{mark_of}
use Rattle.vote.specs.declared.VoteAnswer.{VoteAnswer}
use Rattle.vote.specs.declared.VoteAnswer.TheVariants.{Agreed, Held, Alarm, Refused}
use Rattle.vote.specs.Vote.{clauses as clauses_of}
use Rattle.vote.proofs.Clauses as vote_clauses
use Rattle.reserve.specs.declared.Phase.{Phase}
use Rattle.reserve.specs.declared.Phase.TheVariants.{Primary, TakingOver, Reserve as Reserved}
use Rattle.reserve.specs.declared.Reserve.{Reserve}
use Rattle.reserve.specs.declared.ReserveStep.{ReserveStep}
use Rattle.reserve.specs.Reserve.{phase_after, first_pair, second_pair, in_phase, clauses}
use Rattle.reserve.specs.Run.{Sample, stepped, shown_word, shown_mark}

-- an answer hands over exactly when it is marked as an alarm
pub phase_is : (r : VoteAnswer) → phase_after r ≡ (if eqb (mark_of r) 2 then TakingOver else Primary)
phase_is (Agreed w) = refl
phase_is (Held w u) = refl
phase_is (Alarm w u) = refl
phase_is (Refused k) = refl

module _ (s : Reserve) (x : Sample) where
  -- what holds of the vote of either pair holds of the step
  pub either_pair :
      (P : ReserveStep → Type 0)
      → P (first_pair (clauses_of s.vote x.0.0 x.0.1 false))
      → ((reset : Bool) → P (second_pair (clauses_of s.vote x.1.0 x.1.1 reset)))
      → P (stepped s x)
  unfolding clauses
  either_pair P first second = go s.phase where
    go : (p : Phase) → P (in_phase p s.vote x.0.0 x.0.1 x.1.0 x.1.1)
    go Primary = first
    go TakingOver = second true
    go Reserved = second false

  pub shown_stays : shown_word (stepped s x) ≡ (stepped s x).state.vote.word
  shown_stays =
      either_pair (λ (t : ReserveStep). shown_word t ≡ t.state.vote.word)
      (vote_clauses.shown_stays s.vote x.0.0 x.0.1 false) (vote_clauses.shown_stays s.vote x.1.0 x.1.1)

  pub marks_few : shown_mark (stepped s x) ≤ 2
  marks_few = either_pair (λ (t : ReserveStep). shown_mark t ≤ 2) (vote_clauses.marks_few s.vote x.0.0 x.0.1 false) (vote_clauses.marks_few s.vote x.1.0 x.1.1)

  pub pairs_few : (stepped s x).pair ≤ 2
  pairs_few = either_pair (λ (t : ReserveStep). t.pair ≤ 2) (omega arith) (λ reset. omega arith)
