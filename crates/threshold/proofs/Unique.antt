-- Each public call's own contract, as the source states it, is its definition applied to the inputs, and so determines the answer.
use Rattle.rules.specs.Promise.{Fixes}
use Rattle.rules.proofs.Promise.{fixes}
use Rattle.threshold.specs.Threshold.{number_of, mark_of, threshold_of}
use Rattle.threshold.proofs.Readings.vote.Reads as vote
use Rattle.threshold.proofs.Threshold.number.Reads as number
use Rattle.threshold.proofs.Threshold.mark.Reads as mark

pub vote_unique : Fixes (vote.Learnt tt) (λ z e. z) (λ a. threshold_of a.0)
vote_unique = fixes (λ a z e p. p)

pub number_unique : Fixes (number.Learnt tt) (λ z e. z) (λ a. number_of a.0)
number_unique = fixes (λ a z e p. p)

pub mark_unique : Fixes (mark.Learnt tt) (λ z e. z) (λ a. mark_of a.0)
mark_unique = fixes (λ a z e p. p)
