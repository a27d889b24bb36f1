-- What the runs promise for C: the number and the sample's number are the run's answer, and the slices are what `Ran` says of them.
use Rattle.std.specs.Prelude.{ℕ, List}
use Rattle.confirm.specs.Run as confirm_run
use Rattle.vote.specs.Run as vote_run
use Rattle.tuple.specs.Run as tuple_run
use Rattle.reserve.specs.Run as reserve_run
use Rattle.scorvemaglio.specs.Lent.{Tells}

pub record RunsConfirm (n need word : ℕ) (samples words marks counts : List ℕ) (r sample' : ℕ) (words' marks' counts' : List ℕ) : Type 0 where
  pub told : Tells (confirm_run.answer_of n need word samples words marks counts) r sample'
  pub ran : confirm_run.Ran n need word samples words marks counts (confirm_run.answer_of n need word samples words marks counts) words' marks' counts'

pub record RunsVote (n need word : ℕ) (a b words marks which : List ℕ) (r sample' : ℕ) (words' marks' which' : List ℕ) : Type 0 where
  pub told : Tells (vote_run.answer_of n need word a b words marks which) r sample'
  pub ran : vote_run.Ran n need word a b words marks which (vote_run.answer_of n need word a b words marks which) words' marks' which'

pub record RunsTuple (n votes need word : ℕ) (a b words masks marks seconds : List ℕ) (r sample' : ℕ) (words' masks' marks' seconds' : List ℕ) : Type 0 where
  pub told : Tells (tuple_run.answer_of n votes need word a b words masks marks seconds) r sample'
  pub ran :
      tuple_run.Ran n votes need word a b words masks marks seconds (tuple_run.answer_of n votes need word a b words masks marks seconds) words' masks' marks' seconds'

pub record RunsReserve (n need word : ℕ) (a b c d words marks which : List ℕ) (r sample' : ℕ) (words' marks' which' : List ℕ) : Type 0 where
  pub told : Tells (reserve_run.answer_of n need word a b c d words marks which) r sample'
  pub ran : reserve_run.Ran n need word a b c d words marks which (reserve_run.answer_of n need word a b c d words marks which) words' marks' which'
