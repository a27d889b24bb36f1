-- What the voters' constructors and steps promise for C: the same definitions, their states and answers as numbers.
use Rattle.std.specs.Prelude.{ℕ, List, [], ◌∷◌}
use Rattle.rules.specs.declared.answers.Made.{Made}
use Rattle.rules.specs.Refusal.{number_in}
use Rattle.rules.specs.Table.{or_else}
use Rattle.confirm.specs.Answers as confirm_answers
use Rattle.confirm.specs.declared.Confirm.{Confirm}
use Rattle.confirm.specs.Answers.{ConfirmStep}
use Rattle.vote.specs.Answers as vote_answers
use Rattle.vote.specs.declared.Vote.{Vote}
use Rattle.vote.specs.Answers.{VoteStep}
use Rattle.tuple.specs.Answers as tuple_answers
use Rattle.tuple.specs.declared.Tuple.{Tuple}
use Rattle.tuple.specs.declared.TupleStep.{TupleStep}
use Rattle.reserve.specs.declared.Reserve.{Reserve}
use Rattle.reserve.specs.declared.ReserveStep.{ReserveStep}
use Rattle.scorvemaglio.specs.Lent.{Makes, Steps}
use Rattle.scorvemaglio.specs.States.{confirm_numbers, vote_numbers, tuple_numbers, reserve_numbers, no_phase}

-- a constructor writes the state that it made
abbrev pub MakesConfirm : Made Confirm → List ℕ → ℕ → List ℕ → Type 0
MakesConfirm m = Makes (number_in m.refusal) (confirm_numbers m.state)

abbrev pub MakesVote : Made Vote → List ℕ → ℕ → List ℕ → Type 0
MakesVote m = Makes (number_in m.refusal) (vote_numbers m.state)

abbrev pub MakesTuple : Made Tuple → List ℕ → ℕ → List ℕ → Type 0
MakesTuple m = Makes (number_in m.refusal) (tuple_numbers m.state)

abbrev pub MakesReserve : Made Reserve → List ℕ → ℕ → List ℕ → Type 0
MakesReserve m = Makes (number_in m.refusal) (reserve_numbers m.state)

-- what a step shows: the word, the mark, the tuple vote's mask or the pair voted on, and of a vote, last, what T-09 has it tell
abbrev pub confirm_shown : ConfirmStep → List ℕ
confirm_shown t = confirm_answers.word_of t.answer ∷ confirm_answers.mark_of t.answer ∷ []

abbrev pub vote_shown : VoteStep → List ℕ
vote_shown t = vote_answers.word_of t.answer ∷ vote_answers.mark_of t.answer ∷ vote_answers.which_of t.answer ∷ []

abbrev pub tuple_shown : TupleStep → List ℕ
tuple_shown t = tuple_answers.word_of t.answer ∷ tuple_answers.mark_of t.answer ∷ tuple_answers.mask_of t.answer ∷ t.second ∷ []

abbrev pub reserve_shown : ReserveStep → List ℕ
reserve_shown t = vote_answers.word_of t.answer ∷ vote_answers.mark_of t.answer ∷ t.pair ∷ vote_answers.which_of t.answer ∷ []

-- the same, its word taken from the state that the step leaves
abbrev pub reserve_kept : ReserveStep → List ℕ
reserve_kept t = t.state.vote.word ∷ vote_answers.mark_of t.answer ∷ t.pair ∷ vote_answers.which_of t.answer ∷ []

-- the step's own number, and 7 too where the state's phase is no phase
abbrev pub reserve_number : List ℕ → ReserveStep → ℕ
reserve_number state t = or_else (vote_answers.number_of t.answer) 7 (no_phase state)

-- a step writes the state that it leaves, and what it shows
abbrev pub StepsConfirm : ConfirmStep → List ℕ → List ℕ → ℕ → List ℕ → List ℕ → Type 0
StepsConfirm t = Steps (confirm_answers.number_of t.answer) (confirm_numbers t.state) (confirm_shown t)

abbrev pub StepsVote : VoteStep → List ℕ → List ℕ → ℕ → List ℕ → List ℕ → Type 0
StepsVote t = Steps (vote_answers.number_of t.answer) (vote_numbers t.state) (vote_shown t)

abbrev pub StepsTuple : TupleStep → List ℕ → List ℕ → ℕ → List ℕ → List ℕ → Type 0
StepsTuple t = Steps (tuple_answers.number_of t.answer) (tuple_numbers t.state) (tuple_shown t)

abbrev pub StepsReserve : ReserveStep → List ℕ → List ℕ → ℕ → List ℕ → List ℕ → Type 0
StepsReserve t state = Steps (reserve_number state t) (reserve_numbers t.state) (reserve_shown t) state
