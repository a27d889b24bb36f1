-- The reserve vote over two pairs: document 000, definition 17, as document 01 has it. Whole words are compared.
use Rattle.std.specs.Prelude.{ℕ, List, true, false, ◌||◌, Some, None}
use Rattle.rules.specs.declared.refusal.Refusal.{Refusal}
use Rattle.rules.specs.Limits.{bad_count, outside}
use Rattle.rules.specs.Table.{Row, first, answer}
use Rattle.rules.specs.Refusals.{make_rows, step_rows}
use Rattle.vote.specs.Vote as vote
use Rattle.vote.specs.declared.VoteAnswer.{VoteAnswer}
use Rattle.vote.specs.declared.VoteAnswer.TheVariants.{Agreed, Held, Alarm, Refused}
use Rattle.vote.specs.declared.Vote.{Vote}
use Rattle.vote.specs.Answers.{VoteStep}
use Rattle.reserve.specs.declared.Phase.{Phase}
use Rattle.reserve.specs.declared.Phase.TheVariants.{Primary, TakingOver, Reserve as Reserved}
use Rattle.reserve.specs.declared.Reserve.{Reserve}
use Rattle.rules.specs.declared.answers.Made.{Made}
use Rattle.reserve.specs.declared.ReserveStep.{ReserveStep}

-- fresh: primary, with a fresh vote
abbrev pub fresh : ℕ → ℕ → ℕ → Reserve
fresh n need word = record { phase = Primary; vote = vote.fresh n need word }

-- an alarm there makes the next step "taking over"
abbrev pub phase_after : VoteAnswer → Phase
phase_after (Agreed w) = Primary
phase_after (Held w u) = Primary
phase_after (Alarm w u) = TakingOver
phase_after (Refused k) = Primary

-- primary uses units 1 and 2, without a reset
abbrev pub first_pair : VoteStep → ReserveStep
first_pair t = record { state = record { phase = phase_after t.answer; vote = t.state }; answer = t.answer; pair = 1 }

-- units 3 and 4; every step after that is "reserve", for ever
abbrev pub second_pair : VoteStep → ReserveStep
second_pair t = record { state = record { phase = Reserved; vote = t.state }; answer = t.answer; pair = 2 }

-- the vote of the pair in force; its answer is handed on, which unit of that pair still shows the last agreed word (T-09) with it. That
-- word is the one agreed before, by whichever pair: a hand-over keeps the state of the vote
abbrev pub in_phase : Phase → Vote → ℕ → ℕ → ℕ → ℕ → ReserveStep
-- primary: units 1 and 2, no reset
in_phase Primary v a b c d = first_pair (vote.clauses v a b false)
-- taking over: units 3 and 4, with a reset
in_phase TakingOver v a b c d = second_pair (vote.clauses v c d true)
-- reserve: units 3 and 4, no reset
in_phase Reserved v a b c d = second_pair (vote.clauses v c d false)

unfoldable pub clauses : Reserve → ℕ → ℕ → ℕ → ℕ → ReserveStep
clauses s a b c d = in_phase s.phase s.vote a b c d

-- a constructor; refused: the fresh state of n 1, N 1 and word zero
abbrev pub made : ℕ → ℕ → ℕ → Made Reserve
made n need word = record { state = fresh n need word; refusal = None }

abbrev pub not_made : Refusal → Made Reserve
not_made refusal = record { state = fresh 1 1 0; refusal = Some refusal }

unfoldable pub made_of : ℕ → ℕ → ℕ → Made Reserve
made_of n need word = answer (first (make_rows (bad_count need) n word)) not_made (made n need word)

-- 6 looks at all four units, whichever pair is in force; 7 at the state of the vote
abbrev pub rows_of : Reserve → ℕ → ℕ → ℕ → ℕ → List Row
rows_of s a b c d =
    let v = s.vote in
    step_rows (bad_count v.need) v.n (outside v.n a || outside v.n b || (outside v.n c || outside v.n d)) (vote.bad_state v)

-- a step; refused: the state as it came, and no pair was voted on
abbrev pub not_taken : Reserve → Refusal → ReserveStep
not_taken s refusal = record { state = s; answer = Refused refusal; pair = 0 }

unfoldable pub step_of : Reserve → ℕ → ℕ → ℕ → ℕ → ReserveStep
step_of s a b c d = answer (first (rows_of s a b c d)) (not_taken s) (clauses s a b c d)
