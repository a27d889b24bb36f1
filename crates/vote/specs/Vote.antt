-- The vote of two words: document 000, definitions 14 and 16, in document 01's order; the first clause that applies is taken. On hold
-- and alarm the answer tells which unit still shows the last agreed word (T-09 of document 02).
use Rattle.std.specs.Prelude.{ℕ, ◌+◌, ◌-◌, List, Bool, ◌||◌, ltb, eqb, if◌then◌else◌, Some, None}
use Rattle.rules.specs.declared.refusal.Refusal.{Refusal}
use Rattle.rules.specs.Limits.{bad_count, outside}
use Rattle.rules.specs.Table.{Row, first, answer}
use Rattle.rules.specs.Refusals.{make_rows, step_rows}
use Rattle.vote.specs.declared.Vote.{Vote}
use Rattle.rules.specs.declared.answers.Made.{Made}
use Rattle.vote.specs.Answers.{VoteStep}
use Rattle.vote.specs.declared.VoteAnswer.TheVariants.{Agreed, Held, Alarm, Refused}
use Rattle.vote.specs.declared.Which.{Which}
use Rattle.vote.specs.declared.Which.TheVariants.{First, Second, Neither}

-- fresh: the last agreed word is the initial word, the count is 0
abbrev pub fresh : ℕ → ℕ → ℕ → Vote
fresh n need word = record { n = n; need = need; word = word; count = 0 }

-- agreed: the word is shown and stored, the count is 0
abbrev pub agreed : Vote → ℕ → VoteStep
agreed s a = record { state = record { n = s.n; need = s.need; word = a; count = 0 }; answer = Agreed a }

-- "which unit still shows the last agreed word: the first, the second, or neither"; asked where the two differ, so not both
abbrev pub still : ℕ → ℕ → ℕ → Which
still word a b = if eqb a word then First else if eqb b word then Second else Neither

-- held: the last agreed word is shown, and stays
abbrev pub held : Vote → ℕ → Which → VoteStep
held s count which = record { state = record { n = s.n; need = s.need; word = s.word; count = count }; answer = Held s.word which }

-- alarm: the last agreed word stands beside it; word and count stay
abbrev pub alarm : Vote → Which → VoteStep
alarm s which = record { state = s; answer = Alarm s.word which }

-- 1. the two are equal: agreed on that word
-- 2. a reset is given: held, count 0. Definition 16 has its alarm above this, while its text forbids an alarm at that moment
--    ("We must not raise an alarm here"); document 01 decides for the text, so the reset stands above the alarm
-- 3. count < N-1: held, count plus 1
-- 4. alarm
unfoldable pub clauses : Vote → ℕ → ℕ → Bool → VoteStep
clauses s a b reset =
    if eqb a b then agreed s a else
    if reset then held s 0 (still s.word a b) else
    if ltb s.count (s.need - 1) then held s (s.count + 1) (still s.word a b) else
    alarm s (still s.word a b)

-- a constructor; refused: the fresh state of n 1, N 1 and word zero
abbrev pub made : ℕ → ℕ → ℕ → Made Vote
made n need word = record { state = fresh n need word; refusal = None }

abbrev pub not_made : Refusal → Made Vote
not_made refusal = record { state = fresh 1 1 0; refusal = Some refusal }

unfoldable pub made_of : ℕ → ℕ → ℕ → Made Vote
made_of n need word = answer (first (make_rows (bad_count need) n word)) not_made (made n need word)

-- 7: the count is above N-1, or the stored word is outside the width
abbrev pub bad_state : Vote → Bool
bad_state s = ltb (s.need - 1) s.count || outside s.n s.word

abbrev pub rows_of : Vote → ℕ → ℕ → List Row
rows_of s a b = step_rows (bad_count s.need) s.n (outside s.n a || outside s.n b) (bad_state s)

-- a step; refused: the state as it came
abbrev pub not_taken : Vote → Refusal → VoteStep
not_taken s refusal = record { state = s; answer = Refused refusal }

unfoldable pub step_of : Vote → ℕ → ℕ → Bool → VoteStep
step_of s a b reset = answer (first (rows_of s a b)) (not_taken s) (clauses s a b reset)
