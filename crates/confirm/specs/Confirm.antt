-- Confirmation of a tuple: document 000, definition 6, its clauses in document 01's order; the first that applies is taken.
use Rattle.std.specs.Prelude.{ℕ, ◌+◌, ◌-◌, List, Bool, not, ◌||◌, ltb, eqb, if◌then◌else◌, Some, None}
use Rattle.rules.specs.declared.answers.Made.{Made}
use Rattle.rules.specs.declared.refusal.Refusal.{Refusal}
use Rattle.rules.specs.Limits.{bad_count, outside}
use Rattle.rules.specs.Table.{Row, first, answer}
use Rattle.rules.specs.Refusals.{make_rows, step_rows}
use Rattle.confirm.specs.declared.Confirm.{Confirm}
use Rattle.confirm.specs.Answers.{ConfirmStep}
use Rattle.confirm.specs.declared.ConfirmAnswer.TheVariants.{Confirmed, Held, Refused}

-- fresh: previous input and previous output are the initial word, the count is 0
abbrev pub fresh : ℕ → ℕ → ℕ → Confirm
fresh n need word = record { n = n; need = need; input = word; output = word; count = 0 }

-- held: the previous output is shown, and stays; the input is stored
abbrev pub held : Confirm → ℕ → ℕ → ConfirmStep
held s x count =
    record {
      state = record { n = s.n; need = s.need; input = x; output = s.output; count = count };
      answer = Held s.output;
    }

-- confirmed: the input is shown, and stored as the output too; the count stays
abbrev pub confirmed : Confirm → ℕ → ConfirmStep
confirmed s x =
    record {
      state = record { n = s.n; need = s.need; input = x; output = x; count = s.count };
      answer = Confirmed x;
    }

-- 1. input differs from the previous input: held, count 0
-- 2. count < N-1: held, count plus 1
-- 3. confirmed, count unchanged
unfoldable pub clauses : Confirm → ℕ → ConfirmStep
clauses s x =
    if not (eqb x s.input) then held s x 0 else
    if ltb s.count (s.need - 1) then held s x (s.count + 1) else
    confirmed s x

-- a constructor; refused: the fresh state of n 1, N 1 and word zero
abbrev pub made : ℕ → ℕ → ℕ → Made Confirm
made n need word = record { state = fresh n need word; refusal = None }

abbrev pub not_made : Refusal → Made Confirm
not_made refusal = record { state = fresh 1 1 0; refusal = Some refusal }

unfoldable pub made_of : ℕ → ℕ → ℕ → Made Confirm
made_of n need word = answer (first (make_rows (bad_count need) n word)) not_made (made n need word)

-- 7: the count is above N-1, or a stored word is outside the width
abbrev pub bad_state : Confirm → Bool
bad_state s = ltb (s.need - 1) s.count || outside s.n s.input || outside s.n s.output

abbrev pub rows_of : Confirm → ℕ → List Row
rows_of s x = step_rows (bad_count s.need) s.n (outside s.n x) (bad_state s)

-- a step; refused: the state as it came
abbrev pub not_taken : Confirm → Refusal → ConfirmStep
not_taken s refusal = record { state = s; answer = Refused refusal }

unfoldable pub step_of : Confirm → ℕ → ConfirmStep
step_of s x = answer (first (rows_of s x)) (not_taken s) (clauses s x)
