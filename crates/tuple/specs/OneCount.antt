-- The tuple vote as it was before T-02 and T-09, with one count N for its voters and its confirmation and without a word for the second
-- unit: the text of `Tuple.antt` and of `Run.antt` then, of a state without the voters' count. What these left alone is not said
-- again; of today's voters what T-09 has them tell is not read. No promise names it: it serves the theorems that with equal counts
-- nothing else changed (`proofs/OneCount.antt`).
use Rattle.std.specs.Prelude.{ℕ, ◌≡◌, Bool, not, ◌||◌, eqb, length, replicate, if◌then◌else◌, Option, Some, None}
use mathlib.Core.List.{List, map, zip}
use Rattle.rules.specs.declared.refusal.Refusal.{Refusal}
use Rattle.rules.specs.Limits.{bad_count, outside, differ}
use Rattle.rules.specs.Table.{Row, first, answer}
use Rattle.rules.specs.Refusals.{make_rows, step_rows}
use Rattle.trace.specs.Answers.{pair_answer, after}
use Rattle.trace.specs.Trace.{trace}
use Rattle.trace.specs.Answers.{RunResult}
use Rattle.confirm.specs.Confirm as confirm
use Rattle.confirm.specs.declared.Confirm.{Confirm}
use Rattle.confirm.specs.Answers.{ConfirmStep}
use Rattle.tuple.specs.declared.Tuple.{Tuple}
use Rattle.tuple.specs.declared.TupleAnswer.{TupleAnswer}
use Rattle.tuple.specs.declared.TupleAnswer.TheVariants.{Alarm, Refused}
use Rattle.rules.specs.declared.answers.Made.{Made}
use Rattle.tuple.specs.declared.TupleStep.{TupleStep}
use Rattle.tuple.specs.declared.Voters.{Voters}
use Rattle.tuple.specs.Answers.{word_of, mask_of, mark_of}
use Rattle.tuple.specs.Tuple.{voters, confirmed_as, bad_places}

pub record OneCount : Type 0 where
  pub confirm : Confirm
  pub agreed : ℕ
  pub counts : List ℕ

pub record OneMade : Type 0 where
  pub state : OneCount
  pub refusal : Option Refusal

pub record OneStep : Type 0 where
  pub state : OneCount
  pub answer : TupleAnswer

-- the width, and the voters' N: the confirmation's
abbrev pub width : OneCount → ℕ
width s = s.confirm.n

abbrev pub vote_need : OneCount → ℕ
vote_need s = s.confirm.need

abbrev pub miscounted : OneCount → Bool
miscounted s = bad_count (vote_need s)

abbrev pub fresh : ℕ → ℕ → ℕ → OneCount
fresh n need word = record { confirm = confirm.fresh n need word; agreed = word; counts = replicate 32 0 }

abbrev pub voters_of : OneCount → ℕ → ℕ → Voters
voters_of s a b = voters (width s) (vote_need s) s.agreed s.counts a b

abbrev pub changed : OneCount → Confirm → ℕ → List ℕ → OneCount
changed s confirm agreed counts = record { confirm = confirm; agreed = agreed; counts = counts }

abbrev pub alarm : OneCount → Voters → OneStep
alarm s v = record { state = changed s s.confirm v.word v.counts; answer = Alarm s.confirm.output v.mask }

abbrev pub confirms : OneCount → Voters → ConfirmStep → OneStep
confirms s v t = record { state = changed s t.state v.word v.counts; answer = confirmed_as t.answer }

abbrev pub decided : OneCount → Voters → OneStep
decided s v = if not (eqb v.mask 0) then alarm s v else confirms s v (confirm.clauses s.confirm v.word)

unfoldable pub clauses : OneCount → ℕ → ℕ → OneStep
clauses s a b = decided s (voters_of s a b)

abbrev pub made : ℕ → ℕ → ℕ → OneMade
made n need word = record { state = fresh n need word; refusal = None }

abbrev pub not_made : Refusal → OneMade
not_made refusal = record { state = fresh 1 1 0; refusal = Some refusal }

unfoldable pub made_of : ℕ → ℕ → ℕ → OneMade
made_of n need word = answer (first (make_rows (bad_count need) n word)) not_made (made n need word)

abbrev pub bad_state : OneCount → Bool
bad_state s = bad_places (width s) (vote_need s) s.counts || outside (width s) s.agreed || confirm.bad_state s.confirm

abbrev pub rows_of : OneCount → ℕ → ℕ → List Row
rows_of s a b = step_rows (miscounted s) (width s) (outside (width s) a || outside (width s) b) (bad_state s)

abbrev pub not_taken : OneCount → Refusal → OneStep
not_taken s refusal = record { state = s; answer = Refused refusal }

unfoldable pub step_of : OneCount → ℕ → ℕ → OneStep
step_of s a b = answer (first (rows_of s a b)) (not_taken s) (clauses s a b)

-- a run: its answer, and the words, masks and marks as it leaves them
abbrev pub stepped : OneCount → ℕ × ℕ → OneStep
stepped s x = clauses s x.0 x.1

abbrev pub leaves : OneStep → OneCount
leaves t = t.state

abbrev pub unequal : List ℕ → List ℕ → List ℕ → List ℕ → Bool
unequal a words masks marks = differ (length a) (length words) || differ (length a) (length masks) || differ (length a) (length marks)

abbrev pub answer_of : ℕ → ℕ → ℕ → List ℕ → List ℕ → List ℕ → List ℕ → List ℕ → RunResult
answer_of n need word a b words masks marks = pair_answer (bad_count need) n word a b (unequal a words masks marks)

abbrev pub column : (TupleAnswer → ℕ) → OneCount → List (ℕ × ℕ) → List ℕ
column shown s xs = map (λ (t : OneStep). shown t.answer) (trace stepped leaves s xs)

abbrev pub ran : ℕ → ℕ → ℕ → List ℕ → List ℕ → List ℕ → List ℕ → List ℕ → RunResult × List ℕ × List ℕ × List ℕ
ran n need word a b words masks marks =
    let r = answer_of n need word a b words masks marks in
    let start = fresh n need word in
    (r, after r words (column word_of start (zip a b)), after r masks (column mask_of start (zip a b)), after r marks (column mark_of start (zip a b)))

-- a state with two counts, the voters' left out; and back, with N for both
abbrev pub once : Tuple → OneCount
once s = record { confirm = s.confirm; agreed = s.agreed; counts = s.counts }

abbrev pub twice : OneCount → Tuple
twice s = record { votes = s.confirm.need; confirm = s.confirm; agreed = s.agreed; counts = s.counts }

abbrev pub twice_made : OneMade → Made Tuple
twice_made m = record { state = twice m.state; refusal = m.refusal }

-- a step is as before, T-09's word left out
pub record AsBefore (t : TupleStep) (before : OneStep) : Type 0 where
  pub state : t.state ≡ twice before.state
  pub answer : t.answer ≡ before.answer
