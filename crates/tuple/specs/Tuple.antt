-- The tuple vote: document 000, definition 15, as document 01 has it, and T-02 and T-09 of document 02. Signal i of a word is its bit i.
use Rattle.std.specs.Prelude.{ℕ, ◌-◌, List, ◌++◌, Bool, false, not, ◌||◌, ltb, eqb, get_or, drop, replicate, if◌then◌else◌, Some, None}
use Rattle.rules.specs.Bits.{bit}
use Rattle.rules.specs.declared.refusal.Refusal.{Refusal}
use Rattle.rules.specs.Limits.{bad_count, outside}
use Rattle.rules.specs.Signals.{as_word, as_list, some_below}
use Rattle.rules.specs.Table.{Row, first, answer}
use Rattle.rules.specs.Refusals.{make_rows, step_rows}
use Rattle.confirm.specs.Confirm as confirm
use Rattle.confirm.specs.declared.Confirm.{Confirm}
use Rattle.confirm.specs.declared.ConfirmAnswer.{ConfirmAnswer}
use Rattle.confirm.specs.declared.ConfirmAnswer.TheVariants.{Confirmed as ConfirmedOne, Held as HeldOne, Refused as RefusedOne}
use Rattle.confirm.specs.Answers.{ConfirmStep}
use Rattle.vote.specs.Vote as vote
use Rattle.vote.specs.declared.Vote.{Vote}
use Rattle.vote.specs.declared.VoteAnswer.{VoteAnswer}
use Rattle.vote.specs.declared.VoteAnswer.TheVariants.{Agreed as VoteAgreed, Held as VoteHeld, Alarm as VoteAlarm, Refused as VoteRefused}
use Rattle.vote.specs.Answers.{VoteStep}
use Rattle.vote.specs.declared.Which.{Which}
use Rattle.vote.specs.declared.Which.TheVariants.{First, Second, Neither}
use Rattle.tuple.specs.declared.Tuple.{Tuple}
use Rattle.tuple.specs.declared.TupleAnswer.{TupleAnswer}
use Rattle.tuple.specs.declared.TupleAnswer.TheVariants.{Confirmed, Held, Alarm, Refused}
use Rattle.rules.specs.declared.answers.Made.{Made}
use Rattle.tuple.specs.declared.TupleStep.{TupleStep}
use Rattle.tuple.specs.declared.Voters.{Voters}

-- the width, and the voters' count: "the tuple vote keeps one for its voters and one for its confirmation"
abbrev pub width : Tuple → ℕ
width s = s.confirm.n

abbrev pub vote_need : Tuple → ℕ
vote_need s = s.votes

-- 1: either count is 0 or above 1,000
abbrev pub bad_counts : ℕ → ℕ → Bool
bad_counts votes need = bad_count votes || bad_count need

abbrev pub miscounted : Tuple → Bool
miscounted s = bad_counts (vote_need s) s.confirm.need

-- fresh: a fresh confirmation, and each voter from its bit of the initial word
abbrev pub fresh : ℕ → ℕ → ℕ → ℕ → Tuple
fresh n votes need word = record { votes = votes; confirm = confirm.fresh n need word; agreed = word; counts = replicate 32 0 }

-- each signal has a plain vote of its own, of width 1, with the voters' count
abbrev pub voter_of : ℕ → ℕ → ℕ → ℕ → Vote
voter_of need agreed count i = record { n = 1; need = need; word = bit i agreed; count = count }

abbrev pub voter : Tuple → ℕ → Vote
voter s i = voter_of (vote_need s) s.agreed (get_or s.counts i 0) i

abbrev pub signal_vote : ℕ → ℕ → List ℕ → ℕ → ℕ → ℕ → VoteStep
signal_vote need agreed counts a b i = vote.clauses (voter_of need agreed (get_or counts i 0) i) (bit i a) (bit i b) false

-- a one where a voter alarms
abbrev pub alarm_bit : VoteAnswer → ℕ
alarm_bit (VoteAgreed w) = 0
alarm_bit (VoteHeld w u) = 0
alarm_bit (VoteAlarm w u) = 1
alarm_bit (VoteRefused k) = 0

-- "a one where the signals differ and the second unit shows the agreed bit"
abbrev pub if_second : Which → ℕ
if_second First = 0
if_second Second = 1
if_second Neither = 0

abbrev pub second_bit : VoteAnswer → ℕ
second_bit (VoteAgreed w) = 0
second_bit (VoteHeld w u) = if_second u
second_bit (VoteAlarm w u) = if_second u
second_bit (VoteRefused k) = 0

-- the voters of all signals step: the voted word, the alarm mask, where the second unit shows the agreed bit, and the counts; places at n
-- and above stay
abbrev pub voters : ℕ → ℕ → ℕ → List ℕ → ℕ → ℕ → Voters
voters n need agreed counts a b =
    record {
      word = as_word n (λ i. (signal_vote need agreed counts a b i).state.word);
      mask = as_word n (λ i. alarm_bit (signal_vote need agreed counts a b i).answer);
      second = as_word n (λ i. second_bit (signal_vote need agreed counts a b i).answer);
      counts = as_list n (λ i. (signal_vote need agreed counts a b i).state.count) ++ drop n counts;
    }

abbrev pub voters_of : Tuple → ℕ → ℕ → Voters
voters_of s a b = voters (width s) (vote_need s) s.agreed s.counts a b

-- the state s after a step: the voters' count stays
abbrev pub changed : Tuple → Confirm → ℕ → List ℕ → Tuple
changed s confirm agreed counts = record { votes = s.votes; confirm = confirm; agreed = agreed; counts = counts }

-- an alarm: the mask with the previous output; confirmation takes no step
abbrev pub alarm : Tuple → Voters → TupleStep
alarm s v = record { state = changed s s.confirm v.word v.counts; answer = Alarm s.confirm.output v.mask; second = v.second }

abbrev pub confirmed_as : ConfirmAnswer → TupleAnswer
confirmed_as (ConfirmedOne w) = Confirmed w
confirmed_as (HeldOne w) = Held w
confirmed_as (RefusedOne k) = Refused k

-- the voted word has taken a step of confirmation
abbrev pub confirms : Tuple → Voters → ConfirmStep → TupleStep
confirms s v t = record { state = changed s t.state v.word v.counts; answer = confirmed_as t.answer; second = v.second }

-- if any alarms, the alarm; otherwise the voted word takes a step of confirmation, with its own N. All voters step in either case, and what
-- they say of the second unit stands beside the answer in either
abbrev pub decided : Tuple → Voters → TupleStep
decided s v = if not (eqb v.mask 0) then alarm s v else confirms s v (confirm.clauses s.confirm v.word)

unfoldable pub clauses : Tuple → ℕ → ℕ → TupleStep
clauses s a b = decided s (voters_of s a b)

-- a constructor; refused: the fresh state of n 1, both counts 1 and word zero
abbrev pub made : ℕ → ℕ → ℕ → ℕ → Made Tuple
made n votes need word = record { state = fresh n votes need word; refusal = None }

abbrev pub not_made : Refusal → Made Tuple
not_made refusal = record { state = fresh 1 1 1 0; refusal = Some refusal }

unfoldable pub made_of : ℕ → ℕ → ℕ → ℕ → Made Tuple
made_of n votes need word = answer (first (make_rows (bad_counts votes need) n word)) not_made (made n votes need word)

-- 7, of the place of signal i: a count above the voters' N-1, or, at n and above, a count that is not zero
abbrev pub bad_place : ℕ → ℕ → ℕ → ℕ → Bool
bad_place n need count i = if ltb i n then ltb (need - 1) count else ltb 0 count

abbrev pub bad_places : ℕ → ℕ → List ℕ → Bool
bad_places n need counts = some_below 32 (λ i. bad_place n need (get_or counts i 0) i)

-- 7: a place, an agreed bit at n or above, or the confirmation's state, whose count goes with its own N
abbrev pub bad_state : Tuple → Bool
bad_state s = bad_places (width s) (vote_need s) s.counts || outside (width s) s.agreed || confirm.bad_state s.confirm

abbrev pub rows_of : Tuple → ℕ → ℕ → List Row
rows_of s a b = step_rows (miscounted s) (width s) (outside (width s) a || outside (width s) b) (bad_state s)

-- a step; refused: the state as it came, and nothing is said of a unit
abbrev pub not_taken : Tuple → Refusal → TupleStep
not_taken s refusal = record { state = s; answer = Refused refusal; second = 0 }

unfoldable pub step_of : Tuple → ℕ → ℕ → TupleStep
step_of s a b = answer (first (rows_of s a b)) (not_taken s) (clauses s a b)
