-- What a call of the boundary promises of its number and of each place that it was lent.
use Rattle.std.specs.Prelude.{ℕ, ◌≡◌, List, eqb, if◌then◌else◌}
use Rattle.trace.specs.Answers.{run_number, run_sample}
use Rattle.trace.specs.Answers.{RunResult}

-- a lent place afterwards: what the call writes, or, refused, what stood there
abbrev pub unless_refused : {A : Type 0} → ℕ → A → A → A
unless_refused number lent written = if eqb number 0 then written else lent

-- a call with one place to write: a constructor, the sizing
pub record Makes (number : ℕ) (written lent : List ℕ) (r : ℕ) (lent' : List ℕ) : Type 0 where
  pub answered : r ≡ number
  pub place_after : lent' ≡ unless_refused number lent written

-- a step: the state's place, and the answer's
pub record Steps (number : ℕ) (next shown state answer : List ℕ) (r : ℕ) (state' answer' : List ℕ) : Type 0 where
  pub answered : r ≡ number
  pub state_after : state' ≡ unless_refused number state next
  pub answer_after : answer' ≡ unless_refused number answer shown

-- a run: its number is returned, and the sample's number is told whatever the answer; 0 except with 6
pub record Tells (answer : RunResult) (r sample' : ℕ) : Type 0 where
  pub answered : r ≡ run_number answer
  pub sample_after : sample' ≡ run_sample answer
