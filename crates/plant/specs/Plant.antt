-- Demand 3: every word that confirmation shows, held ones included, is a word that the plant showed as a whole, and not too long ago.
use Rattle.std.specs.Prelude.{ℕ, suc, ◌+◌, ◌*◌, ◌^◌, ◌≤◌, ◌<◌, ◌≡◌, ◌≢◌, List, map, length, get_or}
use Rattle.rules.specs.Bits.{bit}
use Rattle.rules.specs.Signals.{as_word}
use Rattle.confirm.specs.declared.Confirm.{Confirm}
use Rattle.confirm.specs.Confirm.{fresh}
use Rattle.confirm.specs.Run.{steps, shown_word}
use Rattle.sizing.specs.Sizing.{age_bound, quiet_gap}

-- A plant, and how a trace of it was taken. Instants are whole microseconds.
pub record Watch : Type 0 where
  -- the width n, the count N, the least and the greatest gap Tm and TM, the greatest delay D, the initial word
  pub n : ℕ
  pub need : ℕ
  pub tm : ℕ
  pub tM : ℕ
  pub d : ℕ
  pub initial : ℕ
  -- the word that the plant shows at an instant
  pub plant : ℕ → ℕ
  -- the trace, and the instant of each of its samples
  pub samples : List ℕ
  pub taken : ℕ → ℕ
  -- signal i of sample k shows the plant as it was at the moment `read i k`
  pub read : ℕ → ℕ → ℕ

-- its age bound and its quiet gap, as the sizing has them
abbrev pub age_of : Watch → ℕ
age_of w = age_bound w.n w.need w.tM w.d

abbrev pub gap_of : Watch → ℕ
gap_of w = quiet_gap w.n w.need w.tM w.d

-- sample k is one of the trace
abbrev pub There : Watch → ℕ → Type 0
There w k = k < length w.samples

-- signal i of the plant changes right after the instant s
abbrev pub Changes : Watch → ℕ → ℕ → Type 0
Changes w i s = bit i (w.plant (suc s)) ≢ bit i (w.plant s)

-- N·Tm > D
abbrev pub Enough : Watch → Type 0
Enough w = w.d < w.need * w.tm

-- the plant shows a tuple of n signals: bits n and above are zero
abbrev pub Fits : Watch → Type 0
Fits w = (s : ℕ) → w.plant s < 2 ^ w.n

-- the gap between a sample of the trace and the next is at least Tm
abbrev pub GapLeast : Watch → Type 0
GapLeast w = (k : ℕ) → There w (suc k) → w.taken k + w.tm ≤ w.taken (suc k)

-- and at most TM
abbrev pub GapMost : Watch → Type 0
GapMost w = (k : ℕ) → There w (suc k) → w.taken (suc k) ≤ w.taken k + w.tM

-- a sample is put together of its signals, each read from the plant
abbrev pub Formed : Watch → Type 0
Formed w = (k : ℕ) → There w k → get_or w.samples k 0 ≡ as_word w.n (λ i. bit i (w.plant (w.read i k)))

-- each signal is read at most D late, and never ahead of the sample
abbrev pub Late : Watch → Type 0
Late w = (i k : ℕ) → i < w.n → There w k → (w.read i k ≤ w.taken k) × (w.taken k ≤ w.read i k + w.d)

-- a signal's readings never step back to an older moment
abbrev pub Forward : Watch → Type 0
Forward w = (i k : ℕ) → i < w.n → There w (suc k) → w.read i k ≤ w.read i (suc k)

-- the plant rests at the initial word up to the first sample's instant, that instant included
abbrev pub Rests : Watch → Type 0
Rests w = (s : ℕ) → s ≤ w.taken 0 → w.plant s ≡ w.initial

-- two changes of one signal are more than the quiet gap apart
abbrev pub Quiet : Watch → Type 0
Quiet w = (i s s' : ℕ) → i < w.n → s < s' → Changes w i s → Changes w i s' → s + gap_of w < s'

-- the premises of demand 3
pub record Observed (w : Watch) : Type 0 where
  -- the count: N·Tm > D
  pub enough : Enough w
  -- tuples of n signals
  pub fits : Fits w
  -- gaps of at least Tm
  pub gap_least : GapLeast w
  -- and at most TM
  pub gap_most : GapMost w
  -- samples of the plant
  pub formed : Formed w
  -- readings at most D late
  pub late : Late w
  -- that never step back
  pub forward : Forward w
  -- the plant at rest at the initial word, the first sample included
  pub rests : Rests w
  -- the quiet gap between two changes of one signal
  pub quiet : Quiet w

-- the plant showed the word as a whole, at a moment no later than the instant and at most `age` before it
pub record ShownBy (plant : ℕ → ℕ) (word instant age : ℕ) : Type 0 where
  pub moment : ℕ
  pub no_later : moment ≤ instant
  pub recent : instant ≤ moment + age
  pub whole : plant moment ≡ word

-- the conclusion, of a list of words: word k was shown by the plant within the age bound, n·N·TM + D, of sample k
abbrev pub TrulyShown : Watch → List ℕ → Type 0
TrulyShown w words = (k : ℕ) → There w k → ShownBy w.plant (get_or words k 0) (w.taken k) (age_of w)

-- the words that confirmation shows, from a fresh state (demand 2)
abbrev pub fresh_of : Watch → Confirm
fresh_of w = fresh w.n w.need w.initial

abbrev pub outputs : Watch → List ℕ
outputs w = map shown_word (steps (fresh_of w) w.samples)
