-- What is too little: premises and ages that one might take in place of demand 3's.
use Rattle.std.specs.Prelude.{ℕ, ◌+◌, ◌-◌, ◌*◌, ◌≤◌, ◌<◌, ◌≡◌}
use Rattle.sizing.specs.Sizing.{age_bound, quiet_gap}
use Rattle.plant.specs.Plant.{Watch, There, Changes}

-- document 000's age bound, (n·N+1)·T; the age bound without D; with one run of N samples fewer
abbrev pub paper_age : Watch → ℕ
paper_age w = (w.n * w.need + 1) * w.tM

abbrev pub age_without_delay : Watch → ℕ
age_without_delay w = age_bound w.n w.need w.tM 0

abbrev pub one_run_fewer : Watch → ℕ
one_run_fewer w = age_bound (w.n - 1) w.need w.tM w.d

-- the quiet gap without D
abbrev pub QuietWithoutDelay : Watch → Type 0
QuietWithoutDelay w = (i s s' : ℕ) → i < w.n → s < s' → Changes w i s → Changes w i s' → s + quiet_gap w.n w.need w.tM 0 < s'

-- at most D late, and as far ahead as one likes
abbrev pub NotLate : Watch → Type 0
NotLate w = (i k : ℕ) → i < w.n → There w k → w.taken k ≤ w.read i k + w.d

-- N·Tm + Tm > D
abbrev pub CountOneLess : Watch → Type 0
CountOneLess w = w.d < w.need * w.tm + w.tm

-- N·Tm ≥ D, which N 0 can meet
abbrev pub NoCount : Watch → Type 0
NoCount w = w.d ≤ w.need * w.tm

-- the plant showed the initial word TM + D and one instant before the first sample
abbrev pub LateStart : Watch → Type 0
LateStart w = (start : ℕ) × (w.plant start ≡ w.initial) × (w.taken 0 ≡ start + w.tM + w.d + 1)
