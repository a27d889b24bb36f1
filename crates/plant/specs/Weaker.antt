-- What demand 3's premises are needed for, and no more: weaker premises from which the same conclusion follows.
use Rattle.std.specs.Prelude.{ℕ, suc, ◌+◌, ◌≤◌, ◌<◌, ◌≡◌}
use Rattle.plant.specs.Plant.{Watch, gap_of, There, Changes, Fits, GapMost, Formed, Late, Forward}

-- two changes of one signal are the quiet gap apart, or more
abbrev pub QuietReached : Watch → Type 0
QuietReached w = (i s s' : ℕ) → i < w.n → s < s' → Changes w i s → Changes w i s' → s + gap_of w ≤ s'

-- `start` is a moment at which the plant showed the initial word
pub record Sufficient (w : Watch) (start : ℕ) : Type 0 where
  -- N is not 0
  pub counted : 1 ≤ w.need
  -- N gaps together last at least D; no gap of its own has to reach Tm
  pub outlasts : (k : ℕ) → There w (k + w.need) → w.taken k + w.d ≤ w.taken (k + w.need)
  pub in_order : (k : ℕ) → There w (suc k) → w.taken k ≤ w.taken (suc k)
  pub fits : Fits w
  pub gap_most : GapMost w
  pub formed : Formed w
  pub late : Late w
  pub forward : Forward w
  -- the plant shows the initial word at the start, which is at most TM + D before the first sample; it need not rest there
  pub starts : w.plant start ≡ w.initial
  pub start_before : start ≤ w.taken 0
  pub start_recent : w.taken 0 ≤ start + w.tM + w.d
  pub quiet : QuietReached w
