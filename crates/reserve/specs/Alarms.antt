-- "Sample i alarms", of a run of the reserve vote: us and vs are what units 1 and 2 show, and what units 3 and 4 show.
use Rattle.std.specs.Prelude.{ℕ, ◌+◌, ◌≤◌, ◌<◌, ◌⊎◌, List}
use Rattle.vote.specs.Alarms.{Disagreeing}

-- the first sample at which units 1 and 2 have disagreed N times in a row
pub record FirstAlarm (need : ℕ) (us : List (ℕ × ℕ)) (i : ℕ) : Type 0 where
  pub here : Disagreeing need us i
  pub none_before : (j : ℕ) → j < i → Disagreeing need us j → ⊥

-- units 1 and 2 alarmed, the next sample was the hand-over, and at this one units 3 and 4 have disagreed N times in a
-- row, all N after the hand-over
pub record ReserveAlarm (need : ℕ) (us vs : List (ℕ × ℕ)) (i : ℕ) : Type 0 where
  pub alarmed : ℕ
  pub first : FirstAlarm need us alarmed
  pub here : Disagreeing need vs i
  pub after : alarmed + 1 + need ≤ i

-- sample i alarms in the one way or in the other
abbrev pub AlarmsAt : ℕ → List (ℕ × ℕ) → List (ℕ × ℕ) → ℕ → Type 0
AlarmsAt need us vs i = FirstAlarm need us i ⊎ ReserveAlarm need us vs i
