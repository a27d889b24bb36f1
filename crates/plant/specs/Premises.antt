-- The premises of demand 3 by their names, so that one can be left out.
use Rattle.std.specs.Prelude.{ℕ, suc, ◌+◌, ◌*◌, ◌^◌, ◌≤◌, ◌<◌, ◌≡◌, ◌≢◌, get_or}
use Rattle.plant.specs.Plant.{Watch, gap_of, There, Changes, Enough, Fits, GapLeast, GapMost, Formed, Late, Forward, Rests, Quiet, Observed, ShownBy, TrulyShown, outputs}

pub data Premise : Type 0 where
  enough fits gap_least gap_most formed late forward rests quiet : Premise

abbrev pub Holds : Premise → Watch → Type 0
Holds enough = Enough
Holds fits = Fits
Holds gap_least = GapLeast
Holds gap_most = GapMost
Holds formed = Formed
Holds late = Late
Holds forward = Forward
Holds rests = Rests
Holds quiet = Quiet

-- every premise but one
abbrev pub AllBut : Premise → Watch → Type 0
AllBut p w = (q : Premise) → q ≢ p → Holds q w

-- a premise that is nearly met: missed by one instant or bit; `enough` and `quiet` by two, since missed by one is still enough; that
-- samples show the plant has no such measure
abbrev pub Nearly : Premise → Watch → Type 0
Nearly enough w = w.d ≤ w.need * w.tm + 1
Nearly fits w = (s : ℕ) → w.plant s < 2 ^ (w.n + 1)
Nearly gap_least w = (k : ℕ) → There w (suc k) → w.taken k + w.tm ≤ w.taken (suc k) + 1
Nearly gap_most w = (k : ℕ) → There w (suc k) → w.taken (suc k) ≤ w.taken k + w.tM + 1
Nearly formed w = Unit {0}
Nearly late w = (i k : ℕ) → i < w.n → There w k → (w.read i k ≤ w.taken k) × (w.taken k ≤ w.read i k + w.d + 1)
Nearly forward w = (i k : ℕ) → i < w.n → There w (suc k) → w.read i k ≤ w.read i (suc k) + 1
Nearly rests w = (s : ℕ) → s < w.taken 0 → w.plant s ≡ w.initial
Nearly quiet w = (i s s' : ℕ) → i < w.n → s < s' → Changes w i s → Changes w i s' → s + gap_of w ≤ s' + 1

-- P is too weak in place of a premise: in some watch all others hold and P does, and an output is no word that the plant showed
-- within the age bound
abbrev pub TooWeak : Premise → (Watch → Type 0) → Type 0
TooWeak p P = (w : Watch) × AllBut p w × P w × (TrulyShown w (outputs w) → ⊥)

-- an age is too short in place of the age bound: in some watch the premises hold, and an output was not shown within it
abbrev pub TooShort : (Watch → ℕ) → Type 0
TooShort age = (w : Watch) × Observed w × (((k : ℕ) → There w k → ShownBy w.plant (get_or (outputs w) k 0) (w.taken k) (age w)) → ⊥)
