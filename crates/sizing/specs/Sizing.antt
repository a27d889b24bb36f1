-- Sizing of counts and bounds: document 01, "Sizing", and for the votes document 02, T-02; document 000, 4.2.2 and 6.2.
use Rattle.std.specs.Prelude.{ℕ, ◌+◌, ◌-◌, ◌*◌, ◌/◌, List, [], ◌∷◌, Bool, ◌||◌, ltb, eqb, Some, None}
use Rattle.rules.specs.declared.refusal.Refusal.{Refusal}
use Rattle.rules.specs.Limits.{bad_width}
use Rattle.rules.specs.Table.{Row, ◌when◌, first, answer}
use Rattle.sizing.specs.declared.Sizing.{Sizing}

-- 9: Tm is 0, or Tm > TM, or TM > 1,000,000
abbrev pub bad_gaps : ℕ → ℕ → Bool
bad_gaps tm tM = eqb tm 0 || ltb tM tm || ltb 1000000 tM

-- 9: the delay is above 10,000,000
abbrev pub bad_delay : ℕ → Bool
bad_delay d = ltb 10000000 d

-- confirmation's count is floor(D / Tm) + 1; `◌/◌` rounds down
abbrev pub count_of : ℕ → ℕ → ℕ
count_of tm d = d / tm + 1

-- "Votes take ceil(D / Tm) + 1"
abbrev pub ceil : ℕ → ℕ → ℕ
ceil d tm = (d + (tm - 1)) / tm

abbrev pub votes_of : ℕ → ℕ → ℕ
votes_of tm d = ceil d tm + 1

-- the age bound is n·N·TM + D, and the quiet gap, which two changes of one signal must exceed, is (n·N+1)·TM + D
abbrev pub age_bound : ℕ → ℕ → ℕ → ℕ → ℕ
age_bound n need tM d = n * need * tM + d

abbrev pub quiet_gap : ℕ → ℕ → ℕ → ℕ → ℕ
quiet_gap n need tM d = (n * need + 1) * tM + d

-- its refusals; 10: either count would exceed 1,000
abbrev pub size_rows : ℕ → ℕ → ℕ → ℕ → List Row
size_rows n tm tM d =
    2 when bad_width n ∷
    9 when (bad_gaps tm tM || bad_delay d) ∷
    10 when (ltb 1000 (count_of tm d) || ltb 1000 (votes_of tm d)) ∷
    []

-- refused: zeros
abbrev pub not_sized : Refusal → Sizing
not_sized refusal = record { refusal = Some refusal; need = 0; votes = 0; age = 0; quiet = 0 }

-- both counts; the age bound and the quiet gap use the confirmation's
abbrev pub sized : ℕ → ℕ → ℕ → ℕ → Sizing
sized n tm tM d =
    let need = count_of tm d in
    record { refusal = None; need = need; votes = votes_of tm d; age = age_bound n need tM d; quiet = quiet_gap n need tM d }

unfoldable pub sizing_of : ℕ → ℕ → ℕ → ℕ → Sizing
sizing_of n tm tM d = answer (first (size_rows n tm tM d)) not_sized (sized n tm tM d)
