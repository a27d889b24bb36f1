-- The age bound is reached, document 000's is exceeded, and a library that shows the initial word for ever fails.
use mathlib.Core.Path.{◌≡◌, refl}
use mathlib.Core.Logic.Dec
use mathlib.Core.Logic.{◌≢◌, dite}
use mathlib.Core.List.{List, [], ◌∷◌, map}
use Prim.Native.Nat.{ℕ, zero, suc, ◌+◌, ◌*◌, ◌≤◌, ◌<◌}
use native.Mathlib.Omega.{arith}
use native.Mathlib.Decide.{ℕ_discrete, dec_le, dec_lt}
use native.Mathlib.Nat.{add-mul, one-mul}
use lib.ListN.{length, get_or}
use Rattle.rules.specs.Signals.{as_word}
use Rattle.trace.specs.Trace.{trace}
use Rattle.confirm.specs.Confirm.{clauses}
use Rattle.plant.specs.Plant.{Watch, age_of, There, Observed, ShownBy, TrulyShown, outputs}
use Rattle.plant.specs.Film.{watch}
use Rattle.plant.specs.Films.{slow}
use Rattle.plant.specs.Premises.{TooShort}
use Rattle.plant.specs.Edges.{paper_age, age_without_delay, one_run_fewer}
use Rattle.plant.proofs.Decisions.{implied, every_below, decide, dec_others, dec_missed}
use Rattle.plant.proofs.Shown.{truly_shown, longer}
use Rattle.plant.proofs.Films.{film_observed, not_shown}

pub slow_observed : Observed (watch slow)
unfolding dec_others decide every_below implied dec_lt dec_le ℕ_discrete Dec.and Dec.not as_word
slow_observed = film_observed slow tt

-- at sample 8 the word that is shown was last shown by the plant 8 before, n·N·TM + D
pub reached :
    let w = watch slow in
    (h : ShownBy w.plant (get_or (outputs w) 8 0) (w.taken 8) (age_of w))
    → h.moment + age_of w ≡ w.taken 8
unfolding dec_missed every_below implied dec_le ℕ_discrete Dec.not trace clauses
reached h =
    dite (ℕ_discrete (h.moment + 8) 10) (λ e. e)
    (λ d. absurd (not_shown (watch slow).plant (get_or (outputs (watch slow)) 8 0) 10 7 tt
    (record { moment = h.moment; no_later = h.no_later; recent = omega arith; whole = h.whole })))

-- so each age below 8 is too short there
too_short_lem : (age : Watch → ℕ) → age (watch slow) < 8 → TooShort age
too_short_lem age l = (watch slow, slow_observed, λ shown. let h = shown 8 (omega arith) in absurd (omega (arith, h.recent, reached (longer (omega arith) h))))

-- document 000's, where D is above TM, and the ages of the edits in must-fail/
pub paper_exceeded : TooShort paper_age
paper_exceeded = too_short_lem paper_age (omega arith)

-- (where D is at most TM, document 000's is right)
pub paper_holds : (w : Watch) → Observed w → w.d ≤ w.tM → (k : ℕ) → There w k → ShownBy w.plant (get_or (outputs w) k 0) (w.taken k) (paper_age w)
paper_holds w o small k l = longer (omega (arith, add-mul (w.n * w.need) 1 w.tM, one-mul w.tM)) (truly_shown w o k l)

pub age_without_delay_lem : TooShort age_without_delay
age_without_delay_lem = too_short_lem age_without_delay (omega arith)

pub one_run_fewer_lem : TooShort one_run_fewer
one_run_fewer_lem = too_short_lem one_run_fewer (omega arith)

-- the initial word for ever
abbrev pub frozen : Watch → List ℕ
frozen w = map (λ (x : ℕ). w.initial) w.samples

everywhere : (word : ℕ) (xs : List ℕ) (k : ℕ) → k < length xs → get_or (map (λ (x : ℕ). word) xs) k 0 ≡ word
everywhere word [] k l = absurd (omega (arith, l))
everywhere word (x ∷ xs) zero l = refl
everywhere word (x ∷ xs) (suc k) l = everywhere word xs k (omega arith)

-- fails at each sample before which the plant has not shown the initial word for longer than the age bound
pub frozen_fails :
    (w : Watch) (k : ℕ) → There w k
    → ((m : ℕ) → m ≤ w.taken k → w.taken k ≤ m + age_of w → w.plant m ≢ w.initial)
    → TrulyShown w (frozen w) → ⊥
frozen_fails w k l moved shown =
    let h = rw (everywhere w.initial w.samples k l) at (shown k l) in
    moved h.moment h.no_later h.recent h.whole

-- and there is such a sample where every premise holds
pub slow_not_frozen : TrulyShown (watch slow) (frozen (watch slow)) → ⊥
unfolding dec_missed every_below implied dec_le ℕ_discrete Dec.not
slow_not_frozen shown = not_shown (watch slow).plant 0 11 8 tt (shown 9 (omega arith))
