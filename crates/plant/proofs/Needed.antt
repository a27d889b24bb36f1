-- No premise of demand 3 is idle: for each there is a watch in which all others hold, that one is nearly met, and an output is wrong.
use mathlib.Core.Path.{refl}
use mathlib.Core.Logic.Dec
use native.Mathlib.Omega.{arith}
use Prim.Native.Nat.{ℕ}
use native.Mathlib.Decide.{ℕ_discrete, dec_le, dec_lt}
use lib.ListN.{get_or, length}
use Rattle.rules.specs.Signals.{as_word}
use Rattle.trace.specs.Trace.{trace}
use Rattle.confirm.specs.Confirm.{clauses}
use Rattle.plant.specs.Plant.{Watch, age_of, outputs}
use Rattle.plant.specs.Film.{Film, watch}
use Rattle.plant.specs.Films.{breaks, ahead, late_start, uncounted}
use Rattle.plant.specs.Premises.{Premise, enough, fits, gap_least, gap_most, formed, late, forward, rests, quiet, Nearly, TooWeak}
use Rattle.plant.specs.Edges.{NotLate, NoCount, LateStart, CountOneLess, QuietWithoutDelay}
use Rattle.plant.proofs.Premises.{number}
use Rattle.plant.proofs.Decisions.{Sure, surely, implied, every_below, decide, dec_nearly, dec_quiet_without_delay, dec_not_late, dec_others, dec_missed}
use Rattle.plant.proofs.Films.{film_all_but, film_wrong}

module _ (p : Premise) (P : Watch → Type 0) (f : Film) (k : ℕ) where
  by_film :
      let w = watch f in
      P w
      → Sure (dec_others (number p) f)
      → Sure (dec_lt k (length f.samples))
      → Sure (dec_missed w.plant (get_or (outputs w) k 0) (w.taken k) (age_of w))
      → TooWeak p P
  by_film held others there missed = (watch f, film_all_but p f others, held, film_wrong f k there missed)

abbrev nearly : (p : Premise) → Sure (dec_nearly p (breaks p)) → Nearly p (watch (breaks p))
nearly p = surely (dec_nearly p (breaks p))

pub needed : (p : Premise) → TooWeak p (Nearly p)
unfolding dec_others dec_nearly dec_missed decide every_below implied dec_lt dec_le ℕ_discrete Dec.and Dec.not as_word trace clauses
needed enough = by_film enough (Nearly enough) (breaks enough) 2 (nearly enough tt) tt tt tt
needed fits = by_film fits (Nearly fits) (breaks fits) 1 (nearly fits tt) tt tt tt
needed gap_least = by_film gap_least (Nearly gap_least) (breaks gap_least) 3 (nearly gap_least tt) tt tt tt
needed gap_most = by_film gap_most (Nearly gap_most) (breaks gap_most) 1 (nearly gap_most tt) tt tt tt
needed formed = by_film formed (Nearly formed) (breaks formed) 1 (nearly formed tt) tt tt tt
needed late = by_film late (Nearly late) (breaks late) 9 (nearly late tt) tt tt tt
needed forward = by_film forward (Nearly forward) (breaks forward) 9 (nearly forward tt) tt tt tt
needed rests = by_film rests (Nearly rests) (breaks rests) 0 (nearly rests tt) tt tt tt
needed quiet = by_film quiet (Nearly quiet) (breaks quiet) 9 (nearly quiet tt) tt tt tt

-- nor is the other half of `late`
pub ahead_needed : TooWeak late NotLate
unfolding dec_not_late dec_others dec_missed decide every_below implied dec_lt dec_le ℕ_discrete Dec.and Dec.not as_word trace clauses
ahead_needed = by_film late NotLate ahead 2 (surely (dec_not_late ahead) tt) tt tt tt

-- the weaker premises end there too: one instant earlier is too early for the start, and N 0 does not do
pub start_needed : TooWeak rests LateStart
unfolding dec_others dec_missed decide every_below implied dec_lt dec_le ℕ_discrete Dec.and Dec.not as_word trace clauses
start_needed = by_film rests LateStart late_start 1 (0, refl, refl) tt tt tt

pub count_needed : TooWeak enough NoCount
unfolding dec_others dec_missed decide every_below implied dec_lt dec_le ℕ_discrete Dec.and Dec.not as_word trace clauses
count_needed = by_film enough NoCount uncounted 1 (omega arith) tt tt tt

-- the edits of must-fail/ that weaken a premise make the theorem false (a rest without the first sample's instant: `needed rests`)
pub count_one_less : TooWeak enough CountOneLess
unfolding dec_others dec_missed decide every_below implied dec_lt dec_le ℕ_discrete Dec.and Dec.not as_word trace clauses
count_one_less = by_film enough CountOneLess (breaks enough) 2 (omega arith) tt tt tt

pub quiet_without_delay : TooWeak quiet QuietWithoutDelay
unfolding dec_quiet_without_delay dec_others dec_missed decide every_below implied dec_lt dec_le ℕ_discrete Dec.and Dec.not as_word trace clauses
quiet_without_delay = by_film quiet QuietWithoutDelay (breaks quiet) 9 (surely (dec_quiet_without_delay (breaks quiet)) tt) tt tt tt
