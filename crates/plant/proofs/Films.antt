-- What is decided of a film, read out: its premises, all or all but one, and that a word of it was not shown.
use Prim.Native.Nat.{ℕ}
use native.Mathlib.Omega.{arith}
use native.Mathlib.Decide.{dec_lt}
use lib.ListN.{length, get_or}
use Rattle.plant.specs.Plant.{age_of, Observed, ShownBy, TrulyShown, outputs}
use Rattle.plant.specs.Film.{Film, watch}
use Rattle.plant.specs.Premises.{Premise, AllBut}
use Rattle.plant.proofs.Premises.{all_premises, number, number_small, by_number, same_number}
use Rattle.plant.proofs.Decisions.{Sure, surely, dec_others, dec_missed}

pub film_all_but : (p : Premise) (f : Film) → Sure (dec_others (number p) f) → AllBut p (watch f)
film_all_but p f t q ne = rw (by_number q) at (surely (dec_others (number p) f) t (number q) (number_small q) (λ e. ne (same_number q p e)))

pub film_observed : (f : Film) → Sure (dec_others 9 f) → Observed (watch f)
film_observed f t = (all_premises (watch f)).0 (λ q. rw (by_number q) at (surely (dec_others 9 f) t (number q) (number_small q) (λ e. omega (arith, number_small q))))

pub not_shown : (plant : ℕ → ℕ) (word instant age : ℕ) → Sure (dec_missed plant word instant age) → ShownBy plant word instant age → ⊥
not_shown plant word instant age t h = surely (dec_missed plant word instant age) t h.moment (omega arith) h.recent h.whole

-- an output of a film that was not shown within the age bound
pub film_wrong :
    (f : Film) (k : ℕ) → let w = watch f in
    Sure (dec_lt k (length w.samples))
    → Sure (dec_missed w.plant (get_or (outputs w) k 0) (w.taken k) (age_of w))
    → TrulyShown w (outputs w) → ⊥
film_wrong f k there missed shown = not_shown _ _ _ _ missed (shown k (surely (dec_lt k (length f.samples)) there))
