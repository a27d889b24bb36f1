-- The start. What `rests` asks of the plant where the state was made by `Confirm::new` (T-04); and that the plant must have shown the
-- initial word, whatever that is, since it is the first word that is shown.
use mathlib.Core.Path.{◌≡◌, refl, ap, ◌∙◌}
use mathlib.Core.Logic.Dec
use mathlib.Core.Logic.{◌↔◌}
use mathlib.Core.List.{[], ◌∷◌, map}
use mathlib.Core.Bool.{Bool, true, false, not}
use Prim.Native.Nat.{ℕ, ◌-◌}
use native.Mathlib.Decide.{ℕ_discrete, dec_le, dec_lt}
use lib.ListN.{get_or}
use lib.Dec.{ltb, eqb}
use borrow.Author.Tests.{eqb-true, not-false}
use Rattle.std.specs.Prelude.{None}
use Rattle.rules.specs.Limits.{bad_count, bad_width, default_word}
use Rattle.rules.specs.Refusal.{number_in}
use Rattle.rules.specs.Signals.{as_word}
use Rattle.rules.specs.Table.{Given}
use Rattle.rules.specs.Refusals.{new_rows}
use Rattle.rules.proofs.Default.{default_exactly}
use Rattle.trace.specs.Trace.{trace, left}
use Rattle.trace.proofs.Steps.{shown_at}
use Rattle.confirm.specs.declared.Confirm.{Confirm}
use Rattle.confirm.specs.Confirm.{clauses, made_of}
use Rattle.confirm.specs.Run.{leaves, public_steps, shown_word}
use Rattle.confirm.proofs.Clauses.{by_tests}
use Rattle.confirm.proofs.Exactly.{new_exactly}
use Rattle.confirm.proofs.Confirm.new.Reads as new
use Rattle.plant.specs.Plant.{Watch, age_of, fresh_of, There, Rests, Observed, ShownBy, TrulyShown, outputs}
use Rattle.plant.specs.Film.{watch}
use Rattle.plant.specs.Films.{reserved}
use Rattle.plant.specs.Premises.{Premise, enough, fits, gap_least, gap_most, formed, late, forward, rests, quiet, AllBut}
use Rattle.plant.specs.Calls.{Means, NewOn, from_default, RestsAtOnes}
use Rattle.plant.proofs.Premises.{put_back}
use Rattle.plant.proofs.Calls.{steps_shown}
use Rattle.plant.proofs.Decisions.{implied, every_below, decide, dec_others}
use Rattle.plant.proofs.Films.{film_observed}

-- to rest at the default word is to rest at all ones
pub rests_at_ones : (w : Watch) → bad_width w.n ≡ false → Rests (from_default w) ↔ RestsAtOnes w
rests_at_ones w wide = (λ rest s l. (default_exactly w.n (w.plant s) wide).0 (rest s l), λ rest s l. (default_exactly w.n (w.plant s) wide).1 (rest s l))

-- no other premise speaks of the initial word
others_same : (w : Watch) → AllBut Premise.rests w → AllBut Premise.rests (from_default w)
others_same w others enough d = others enough d
others_same w others fits d = others fits d
others_same w others gap_least d = others gap_least d
others_same w others gap_most d = others gap_most d
others_same w others formed d = others formed d
others_same w others late d = others late d
others_same w others forward d = others forward d
others_same w others rests d = absurd (d refl)
others_same w others quiet d = others quiet d

-- demand 3 of the public steps from the state that `Confirm::new` made: the other premises, and a plant that rests at all ones
pub new_shown :
    (w : Watch) → AllBut Premise.rests w → RestsAtOnes w
    → Means (new.Learnt tt)
    (λ a z e. NewOn w a.0 a.1.0 z → TrulyShown w (map shown_word (public_steps z.state w.samples)))
new_shown w others ones a z e p on = rw is (steps_shown (from_default w) observed good.0 good.1.0) where
  is : z ≡ made_of w.n w.need (default_word w.n)
  is = p ∙ simp (on.same_width, on.same_need)

  made : (made_of w.n w.need (default_word w.n)).refusal ≡ None
  made = rw (← is) on.not_refused

  good : Given 0 (new_rows (bad_count w.need) w.n)
  good = (new_exactly w.n w.need 0).0 (ap number_in made)

  observed : Observed (from_default w)
  observed = put_back Premise.rests (from_default w) (others_same w others) ((rests_at_ones w good.1.0).1 ones)

-- a plant that rests at all ones, and then moves
pub reserved_observed : Observed (watch reserved)
unfolding dec_others decide every_below implied dec_lt dec_le ℕ_discrete Dec.and Dec.not as_word
reserved_observed = film_observed reserved tt

pub reserved_outputs : (default_word reserved.n ≡ reserved.initial) × (outputs (watch reserved) ≡ 3 ∷ 3 ∷ 3 ∷ 2 ∷ 2 ∷ 0 ∷ [])
unfolding trace clauses
reserved_outputs = (refl, refl)

-- the first word that is shown is the initial one, whatever the first sample is
module _ (w : Watch) (l : There w 0) where
  pub initial_first : get_or (outputs w) 0 0 ≡ w.initial
  unfolding left clauses
  initial_first = shown_at clauses leaves 0 shown_word 0 s w.samples 0 l ∙ go (not (eqb x w.initial)) (ltb 0 (w.need - 1)) refl where
    s : Confirm
    s = fresh_of w

    x : ℕ
    x = get_or w.samples 0 0

    go : (p r : Bool) → not (eqb x w.initial) ≡ p → shown_word (by_tests s x p r) ≡ w.initial
    go true r e = refl
    go false true e = refl
    go false false e = eqb-true x w.initial (not-false _ e)

  -- so the plant must have shown it, whatever it is, within the age bound
  pub initial_needed : TrulyShown w (outputs w) → ShownBy w.plant w.initial (w.taken 0) (age_of w)
  initial_needed shown = rw (← initial_first) (shown 0 l)
