-- With the numbers of `Sizing::of` the premise N·Tm > D holds, and the bounds are the ones that it returned.
use mathlib.Core.Path.{◌≡◌, sym, ap, ◌∙◌}
use Prim.Native.Nat.{ℕ}
use lib.ListN.{get_or}
use Rattle.std.specs.Prelude.{None}
use Rattle.sizing.specs.declared.Sizing.{Sizing}
use Rattle.sizing.specs.Sizing.{count_of, sized, sizing_of}
use Rattle.sizing.proofs.Taken.{its_numbers, serves}
use Rattle.sizing.proofs.Sizing.of.Reads as of
use Rattle.plant.specs.Plant.{Watch, There, ShownBy, outputs}
use Rattle.plant.specs.Premises.{Premise, AllBut}
use Rattle.plant.specs.Calls.{Means, SizedBy, Bounds}
use Rattle.plant.proofs.Premises.{put_back}
use Rattle.plant.proofs.Shown.{truly_shown}

-- what the definition gives is what the watch needs
module _ (w : Watch) (z : Sizing) (given : z ≡ sizing_of w.n w.tm w.tM w.d) (taken : z.refusal ≡ None) (its_count : z.need ≡ w.need) where
  not_refused : (sizing_of w.n w.tm w.tM w.d).refusal ≡ None
  not_refused = rw (← given) taken

  is : z ≡ sized w.n w.tm w.tM w.d
  is = given ∙ its_numbers w.n w.tm w.tM w.d not_refused

  need_is : w.need ≡ count_of w.tm w.d
  need_is = sym its_count ∙ ap (λ (z : Sizing). z.need) is

  as_needed : Bounds w z
  as_needed = record {
    enough = rw (← its_count, given) (serves w.n w.tm w.tM w.d not_refused).for_confirmation;
    age_is = rw need_is (sym (ap (λ (z : Sizing). z.age) is));
    quiet_is = rw need_is (sym (ap (λ (z : Sizing). z.quiet) is));
  }

pub bounds : (w : Watch) → Means (of.Learnt tt) (λ a z e. SizedBy w a.0 a.1.0 a.1.1.0 a.1.1.1.0 z → Bounds w z)
bounds w a z e p on = as_needed w z (p ∙ simp (on.same_width, on.same_least, on.same_greatest, on.same_delay)) on.not_refused on.its_count

-- so with N from the sizing the other premises are enough, and the age is at most the one returned
pub sized_shown :
    (w : Watch) → AllBut Premise.enough w
    → Means (of.Learnt tt)
    (λ a z e. SizedBy w a.0 a.1.0 a.1.1.0 a.1.1.1.0 z
    → (k : ℕ) → There w k → ShownBy w.plant (get_or (outputs w) k 0) (w.taken k) z.age)
sized_shown w others a z e p on =
    let b = bounds w a z e p on in
    rw (← b.age_is) (truly_shown w (put_back Premise.enough w others b.enough))
