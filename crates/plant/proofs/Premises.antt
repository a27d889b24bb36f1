-- All the premises together are the record of demand 3, and one that is left out can be put back.
use mathlib.Core.Path.{◌≡◌, refl, sym, ap, ◌∙◌}
use mathlib.Core.Logic.{◌↔◌, dite}
use mathlib.Core.List.{List, [], ◌∷◌}
use Prim.Native.Nat.{ℕ, ◌<◌}
use native.Mathlib.Omega.{arith}
use native.Mathlib.Decide.{ℕ_discrete}
use lib.ListN.{get_or}
use Rattle.plant.specs.Plant.{Watch, Observed}
use Rattle.plant.specs.Premises.{Premise, enough, fits, gap_least, gap_most, formed, late, forward, rests, quiet, Holds, AllBut}

pub all_premises : (w : Watch) → ((p : Premise) → Holds p w) ↔ Observed w
all_premises w = (
  λ h. record {
    enough = h enough;
    fits = h fits;
    gap_least = h gap_least;
    gap_most = h gap_most;
    formed = h formed;
    late = h late;
    forward = h forward;
    rests = h rests;
    quiet = h quiet;
  },
  back,
)
  where
    back : Observed w → (p : Premise) → Holds p w
    back o enough = o.enough
    back o fits = o.fits
    back o gap_least = o.gap_least
    back o gap_most = o.gap_most
    back o formed = o.formed
    back o late = o.late
    back o forward = o.forward
    back o rests = o.rests
    back o quiet = o.quiet

-- premises are told apart by their numbers
abbrev pub premises : List Premise
premises = enough ∷ fits ∷ gap_least ∷ gap_most ∷ formed ∷ late ∷ forward ∷ rests ∷ quiet ∷ []

abbrev pub number : Premise → ℕ
number enough = 0
number fits = 1
number gap_least = 2
number gap_most = 3
number formed = 4
number late = 5
number forward = 6
number rests = 7
number quiet = 8

pub by_number : (p : Premise) → get_or premises (number p) enough ≡ p
by_number enough = refl
by_number fits = refl
by_number gap_least = refl
by_number gap_most = refl
by_number formed = refl
by_number late = refl
by_number forward = refl
by_number rests = refl
by_number quiet = refl

pub number_small : (p : Premise) → number p < 9
number_small enough = omega arith
number_small fits = omega arith
number_small gap_least = omega arith
number_small gap_most = omega arith
number_small formed = omega arith
number_small late = omega arith
number_small forward = omega arith
number_small rests = omega arith
number_small quiet = omega arith

pub same_number : (p q : Premise) → number p ≡ number q → p ≡ q
same_number p q e = sym (by_number p) ∙ ap (λ k. get_or premises k enough) e ∙ by_number q

pub put_back : (p : Premise) (w : Watch) → AllBut p w → Holds p w → Observed w
put_back p w others h =
    (all_premises w).0
    (λ q. dite (ℕ_discrete (number p) (number q)) (λ e. rw (← same_number p q e) h) (λ d. others q (λ e. d (ap number (sym e)))))
